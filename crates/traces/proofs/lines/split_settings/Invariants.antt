use Rattle.std.proofs.Common.{◌≤◌, ◌+◌, length}
use Rattle.traces.proofs.Settings.{Passed}
use Rattle.traces.proofs.lines.split_settings.Given as goal

abbrev pub invariant-loop-cut : goal.invariant-loop-cut
invariant-loop-cut l = record { within : l.count + length l.rest ≤ length l.trace; passed : Passed l.trace l.rest l.count }

abbrev pub decreases-loop-cut : goal.decreases-loop-cut
decreases-loop-cut l = length l.rest
