use Rattle.std.proofs.Common.{◌≡◌, ◌++◌, length}
use Rattle.recordings.specs.Data.{escaped}
use Rattle.recordings.proofs.data.put_data.Given as goal

abbrev pub invariant-loop-cut : goal.invariant-loop-cut
invariant-loop-cut l = l.output.items ++ escaped l.rest ≡ l.initial.output.items ++ escaped l.bytes

abbrev pub decreases-loop-cut : goal.decreases-loop-cut
decreases-loop-cut l = length l.rest
