use Rattle.std.proofs.Common.{◌≡◌, ◌≤◌, ◌+◌, ◌++◌, ℕ, suc, List, length}
use Rattle.replay.specs.Acting.{standing, IsReady}
use Rattle.traces.specs.Lines.{lines_of}
use Rattle.replay.proofs.Reach.{Reached}
use Rattle.replay.proofs.run.play_lines.Given as goal

abbrev pub invariant-loop-cut : goal.invariant-loop-cut
invariant-loop-cut l =
    (done : List ℕ) × (l.output.items ≡ l.initial.output.items ++ done)
    × Reached l.initial.play.log.texts l.initial.play.log.names (suc l.before) (lines_of l.lines) (standing l.initial.play) l.initial.play.engine done (suc l.number) (lines_of l.rest) (standing l.play) l.play.engine
    × (l.play.log ≡ l.initial.play.log) × IsReady l.play × (l.number + length l.rest ≤ l.before + length l.lines)

abbrev pub decreases-loop-cut : goal.decreases-loop-cut
decreases-loop-cut l = length l.rest
