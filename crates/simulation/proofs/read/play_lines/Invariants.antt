use Rattle.std.proofs.Common.{length}
use Rattle.simulation.proofs.read.play_lines.Given as goal

abbrev pub decreases-loop-cut : goal.decreases-loop-cut
decreases-loop-cut l = length l.rest
