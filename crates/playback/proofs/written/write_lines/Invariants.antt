use Rattle.std.proofs.Common.{length}
use Rattle.playback.proofs.written.write_lines.Given as goal

abbrev pub decreases-loop-cut : goal.decreases-loop-cut
decreases-loop-cut l = length l.rest
