use Rattle.std.proofs.Common.{length}
use Rattle.announcements.proofs.port.+after_colon.Given as goal

abbrev pub decreases-after_colon : goal.decreases-after_colon
decreases-after_colon l = length l.authority.now
