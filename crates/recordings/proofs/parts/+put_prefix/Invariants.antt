use Rattle.std.proofs.Common.{length}
use Rattle.recordings.proofs.parts.+put_prefix.Given as goal

abbrev pub decreases-put_prefix : goal.decreases-put_prefix
decreases-put_prefix l = length l.parts.now
