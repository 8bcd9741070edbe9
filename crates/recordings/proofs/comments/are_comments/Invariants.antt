use Rattle.std.proofs.Common.{◌≡◌, drop}
use Rattle.recordings.specs.Noting.{are_comments, are_comments_from}
use Rattle.recordings.proofs.comments.are_comments.Given as goal

abbrev pub invariant-loop-byte : goal.invariant-loop-byte
invariant-loop-byte l = are_comments_from l.start (drop l.byte-index l.bytes) ≡ are_comments l.bytes
