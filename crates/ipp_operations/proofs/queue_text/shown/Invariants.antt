use Rattle.std.proofs.Common.{◌≡◌, take}
use Rattle.ipp_operations.specs.QueueText.{shown}
use Rattle.ipp_operations.proofs.queue_text.shown.Given as goal

abbrev pub invariant-loop-byte : goal.invariant-loop-byte
invariant-loop-byte l = l.written.items ≡ shown l.one_word (take l.byte-index l.bytes)
