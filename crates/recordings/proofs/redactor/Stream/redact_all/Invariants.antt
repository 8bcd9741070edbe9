use Rattle.std.proofs.Common.{length, ◌+◌, ◌≡◌}
use Rattle.recordings.proofs.redactor.Stream.redact_all.Given as goal

abbrev pub invariant-loop-rest : goal.invariant-loop-rest
invariant-loop-rest l = l.output + length l.rest ≡ l.initial.output + length l.bytes

abbrev pub decreases-loop-rest : goal.decreases-loop-rest
decreases-loop-rest l = length l.rest
