use Rattle.std.proofs.Common.{length, ◌+◌, ◌≡◌, ◌≤◌}
use Rattle.recordings.proofs.http_stream.HttpStream.redact_parts.Given as goal

abbrev pub invariant-loop : goal.invariant-loop
invariant-loop l = (l.count ≤ length l.bytes) × (l.output ≡ l.initial.output + l.count)
