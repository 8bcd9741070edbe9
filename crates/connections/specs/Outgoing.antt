-- The bytes of the messages that a connection sends.
use Rattle.std.specs.Prelude.{ℕ, Bool, true, false, List}
use Rattle.device_link.specs.Orders.{cancel_line}
use Rattle.http_front.specs.Reply.{continue_head}
use Rattle.connections.specs.Reply.{http_reply, refusal_head}
use Rattle.connections.specs.declared.outgoing.Outgoing.{Outgoing}
use Rattle.connections.specs.declared.outgoing.Outgoing.TheVariants as sends

abbrev pub bytes_of : Outgoing → List ℕ
bytes_of (sends.Bytes bytes) = bytes.now
bytes_of sends.Continue = continue_head
bytes_of (sends.Refusal refusal) = refusal_head refusal
bytes_of (sends.Reply closes body) = http_reply closes body.now
bytes_of (sends.Cancel job) = cancel_line job
bytes_of (sends.Job job) = job

abbrev pub is_job : Outgoing → Bool
is_job (sends.Bytes bytes) = false
is_job sends.Continue = false
is_job (sends.Refusal refusal) = false
is_job (sends.Reply closes body) = false
is_job (sends.Cancel job) = false
is_job (sends.Job job) = true
