-- The events of the core for an LPD client's jobs and commands (RFC 1179, sections 5.3 to 5.5 and 6).
use Rattle.std.specs.Prelude.{◌≡◌}
use Rattle.lpd.specs.Items.{CommandRecord, ListsShort, ListsLong, RemovesJobs}
use Rattle.lpd.specs.Session.{SentRecord}
use Rattle.events.specs.declared.queue.QueueForm.TheVariants.{Short, Long}
use Rattle.events.specs.declared.event.Event.{Event}
use Rattle.events.specs.declared.event.Event.TheVariants as Is

-- the event of a job of files
abbrev pub SubmitsJob : SentRecord → Event → Type 0
SubmitsJob job (Is.SubmitFiles request) = (request.queue ≡ job.queue) × (request.owner ≡ job.owner) × (request.name ≡ job.name) × (request.documents.items ≡ job.documents)
SubmitsJob job _ = ⊥

-- the event of a command
abbrev pub IsCommand : CommandRecord → Event → Type 0
IsCommand (ListsShort queue operands) (Is.ListQueue request) = (request.queue ≡ queue) × (request.form ≡ Short) × (request.operands.items ≡ operands)
IsCommand (ListsLong queue operands) (Is.ListQueue request) = (request.queue ≡ queue) × (request.form ≡ Long) × (request.operands.items ≡ operands)
IsCommand (RemovesJobs queue agent operands) (Is.RemoveJobs request) = (request.queue ≡ queue) × (request.agent ≡ agent) × (request.operands.items ≡ operands)
IsCommand _ _ = ⊥
