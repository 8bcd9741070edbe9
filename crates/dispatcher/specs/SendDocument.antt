-- The step of a Send-Document request (RFC 8011, section 4.3.1): a document is added to a job whose documents are still to come. With the last document the job is complete.
use Rattle.std.specs.Prelude.{ℕ, ◌≡◌, not, Bool, List, [], ◌∷◌, length, Some, Result, Ok, MatchResult}
use Rattle.text.specs.Steps.{◌>>=◌}
use Rattle.ipp_codec.specs.Message.{IppGroup}
use Rattle.job_objects.specs.Job.{JobRecord}
use Rattle.job_objects.specs.JobState.{waiting_state}
use Rattle.job_objects.specs.Reasons.{waiting_reasons}
use Rattle.printer_objects.specs.Created.{created_attributes, created_group}
use Rattle.spool.specs.Calls.{paused_at}
use Rattle.spool.specs.Jobs.{job_at}
use Rattle.events.specs.declared.event.SendDocument.{SendDocument}
use Rattle.events.specs.declared.effects.Effects.{Effects}
use Rattle.dispatcher.specs.declared.send_document.Sent.{Sent}
use Rattle.dispatcher.specs.declared.checks.NamedPrinter.{NamedPrinter}
use Rattle.dispatcher.specs.declared.checks.Rejection.{Rejection}
use Rattle.events.specs.declared.status.Status.TheVariants as Went
use Rattle.events.specs.Effects.{Replies}
use Rattle.dispatcher.specs.Answers.{Refuses}
use Rattle.dispatcher.specs.Checks.{named_job, printer_of_job, checked_format, unrefused}
use Rattle.print_room.specs.State.{State}
use Rattle.print_room.specs.Jobs.{sending_refusal, sending}

-- the group of the job after the step: its documents are still to come, unless this document was the last (`Core::sent_is_shown` states that it is the job's group in the state after it)
abbrev pub sent_group : State → JobRecord → Bool → IppGroup
sent_group old job last =
    created_attributes old.settings.uri_base job.id (waiting_state (not last) job.held) (waiting_reasons (not last) job.held job.stranded (paused_at old.paused job.needs.printer))

-- the job with its format and its group, or the rejection of the first check that fails, with a known job, printer and format
abbrev pub sent_in_format : SendDocument → State → JobRecord → List ℕ → Result Sent Rejection
sent_in_format request old job format =
    unrefused (sending_refusal job.id request.job.user (length request.octets) request.last old) >>= (λ _.
    Ok (record { job = job.id; format = format; groups = sent_group old job request.last ∷ [] }))

-- with a known job and printer
abbrev pub sent_to_printer : SendDocument → State → JobRecord → NamedPrinter → Result Sent Rejection
sent_to_printer request old job printer = checked_format request.form printer.offer >>= sent_in_format request old job

-- with a known job
abbrev pub sent_to_job : SendDocument → State → JobRecord → Result Sent Rejection
sent_to_job request old job = printer_of_job job old >>= sent_to_printer request old job

-- by its job
abbrev pub sent_of : SendDocument → State → Result Sent Rejection
sent_of request old = named_job request.job.target old >>= sent_to_job request old

-- the response has the job's group, and the job has the document
pub record SendsIt (now : ℕ) (old : State) (request : SendDocument) (sent : Sent) (effects : Effects) (new : State) : Type 0 where
  pub replies : Replies Went.Ok [] sent.groups effects
  pub state : new ≡ sending now sent.job (record { format = sent.format; contents = request.octets }) request.last old

-- the relation has at most one result: effects and a state
abbrev pub SendsDocument : ℕ → SendDocument → State → Effects → State → Type 0
SendsDocument now request old effects new =
    MatchResult (sent_of request old) (λ sent. SendsIt now old request sent effects new) (λ refusal. Refuses now old refusal effects new)

-- the groups are the one group of the job of an id, in this state
abbrev pub IsShown : ℕ → List IppGroup → State → Type 0
IsShown id groups now = (job : JobRecord) × (job_at id now.spool.jobs ≡ Some job) × (groups ≡ created_group now.settings.uri_base job (paused_at now.paused job.needs.printer) ∷ [])
