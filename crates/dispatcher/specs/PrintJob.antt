-- The step of a Print-Job request (RFC 8011, section 4.2.1): its rejection, or the job that it makes and the response.
use Rattle.std.specs.Prelude.{ℕ, ◌≡◌, false, List, [], ◌∷◌, length, Result, Ok, MatchResult}
use Rattle.text.specs.Steps.{◌>>=◌}
use Rattle.events.specs.declared.event.PrintJob.{PrintJob}
use Rattle.events.specs.declared.effects.Effects.{Effects}
use Rattle.dispatcher.specs.declared.submission.Accepted.{Accepted}
use Rattle.dispatcher.specs.declared.checks.NamedPrinter.{NamedPrinter}
use Rattle.dispatcher.specs.declared.checks.Rejection.{Rejection}
use Rattle.events.specs.Effects.{Replies}
use Rattle.dispatcher.specs.Answers.{Refuses, taken_with}
use Rattle.dispatcher.specs.Checks.{named_printer, checked_format}
use Rattle.dispatcher.specs.Submission.{checked_job, of_documents, group_of}
use Rattle.print_room.specs.State.{State}
use Rattle.print_room.specs.Jobs.{with_job_taken}

-- ---- the accepted job, or the rejection of the first check that fails

-- with a known printer and format: a job of the one document
abbrev pub checked_for_format : PrintJob → ℕ → State → NamedPrinter → List ℕ → Result Accepted Rejection
checked_for_format request now old printer format =
    checked_job request.job (length request.octets) now old printer >>= (λ accepted.
    Ok (of_documents (record { format = format; contents = request.octets } ∷ []) accepted))

-- with a known printer
abbrev pub checked_for_printer : PrintJob → ℕ → State → NamedPrinter → Result Accepted Rejection
checked_for_printer request now old printer =
    checked_format request.form printer.offer >>= checked_for_format request now old printer

-- by its printer
abbrev pub checked_of : PrintJob → ℕ → State → Result Accepted Rejection
checked_of request now old = named_printer request.job.target old >>= checked_for_printer request now old

-- ---- the step

-- the response has the job, and the job is kept under the next id
pub record TakesJob (now : ℕ) (old : State) (accepted : Accepted) (effects : Effects) (new : State) : Type 0 where
  pub replies : Replies (taken_with accepted.unsupported) accepted.unsupported (group_of old accepted.job false ∷ []) effects
  pub state : new ≡ with_job_taken now accepted.job false old

-- the relation has at most one result: effects and a state
abbrev pub PrintsJob : ℕ → PrintJob → State → Effects → State → Type 0
PrintsJob now request old effects new =
    MatchResult (checked_of request now old) (λ accepted. TakesJob now old accepted effects new) (λ refusal. Refuses now old refusal effects new)
