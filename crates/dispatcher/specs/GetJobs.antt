-- The step of a Get-Jobs request (RFC 8011, section 4.2.6): the response has a group for each requested job.
use Rattle.std.specs.Prelude.{ℕ, Bool, true, false, if◌then◌else◌, List, Option, Some, None, Result, Ok, Err, MatchResult}
use Rattle.text.specs.Steps.{◌>>=◌}
use Rattle.listings.specs.Listing.{WantedJobs}
use Rattle.listings.specs.Groups.{job_groups}
use Rattle.events.specs.declared.event.GetJobs.{GetJobs}
use Rattle.events.specs.declared.event.WhichJobs.{WhichJobs}
use Rattle.events.specs.declared.event.WhichJobs.TheVariants.{Completed, NotCompleted, Unsupported}
use Rattle.events.specs.declared.effects.Effects.{Effects}
use Rattle.dispatcher.specs.declared.checks.Rejection.{Rejection}
use Rattle.events.specs.declared.status.Status.TheVariants as Went
use Rattle.dispatcher.specs.Answers.{Refuses, Shows}
use Rattle.dispatcher.specs.Checks.{named_printer}
use Rattle.print_room.specs.State.{State}

-- whether finished jobs are requested; an unsupported which-jobs is a rejection with that attribute, unchanged
abbrev pub lists_finished : WhichJobs → Result Bool Rejection
lists_finished Completed = Ok true
lists_finished NotCompleted = Ok false
lists_finished (Unsupported attribute) = Err (record { status = Went.AttributesNotSupported; unsupported = attribute })

-- the owner of the requested jobs, if my-jobs limits them to those of the request's user
abbrev pub listed_owner : Bool → List ℕ → Option (List ℕ)
listed_owner mine user = if mine then Some user else None

-- the requested jobs, or the rejection of the first check that fails
abbrev pub wanted_of : GetJobs → State → Result WantedJobs Rejection
wanted_of request old =
    named_printer request.printer.target old >>= (λ printer.
    lists_finished request.which >>= (λ finished.
    Ok (record { printer = printer.id; finished = finished; owner = listed_owner request.mine request.printer.user; limit = request.limit })))

-- the relation has at most one result: effects and a state
abbrev pub ListsJobs : ℕ → GetJobs → State → Effects → State → Type 0
ListsJobs now request old effects new =
    MatchResult (wanted_of request old)
    (λ wanted. Shows now old (job_groups wanted now request.requested old) effects new)
    (λ refusal. Refuses now old refusal effects new)
