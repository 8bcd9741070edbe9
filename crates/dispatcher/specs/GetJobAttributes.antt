-- The step of a Get-Job-Attributes request (RFC 8011, section 4.3.4): the response has the group of the job.
use Rattle.std.specs.Prelude.{ℕ, [], ◌∷◌, MatchResult}
use Rattle.listings.specs.Groups.{job_group}
use Rattle.events.specs.declared.event.GetJobAttributes.{GetJobAttributes}
use Rattle.events.specs.declared.effects.Effects.{Effects}
use Rattle.dispatcher.specs.Answers.{Refuses, Shows}
use Rattle.dispatcher.specs.Checks.{named_job}
use Rattle.print_room.specs.State.{State}

-- the relation has at most one result: effects and a state
abbrev pub ShowsJob : ℕ → GetJobAttributes → State → Effects → State → Type 0
ShowsJob now request old effects new =
    MatchResult (named_job request.target old)
    (λ job. Shows now old (job_group now request.requested old job ∷ []) effects new)
    (λ refusal. Refuses now old refusal effects new)
