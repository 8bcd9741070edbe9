-- The step of a Create-Job request (RFC 8011, section 4.2.4): that of a Print-Job with the same job, without the checks of the document. The documents of the job are still to come.
use Rattle.std.specs.Prelude.{ℕ, ◌≡◌, true, [], ◌∷◌, Result, MatchResult}
use Rattle.text.specs.Steps.{◌>>=◌}
use Rattle.events.specs.declared.event.JobCreation.{JobCreation}
use Rattle.events.specs.declared.effects.Effects.{Effects}
use Rattle.dispatcher.specs.declared.submission.Accepted.{Accepted}
use Rattle.dispatcher.specs.declared.checks.Rejection.{Rejection}
use Rattle.events.specs.Effects.{Replies}
use Rattle.dispatcher.specs.Answers.{Refuses, taken_with}
use Rattle.dispatcher.specs.Checks.{named_printer}
use Rattle.dispatcher.specs.Submission.{checked_job, group_of}
use Rattle.print_room.specs.State.{State}
use Rattle.print_room.specs.Jobs.{with_job_taken}

-- the accepted job, or the rejection of the first check that fails
abbrev pub created_of : JobCreation → ℕ → State → Result Accepted Rejection
created_of requested now old = named_printer requested.target old >>= checked_job requested 0 now old

-- the response has the job, and the job is kept under the next id, with its documents still to come
pub record CreatesIt (now : ℕ) (old : State) (accepted : Accepted) (effects : Effects) (new : State) : Type 0 where
  pub replies : Replies (taken_with accepted.unsupported) accepted.unsupported (group_of old accepted.job true ∷ []) effects
  pub state : new ≡ with_job_taken now accepted.job true old

-- the relation has at most one result: effects and a state
abbrev pub CreatesJob : ℕ → JobCreation → State → Effects → State → Type 0
CreatesJob now requested old effects new =
    MatchResult (created_of requested now old) (λ accepted. CreatesIt now old accepted effects new) (λ refusal. Refuses now old refusal effects new)
