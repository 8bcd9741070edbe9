-- The steps of a Hold-Job and a Release-Job request (RFC 8011, sections 4.3.5 and 4.3.6).
use Rattle.std.specs.Prelude.{ℕ, ◌≡◌, List, [], Result, Ok, MatchResult}
use Rattle.text.specs.Steps.{◌>>=◌}
use Rattle.ipp_codec.specs.Message.{IppAttribute}
use Rattle.job_objects.specs.declared.job_change.JobChange.{JobChange}
use Rattle.job_objects.specs.declared.job_change.JobChange.TheVariants.{Hold, Release}
use Rattle.events.specs.declared.event.HoldJob.{HoldJob}
use Rattle.events.specs.declared.event.HoldUntil.{HoldUntil}
use Rattle.events.specs.declared.event.HoldUntil.TheVariants.{NoHold, Indefinite, Unsupported}
use Rattle.events.specs.declared.event.JobRequest.{JobRequest}
use Rattle.events.specs.declared.effects.Effects.{Effects}
use Rattle.dispatcher.specs.declared.checks.Rejection.{Rejection}
use Rattle.events.specs.Effects.{Replies}
use Rattle.dispatcher.specs.Answers.{Refuses, taken_with}
use Rattle.dispatcher.specs.Checks.{named_job, unrefused}
use Rattle.print_room.specs.State.{State}
use Rattle.print_room.specs.Jobs.{asked_refusal, changing}

-- the id of the changed job, or the rejection of the first check that fails
abbrev pub changed_of : JobRequest → JobChange → ℕ → State → Result ℕ Rejection
changed_of request change now old =
    named_job request.target old >>= (λ job.
    unrefused (asked_refusal job.id request.user change now old) >>= (λ _.
    Ok job.id))

-- the job is changed, and the response has the unsupported attributes
pub record ChangesIt (now : ℕ) (old : State) (change : JobChange) (unsupported : List IppAttribute) (id : ℕ) (effects : Effects) (new : State) : Type 0 where
  pub replies : Replies (taken_with unsupported) unsupported [] effects
  pub state : new ≡ changing now id change old

abbrev pub ChangesJob : ℕ → JobRequest → JobChange → List IppAttribute → State → Effects → State → Type 0
ChangesJob now request change unsupported old effects new =
    MatchResult (changed_of request change now old) (λ id. ChangesIt now old change unsupported id effects new) (λ refusal. Refuses now old refusal effects new)

-- `no-hold` releases the job; any other value holds it, and is returned as unsupported unless it is `indefinite`
abbrev pub HoldsUntil : ℕ → JobRequest → HoldUntil → State → Effects → State → Type 0
HoldsUntil now request NoHold old effects new = ChangesJob now request Release [] old effects new
HoldsUntil now request Indefinite old effects new = ChangesJob now request Hold [] old effects new
HoldsUntil now request (Unsupported attribute) old effects new = ChangesJob now request Hold attribute old effects new

-- the relation has at most one result: effects and a state
abbrev pub HoldsJob : ℕ → HoldJob → State → Effects → State → Type 0
HoldsJob now request old effects new = HoldsUntil now request.job request.until old effects new

abbrev pub ReleasesJob : ℕ → JobRequest → State → Effects → State → Type 0
ReleasesJob now request old effects new = ChangesJob now request Release [] old effects new
