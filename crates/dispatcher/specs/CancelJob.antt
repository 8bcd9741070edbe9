-- The step of a Cancel-Job request (RFC 8011, section 4.3.3): the job is canceled at once. A device that has the job is notified, and keeps the job until it reports that it is done.
use Rattle.std.specs.Prelude.{ℕ, ◌≡◌, List, [], map, option_to_list, Result, Ok, MatchResult}
use Rattle.text.specs.Steps.{◌>>=◌}
use Rattle.events.specs.declared.event.JobRequest.{JobRequest}
use Rattle.events.specs.declared.effects.Cancel.{Cancel}
use Rattle.events.specs.declared.effects.Effects.{Effects}
use Rattle.dispatcher.specs.declared.checks.Rejection.{Rejection}
use Rattle.events.specs.declared.status.Status.TheVariants as Went
use Rattle.events.specs.Effects.{IsResponse}
use Rattle.dispatcher.specs.Answers.{Refuses}
use Rattle.dispatcher.specs.Checks.{named_job, unrefused}
use Rattle.print_room.specs.State.{State}
use Rattle.print_room.specs.DeviceJobs.{device_of}
use Rattle.print_room.specs.Jobs.{canceling_refusal, canceling}

-- the id of the canceled job, or the rejection of the first check that fails
abbrev pub canceled_of : JobRequest → State → Result ℕ Rejection
canceled_of request old =
    named_job request.target old >>= (λ job.
    unrefused (canceling_refusal job.id request.user old) >>= (λ _.
    Ok job.id))

-- the cancel for the device that has the job, if a device has it
abbrev pub cancels_of : ℕ → State → List Cancel
cancels_of id old = map (λ device. record { job = id; device = device }) (option_to_list (device_of old.devices id))

-- the job is canceled by the user of the request
pub record CancelsIt (now : ℕ) (old : State) (name : List ℕ) (id : ℕ) (effects : Effects) (new : State) : Type 0 where
  pub response : IsResponse Went.Ok [] [] effects.response
  pub cancels : effects.cancels.items ≡ cancels_of id old
  pub documents : effects.documents.items ≡ []
  pub state : new ≡ canceling now id name old

-- the relation has at most one result: effects and a state
abbrev pub CancelsJob : ℕ → JobRequest → State → Effects → State → Type 0
CancelsJob now request old effects new =
    MatchResult (canceled_of request old) (λ id. CancelsIt now old request.user id effects new) (λ refusal. Refuses now old refusal effects new)
