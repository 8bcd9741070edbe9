-- The step of an LPD client's request to remove jobs from a queue (RFC 1179, section 5.5): each job is canceled at once, by rising id. A device that has such a job is notified, and keeps it until it reports that it is done.
use Rattle.std.specs.Prelude.{ℕ, ◌≡◌, if◌then◌else◌, List, []}
use Rattle.std.specs.List.{flat_map}
use Rattle.job_objects.specs.Job.{JobRecord}
use Rattle.events.specs.declared.effects.Response.TheVariants as responds
use Rattle.events.specs.declared.effects.Cancel.{Cancel}
use Rattle.events.specs.declared.effects.Effects.{Effects}
use Rattle.dispatcher.specs.CancelJob.{cancels_of}
use Rattle.events.specs.declared.queue.RemoveJobs.{RemoveJobs}
use Rattle.listings.specs.Removal.{is_named, removed_jobs}
use Rattle.print_room.specs.State.{State}
use Rattle.print_room.specs.Jobs.{canceling_each}

-- the cancels for jobs, each for the device that has the job
abbrev pub cancels_of_each : List ℕ → State → List Cancel
cancels_of_each ids old = flat_map (λ id. cancels_of id old) ids

-- the cancels for one job, if the request names it; `place` is that of the printer
abbrev pub cancels_if_named : ℕ → RemoveJobs → State → JobRecord → List Cancel
cancels_if_named place request old job = if is_named place request job then cancels_of job.id old else []

-- the cancels for the removed jobs
abbrev pub due_cancels : RemoveJobs → State → List Cancel
due_cancels request old = cancels_of_each (removed_jobs request old) old

-- There is no response, and there is one state after it. If no job is removed, only the last moment changes.
pub record RemovesJobs (now : ℕ) (request : RemoveJobs) (old : State) (effects : Effects) (new : State) : Type 0 where
  pub unanswered : effects.response ≡ responds.Nothing
  pub cancels : effects.cancels.items ≡ due_cancels request old
  pub documents : effects.documents.items ≡ []
  pub state : new ≡ canceling_each now request.agent (removed_jobs request old) old
