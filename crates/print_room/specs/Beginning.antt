-- The conditions under which devices can begin jobs.
use Rattle.std.specs.Prelude.{ℕ, ◌≡◌, ◌&&◌, not, Bool, true, false, List, [], ◌∷◌, None}
use Rattle.std.specs.Option.{option_map_or}
use Rattle.job_objects.specs.JobState.{is_pending}
use Rattle.spool.specs.Spooled.{SpooledRecord}
use Rattle.spool.specs.Jobs.{spooled_at}
use Rattle.print_room.specs.declared.started.Started.{Started}
use Rattle.print_room.specs.State.{State}
use Rattle.print_room.specs.DeviceJobs.{job_of}
use Rattle.print_room.specs.Dispatch.{beginning}

-- whether a job is pending and no device has it
abbrev pub is_waiting : SpooledRecord → Bool
is_waiting spooled = is_pending spooled.job.state && not spooled.on_device

-- whether the job of an id is pending and no device has it
abbrev pub waits_at : ℕ → List SpooledRecord → Bool
waits_at id jobs = option_map_or is_waiting (spooled_at id jobs) false

-- the device has no job, the job is pending, and no device has the job
pub record CanBegin (start : Started) (state : State) : Type 0 where
  pub free : job_of state.devices start.device ≡ None
  pub waits : waits_at start.job state.spool.jobs ≡ true

-- each job can begin after those before it have begun
abbrev pub AllCanBegin : ℕ → List Started → State → Type 0
AllCanBegin now [] state = Unit {0}
AllCanBegin now (start ∷ starts) state = CanBegin start state × AllCanBegin now starts (beginning now start state)
