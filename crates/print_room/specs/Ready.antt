-- The ready jobs (RFC 8011, section 5.3.7): those that some device can print, by priority, and those that no device can print.
use Rattle.std.specs.Prelude.{ℕ, ◌==◌, ◌&&◌, Bool, is_none, List, filter, Option, option_map}
use Rattle.std.specs.List.{filter_map}
use Rattle.base_types.specs.declared.needs.Cause.{Cause}
use Rattle.base_types.specs.declared.needs.Stranded.{Stranded}
use Rattle.job_objects.specs.Job.{JobRecord}
use Rattle.spool.specs.Ready.{ready_jobs}
use Rattle.plan_problem.specs.Cause.{cause_of}
use Rattle.plan_problem.specs.ClassJob.{printer_of}
use Rattle.print_room.specs.State.{State, sets_of}

-- the jobs that are pending and whose printer isn't paused, by rising id
abbrev pub ready_of : State → List JobRecord
ready_of state = ready_jobs state.paused state.spool.jobs

-- the cause, if no device of a job's printer can print the job
abbrev pub cause_in : State → JobRecord → Option Cause
cause_in state job = cause_of job.needs (printer_of job.needs (sets_of state.settings)) state.devices

-- the entry of the job, if no device can print it
abbrev pub stranding : State → JobRecord → Option Stranded
stranding state job = option_map (λ cause. record { job = job.id; cause = cause }) (cause_in state job)

-- the ready jobs that no device can print, by rising id, each with its cause
abbrev pub stranded_of : State → List Stranded
stranded_of state = filter_map (stranding state) (ready_of state)

-- whether a job has the priority and some device can print it
abbrev pub belongs : State → ℕ → JobRecord → Bool
belongs state priority job = (job.priority == priority) && is_none (cause_in state job)

-- the class of a priority: its ready jobs that some device can print, by rising id
abbrev pub class_of : State → ℕ → List JobRecord
class_of state priority = filter (belongs state priority) (ready_of state)
