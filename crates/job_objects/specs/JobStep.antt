-- The table of states: the job after each change (RFC 8011, section 5.3.7).
use Rattle.std.specs.Prelude.{ℕ, Bool, true, false, ◌||◌, if◌then◌else◌, Option, Some, None, unwrap_or}
use Rattle.job_objects.specs.declared.job_state.JobState.{JobState}
use Rattle.job_objects.specs.declared.job_state.JobState.TheVariants.{Pending, PendingHeld, Processing, Stopped, Canceled, Aborted, Completed}
use Rattle.job_objects.specs.declared.job_change.JobChange.{JobChange}
use Rattle.job_objects.specs.declared.job_change.JobChange.TheVariants.{Close, Hold, Release, Begin, Stop, Continue, Cancel, Done, Fail}
use Rattle.job_objects.specs.Job.{JobRecord}

-- the job gets a state other than pending, and isn't stranded any more
abbrev pub moved : JobState → JobRecord → JobRecord
moved state job = record job { state = state; stranded = false }

-- a job that no device has had: held while its documents are still to come or it is held, else pending
abbrev pub waiting : JobRecord → JobRecord
waiting job = if job.incoming || job.held then moved PendingHeld job else record job { state = Pending }

-- a finished job
abbrev pub ended : JobState → ℕ → JobRecord → JobRecord
ended state now job = record (moved state job) { incoming = false; finished = Some now }

-- the job after a change from a state, if the state allows the change
abbrev pub changed_from : JobChange → JobState → ℕ → JobRecord → Option JobRecord
changed_from Close PendingHeld now job = if job.incoming then Some (waiting (record job { incoming = false })) else None
changed_from Hold Pending now job = Some (waiting (record job { held = true }))
changed_from Hold PendingHeld now job = Some (waiting (record job { held = true }))
changed_from Release Pending now job = Some (waiting (record job { held = false }))
changed_from Release PendingHeld now job = Some (waiting (record job { held = false }))
changed_from Release Processing now job = Some job
changed_from Release Stopped now job = Some job
changed_from Begin Pending now job = Some (record (moved Processing job) { started = Some now })
changed_from Stop Processing now job = Some (moved Stopped job)
changed_from Continue Stopped now job = Some (moved Processing job)
changed_from (Cancel by) Pending now job = Some (record (ended Canceled now job) { canceled_by = Some by })
changed_from (Cancel by) PendingHeld now job = Some (record (ended Canceled now job) { canceled_by = Some by })
changed_from (Cancel by) Processing now job = Some (record (ended Canceled now job) { canceled_by = Some by })
changed_from (Cancel by) Stopped now job = Some (record (ended Canceled now job) { canceled_by = Some by })
changed_from Done Processing now job = Some (ended Completed now job)
changed_from Done Stopped now job = Some (ended Completed now job)
changed_from Fail PendingHeld now job = if job.incoming then Some (ended Aborted now job) else None
changed_from Fail Processing now job = Some (ended Aborted now job)
changed_from Fail Stopped now job = Some (ended Aborted now job)
changed_from _ _ now job = None

abbrev pub job_after : JobChange → ℕ → JobRecord → Option JobRecord
job_after change now job = changed_from change job.state now job

-- the job after the change, unchanged if its state doesn't allow the change
abbrev pub stepped : JobChange → ℕ → JobRecord → JobRecord
stepped change now job = unwrap_or (job_after change now job) job

-- whether the job's print ends, if its device reports this change
abbrev pub ends_print : JobChange → Bool
ends_print Done = true
ends_print Fail = true
ends_print _ = false
