-- The values of job-state, and which of them are pending or final (RFC 8011, section 5.3.7).
use Rattle.std.specs.Prelude.{ℕ, Bool, true, false, ◌||◌, if◌then◌else◌}
use Rattle.job_objects.specs.declared.job_state.JobState.{JobState}
use Rattle.job_objects.specs.declared.job_state.JobState.TheVariants.{Pending, PendingHeld, Processing, Stopped, Canceled, Aborted, Completed}

-- the state of a job that no device has had: held while its documents are still to come or it is held, else pending
abbrev pub waiting_state : Bool → Bool → JobState
waiting_state incoming held = if incoming || held then PendingHeld else Pending

abbrev pub state_code : JobState → ℕ
state_code Pending = 3
state_code PendingHeld = 4
state_code Processing = 5
state_code Stopped = 6
state_code Canceled = 7
state_code Aborted = 8
state_code Completed = 9

-- whether a job of this state may be planned: it is complete, and it isn't held
abbrev pub is_pending : JobState → Bool
is_pending Pending = true
is_pending PendingHeld = false
is_pending Processing = false
is_pending Stopped = false
is_pending Canceled = false
is_pending Aborted = false
is_pending Completed = false

abbrev pub is_finished : JobState → Bool
is_finished Pending = false
is_finished PendingHeld = false
is_finished Processing = false
is_finished Stopped = false
is_finished Canceled = true
is_finished Aborted = true
is_finished Completed = true
