-- The state of a printer (RFC 8011, section 5.4.11) and its reason (section 5.4.12).
use Rattle.std.specs.Prelude.{ℕ, Bool, true, false, ◌==◌, ◌&&◌, List, codes}
use Rattle.job_objects.specs.declared.job_state.JobState.{JobState}
use Rattle.job_objects.specs.declared.job_state.JobState.TheVariants as Job
use Rattle.job_objects.specs.Job.{JobRecord}
use Rattle.printer_objects.specs.declared.state.PrinterState.{PrinterState}
use Rattle.printer_objects.specs.declared.state.PrinterState.TheVariants.{Idle, Processing, Stopped}
use Rattle.printer_objects.specs.declared.state.PrinterReason.{PrinterReason}
use Rattle.printer_objects.specs.declared.state.PrinterReason.TheVariants.{Nothing, MovingToPaused, Paused}

-- the values of printer-state
abbrev pub printer_state_code : PrinterState → ℕ
printer_state_code Idle = 3
printer_state_code Processing = 4
printer_state_code Stopped = 5

-- whether a job of this state is processing or processing-stopped
abbrev pub is_printing_or_stopped : JobState → Bool
is_printing_or_stopped Job.Pending = false
is_printing_or_stopped Job.PendingHeld = false
is_printing_or_stopped Job.Processing = true
is_printing_or_stopped Job.Stopped = true
is_printing_or_stopped Job.Canceled = false
is_printing_or_stopped Job.Aborted = false
is_printing_or_stopped Job.Completed = false

-- the job was sent to the printer at a place, and is processing or processing-stopped
abbrev pub is_busy_with : ℕ → JobRecord → Bool
is_busy_with printer job = (job.needs.printer == printer) && is_printing_or_stopped job.state

-- the state of a printer; `busy` indicates whether some job keeps the printer busy
abbrev pub printer_state_of : Bool → Bool → PrinterState
printer_state_of true paused = Processing
printer_state_of false true = Stopped
printer_state_of false false = Idle

-- the reason of a printer's state, by the same flags
abbrev pub printer_reason_of : Bool → Bool → PrinterReason
printer_reason_of busy false = Nothing
printer_reason_of true true = MovingToPaused
printer_reason_of false true = Paused

abbrev pub printer_keyword : PrinterReason → List ℕ
printer_keyword Nothing = codes "none"
printer_keyword MovingToPaused = codes "moving-to-paused"
printer_keyword Paused = codes "paused"
