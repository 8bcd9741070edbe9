-- The impressions that are reported for a printer's answer about a job.
use Rattle.std.specs.Prelude.{ℕ, if◌then◌else◌, nat_lt, Bool, true, false, Option, Some, None}
use Rattle.adapter_printers.specs.declared.answer.PrinterJobState.{PrinterJobState}
use Rattle.adapter_printers.specs.declared.answer.PrinterJobState.TheVariants.{Completed, GivenUp}
use Rattle.adapter_printers.specs.declared.answer.JobAnswer.{JobAnswer}
use Rattle.adapter_printers.specs.declared.task_outcome.TaskOutcome.{TaskOutcome}
use Rattle.adapter_printers.specs.declared.task_outcome.TaskOutcome.TheVariants.{Pages, Printed}

-- the number of impressions, if it is greater than before
abbrev pub more_than : ℕ → Option ℕ → Option ℕ
more_than before None = None
more_than before (Some count) = if nat_lt before count then Some count else None

abbrev pub is_completed : PrinterJobState → Bool
is_completed Completed = true
is_completed state = false

-- the impressions to report for a job in a state: none for one that was given up
abbrev pub due_in : PrinterJobState → ℕ → Option ℕ → Option ℕ
due_in GivenUp before impressions = None
due_in state before impressions = more_than before impressions

abbrev pub pages_due : JobAnswer → ℕ → Option ℕ
pages_due answer before = due_in answer.state before answer.impressions

-- the impressions that a result reports
abbrev pub pages_reported : TaskOutcome → Option ℕ
pages_reported (Pages count) = Some count
pages_reported (Printed pages) = pages
pages_reported outcome = None

abbrev pub is_printed : TaskOutcome → Bool
is_printed (Printed pages) = true
is_printed outcome = false
