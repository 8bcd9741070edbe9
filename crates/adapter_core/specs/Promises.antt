-- The promises of an adapter about its life. Each promise states which events may come next, and allows the events that it isn't about.
use Rattle.std.specs.Prelude.{ℕ, ◌≡◌, ◌+◌, ◌<◌, ◌≤◌, ◌==◌, if◌then◌else◌, Bool, true, false, List, [], ◌++◌, length, take, drop, Option, Some, None}
use Rattle.base_types.specs.Report.{ReadyReport, StopReport, PagesReport, DoneReport, FailReport}
use Rattle.adapter_core.specs.declared.printer_state.PrinterState.{PrinterState}
use Rattle.adapter_core.specs.declared.printer_state.PrinterState.TheVariants.{Running, Stopped}
use Rattle.adapter_core.specs.Life.{Event, Links, Ordered, Came, Canceled, Sent, EndsCopy, Restarts, Printed, Is, Reported}

-- ---- each job is answered once: between a job and the next there is exactly one DONE or FAIL with the job's id, and each PAGES before it has that id too. The state is the job that isn't answered yet.

abbrev pub AnswersOnce : Option ℕ → Event → Option ℕ → Type 0
AnswersOnce asked Links next = next ≡ None
AnswersOnce asked (Ordered job octets times) next = (asked ≡ None) × (next ≡ Some job)
AnswersOnce asked (Reported (DoneReport job)) next = (asked ≡ Some job) × (next ≡ None)
AnswersOnce asked (Reported (FailReport job)) next = (asked ≡ Some job) × (next ≡ None)
AnswersOnce asked (Reported (PagesReport job printed)) next = (asked ≡ Some job) × (next ≡ asked)
AnswersOnce asked event next = next ≡ asked

-- ---- the octets that are sent are the job's: the octets of each copy as they came, in order, and the next copy once the copy before is sent, from the first copy on if the printer took none; DONE is reported once the job was sent in all its copies, and is printed.

-- a job that is sent: the number of its octets, the octets that have come, the number of octets of this copy that are sent, the number of copies sent before, and whether the job is printed
pub record Sending : Type 0 where
  pub octets : ℕ
  pub times : ℕ
  pub came : List ℕ
  pub sent : ℕ
  pub copies : ℕ
  pub printed : Bool

-- the octets are the next octets of a list after the first `count`
abbrev pub AreNext : List ℕ → ℕ → List ℕ → Type 0
AreNext octets count came = take (length octets) (drop count came) ≡ octets

-- the change that an event makes of a job that is sent
abbrev pub JobSends : Sending → Event → Option Sending → Type 0
JobSends job Links next = next ≡ None
JobSends job (Ordered id octets times) next = ⊥
JobSends job (Came octets) next = (length (job.came ++ octets) ≤ job.octets) × (next ≡ Some (record job { came = job.came ++ octets }))
JobSends job (Sent octets) next = (job.copies < job.times) × AreNext octets job.sent job.came × (next ≡ Some (record job { sent = job.sent + length octets }))
JobSends job EndsCopy next = (job.copies < job.times) × (job.sent ≡ job.octets) × (next ≡ Some (record job { sent = 0; copies = job.copies + 1 }))
JobSends job Restarts next = next ≡ Some (record job { sent = 0; copies = 0 })
JobSends job Printed next = next ≡ Some (record job { printed = true })
JobSends job (Reported (DoneReport id)) next = (job.copies ≡ job.times) × (job.printed ≡ true) × (next ≡ None)
JobSends job (Reported (FailReport id)) next = next ≡ None
JobSends job event next = next ≡ Some job

-- no octet comes or is sent without a job
abbrev pub NothingSends : Event → Option Sending → Type 0
NothingSends (Ordered id octets times) next = next ≡ Some (record { octets = octets; times = times; came = []; sent = 0; copies = 0; printed = false })
NothingSends (Came octets) next = ⊥
NothingSends (Sent octets) next = ⊥
NothingSends EndsCopy next = ⊥
NothingSends event next = next ≡ None

abbrev pub SendsTheJob : Option Sending → Event → Option Sending → Type 0
SendsTheJob None event next = NothingSends event next
SendsTheJob (Some job) event next = JobSends job event next

-- ---- a cancel is obeyed: no octet of the job is sent after the cancel. The record has the job, and whether it is canceled.

pub record CancelState : Type 0 where
  pub job : ℕ
  pub canceled : Bool

abbrev pub canceled_if : ℕ → CancelState → CancelState
canceled_if job at = if at.job == job then record at { canceled = true } else at

abbrev pub JobObeys : CancelState → Event → Option CancelState → Type 0
JobObeys at Links next = next ≡ None
JobObeys at (Canceled job) next = next ≡ Some (canceled_if job at)
JobObeys at (Sent octets) next = (at.canceled ≡ false) × (next ≡ Some at)
JobObeys at (Reported (DoneReport job)) next = next ≡ None
JobObeys at (Reported (FailReport job)) next = next ≡ None
JobObeys at event next = next ≡ Some at

abbrev pub ObeysCancel : Option CancelState → Event → Option CancelState → Type 0
ObeysCancel None (Ordered job octets times) next = next ≡ Some (record { job = job; canceled = false })
ObeysCancel None event next = next ≡ None
ObeysCancel (Some at) event next = JobObeys at event next

-- ---- READY and STOP alternate as the printer's state does: each is reported for the printer's state at that time, and not twice. The record has the printer's state, and the state that was last reported.

pub record Reporting : Type 0 where
  pub printer : PrinterState
  pub reported : Option PrinterState

abbrev pub ReportsState : Reporting → Event → Reporting → Type 0
ReportsState at Links next = next ≡ record at { reported = None }
ReportsState at (Is printer) next = next ≡ record at { printer = printer }
ReportsState at (Reported ReadyReport) next = (at.printer ≡ Running) × (at.reported ≡ Some Running → ⊥) × (next ≡ record at { reported = Some Running })
ReportsState at (Reported StopReport) next = (at.printer ≡ Stopped) × (at.reported ≡ Some Stopped → ⊥) × (next ≡ record at { reported = Some Stopped })
ReportsState at event next = next ≡ at
