-- The state of an adapter, and its life so far.
use Rattle.std.specs.Prelude.{ℕ, ◌+◌, ◌≤◌, ◌==◌, ◌&&◌, if◌then◌else◌, nat_lt, Bool, true, false, List, [], ◌∷◌, ◌++◌, length, drop, Option, Some, None, option_map}
use Rattle.base_types.specs.declared.report.Report.{Report}
use Rattle.base_types.specs.Report.{ReportRecord, report_of, ReadyReport, StopReport, PagesReport, DoneReport, FailReport}
use Rattle.adapter_core.specs.declared.printer_state.PrinterState.{PrinterState}
use Rattle.adapter_core.specs.declared.printer_state.PrinterState.TheVariants.{Running, Stopped}
use Rattle.adapter_core.specs.Life.{Event, Reported, Leads}
use Rattle.adapter_core.specs.Promises.{Sending, CancelState, Reporting, AnswersOnce, SendsTheJob, ObeysCancel, ReportsState}

-- a job in hand: the number of its octets and those that have come, how often it is to be sent and was sent, how many octets of this copy are sent, and whether it is canceled
pub record WorkRecord : Type 0 where
  pub job : ℕ
  pub octets : ℕ
  pub times : ℕ
  pub came : List ℕ
  pub sent : ℕ
  pub copies : ℕ
  pub canceled : Bool

pub record AdapterStateRecord : Type 0 where
  pub work : Option WorkRecord
  pub printer : PrinterState
  pub reported : Option PrinterState

abbrev pub id_of : WorkRecord → ℕ
id_of work = work.job

abbrev pub sending_of : WorkRecord → Sending
sending_of work = record { octets = work.octets; times = work.times; came = work.came; sent = work.sent; copies = work.copies; printed = false }

abbrev pub cancel_state_of : WorkRecord → CancelState
cancel_state_of work = record { job = work.job; canceled = work.canceled }

abbrev pub reported_of : AdapterStateRecord → Reporting
reported_of at = record { printer = at.printer; reported = at.reported }

-- before any event a printer counts as running
abbrev pub unreported : Reporting
unreported = record { printer = Running; reported = None }

-- this life led to the adapter's state, and keeps each promise
pub record IsAfter (life : List Event) (at : AdapterStateRecord) : Type 0 where
  pub answers : Leads AnswersOnce None life (option_map id_of at.work)
  pub sends : Leads SendsTheJob None life (option_map sending_of at.work)
  pub obeys : Leads ObeysCancel None life (option_map cancel_state_of at.work)
  pub reports : Leads ReportsState unreported life (reported_of at)

-- these events lead the adapter on, for each life before
abbrev pub Lives : AdapterStateRecord → List Event → AdapterStateRecord → Type 0
Lives old events new = (life : List Event) → IsAfter life old → IsAfter (life ++ events) new

-- the octets of a job that may be sent
abbrev pub due_of : WorkRecord → List ℕ
due_of work = if work.canceled then [] else if nat_lt work.copies work.times then drop work.sent work.came else []

abbrev pub due_in : Option WorkRecord → List ℕ
due_in None = []
due_in (Some work) = due_of work

-- all octets of a copy are sent
abbrev pub copy_sent_of : WorkRecord → Bool
copy_sent_of work = nat_lt work.copies work.times && (work.sent == work.octets)

abbrev pub copy_sent_in : Option WorkRecord → Bool
copy_sent_in None = false
copy_sent_in (Some work) = copy_sent_of work

abbrev pub is_sent_in : Option WorkRecord → Bool
is_sent_in None = false
is_sent_in (Some work) = work.copies == work.times

-- at least `count` octets of the job are still to come
abbrev pub HasRoom : Option WorkRecord → ℕ → Type 0
HasRoom None count = ⊥
HasRoom (Some work) count = length work.came + count ≤ work.octets

abbrev pub reported_events : Option Report → List Event
reported_events None = []
reported_events (Some report) = Reported (report_of report) ∷ []

-- a job that the printer has printed is done if it was sent as often as it was to be
abbrev pub end_report : WorkRecord → ReportRecord
end_report work = if work.copies == work.times then DoneReport work.job else FailReport work.job

abbrev pub pages_report : ℕ → WorkRecord → ReportRecord
pages_report printed work = PagesReport work.job printed

abbrev pub fail_report : WorkRecord → ReportRecord
fail_report work = FailReport work.job

-- the report of the printer's state, if the server doesn't know it
abbrev pub state_report : PrinterState → Option PrinterState → Option ReportRecord
state_report Running (Some Running) = None
state_report Running reported = Some ReadyReport
state_report Stopped (Some Stopped) = None
state_report Stopped reported = Some StopReport

-- ---- changes

abbrev pub begun : ℕ → ℕ → ℕ → WorkRecord
begun job octets times = record { job = job; octets = octets; times = times; came = []; sent = 0; copies = 0; canceled = false }

abbrev pub with_came : List ℕ → WorkRecord → WorkRecord
with_came octets work = record work { came = work.came ++ octets }

abbrev pub with_sent : ℕ → WorkRecord → WorkRecord
with_sent count work = record work { sent = work.sent + count }

abbrev pub with_copy : WorkRecord → WorkRecord
with_copy work = record work { sent = 0; copies = work.copies + 1 }

abbrev pub with_restart : WorkRecord → WorkRecord
with_restart work = record work { sent = 0; copies = 0 }

abbrev pub with_cancel : ℕ → WorkRecord → WorkRecord
with_cancel job work = if work.job == job then record work { canceled = true } else work

-- the state with its job changed
abbrev pub changed : (WorkRecord → WorkRecord) → AdapterStateRecord → AdapterStateRecord
changed change at = record at { work = option_map change at.work }
