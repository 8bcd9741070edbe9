-- The life of an adapter: the events of the server and of the printer, the octets that are sent to the printer, and the reports to the server, in the order in which they happen.
use Rattle.std.specs.Prelude.{ℕ, ◌≡◌, List, [], ◌∷◌}
use Rattle.base_types.specs.Report.{ReportRecord}
use Rattle.adapter_core.specs.declared.printer_state.PrinterState.{PrinterState}

pub data Event : Type 0 where
  -- a connection to the server begins; the server knows no job and no state of the printer
  Links : Event
  -- the server sends a job of this many octets, which are to be sent `times` times
  Ordered : (job octets times : ℕ) → Event
  -- octets of the job come
  Came : (octets : List ℕ) → Event
  -- the server cancels a job
  Canceled : (job : ℕ) → Event
  -- the printer takes octets
  Sent : (octets : List ℕ) → Event
  -- one copy of the job is sent to its end
  EndsCopy : Event
  -- the printer took none of the job, which is sent again from its start
  Restarts : Event
  -- the printer reports, or its protocol implies, that the job is printed
  Printed : Event
  -- the printer runs, or stops
  Is : PrinterState → Event
  -- a report to the server
  Reported : ReportRecord → Event

-- a life leads from one state to another, event by event
abbrev pub Leads : {P : Type 0} → (P → Event → P → Type 0) → P → List Event → P → Type 0
Leads step at [] end = end ≡ at
Leads {P} step at (event ∷ later) end = (next : P) × step at event next × Leads step next later end
