-- Devices that give their names.
use Rattle.std.specs.Prelude.{ℕ, ◌≡◌, ◌≢◌, ◌<◌, ◌⊎◌, Bool, true, false, List, Option, Some, None}
use Rattle.base_types.specs.declared.report.Report.{Report}
use Rattle.base_types.specs.declared.report.Report.TheVariants as report
use Rattle.base_types.specs.Report.{ReportRecord, report_of}
use Rattle.events.specs.declared.event.Event.TheVariants as Is
use Rattle.dispatcher.specs.declared.observer.DeviceRefusal.TheVariants as why
use Rattle.dispatcher.specs.Notes.{DeviceRefused}
use Rattle.connections.specs.Entry.{Entry, device_of, superseded_entry}
use Rattle.server.specs.Ledger.{Ledger}
use Rattle.server.specs.Rel.{Rel, Nothing, Notifies, Then}
use Rattle.server.specs.Enqueuing.{Sets, IsDevice}
use Rattle.server.specs.Happening.{Unanswered}
use Rattle.server.specs.Closing.{IsGone}

-- a report of a device comes
abbrev pub ReportComes : ℕ → ℕ → ReportRecord → Rel
ReportComes moment device parsed l hs l' = (report : Report) × (report_of report ≡ parsed) × Unanswered moment (Is.Report device report) l hs l'

-- a connection is open, this device gave its name on it, and `ended` is whether the input of the connection has ended
abbrev pub IsDeviceAs : Bool → ℕ → Option Entry → Type 0
IsDeviceAs ended device None = ⊥
IsDeviceAs ended device (Some e) = (device_of e.progress ≡ Some device) × (e.ended ≡ ended)

-- the device has no connection under another key than this one
abbrev pub IsAlone : ℕ → ℕ → Ledger → Type 0
IsAlone device key l = (other : ℕ) → other ≢ key → IsDevice device (l.entries other) → ⊥

-- the device has a connection under the key `other`, and under no lower key but this one; `ended` is whether the input
-- of that connection has ended
abbrev pub HasOther : Bool → ℕ → ℕ → ℕ → Ledger → Type 0
HasOther ended device key other l =
    (other ≢ key) × IsDeviceAs ended device (l.entries other) × ((lower : ℕ) → lower < other → lower ≢ key → IsDevice device (l.entries lower) → ⊥)

-- the connection under a key is to be closed as by a fault, since its device has another connection
abbrev pub IsSupersededAt : ℕ → Option Entry → Rel
IsSupersededAt key None = Nothing
IsSupersededAt key (Some e) = Sets key (superseded_entry e)

abbrev pub IsSuperseded : ℕ → Rel
IsSuperseded key l hs l' = IsSupersededAt key (l.entries key) l hs l'

-- the device gives its name
abbrev pub GivesName : ℕ → ℕ → List ℕ → Rel
GivesName moment device name = Unanswered moment (Is.Report device (report.Hello name))

-- a device comes again: its old connection is superseded, the device is gone, and the device gives its name
abbrev pub TakesOver : ℕ → ℕ → ℕ → List ℕ → Rel
TakesOver moment old device name = Then (IsSuperseded old) (Then (IsGone moment (Some device)) (GivesName moment device name))

-- A device gives its name on the connection under a key. If the device has no other connection, the name is an event of
-- the core. If the input of the other connection has ended, the other connection is superseded, and the name is an event
-- too. Else the new connection is superseded and is refused, and no event comes.
abbrev pub HandlesHello : ℕ → ℕ → ℕ → ℕ → List ℕ → Rel
HandlesHello moment key id device name l hs l' =
    (IsAlone device key l × GivesName moment device name l hs l')
    ⊎ (((other : ℕ) × HasOther true device key other l × TakesOver moment other device name l hs l')
    ⊎ ((other : ℕ) × HasOther false device key other l × Then (IsSuperseded key) (Notifies (DeviceRefused id (why.Connected device))) l hs l'))
