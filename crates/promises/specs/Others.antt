-- An action on one connection and the other connections.
use Rattle.std.specs.Prelude.{ℕ, ◌≡◌, ◌≢◌, ◌⊎◌, Bool, true, List, All, Contains, Option, Some, None}
use Rattle.std.specs.List.{concat, flat_map}
use Rattle.base_types.specs.declared.report.Report.TheVariants as report
use Rattle.device_link.specs.Orders.{cancel_line}
use Rattle.print_room.specs.declared.started.Started.{Started}
use Rattle.print_room.specs.State.{State}
use Rattle.events.specs.declared.event.Event.TheVariants as Is
use Rattle.events.specs.declared.effects.Cancel.{Cancel}
use Rattle.dispatcher.specs.declared.observer.AllocationSite.TheVariants as At
use Rattle.dispatcher.specs.Notes.{Refused}
use Rattle.dispatcher.specs.Run.{Outcome}
use Rattle.connections.specs.Entry.{Entry, device_of, owing}
use Rattle.server.specs.Polls.{Happening, Notified}
use Rattle.server.specs.Ledger.{Ledger, job_bytes}
use Rattle.server.specs.Rel.{Rel}
use Rattle.server.specs.Law.{core_notes}
use Rattle.server.specs.Closing.{NoneBroken}
use Rattle.server.specs.Polling.{ReadsOne, WritesOne, EndsOne}
use Rattle.promises.specs.Orders.{began, canceled}
use Rattle.promises.specs.Delivered.{Came, AreRun, ComeAt}

-- the bytes of one order for a device: the line of a cancel that an event brought, or the line and the documents of a job that began by it
abbrev pub IsOrderBy : ℕ → Outcome → State → List ℕ → Type 0
IsOrderBy device outcome state bytes =
    ((cancel : Cancel) × Contains (canceled outcome) cancel × (cancel.device ≡ device) × (bytes ≡ cancel_line cancel.job))
    ⊎ ((start : Started) × Contains (began outcome state) start × (start.device ≡ device) × (bytes ≡ job_bytes state start.job))

-- an order of one of these events
abbrev pub IsOrder : List Came → ℕ → List ℕ → Type 0
IsOrder came device bytes = (it : Came) × Contains came it × IsOrderBy device it.outcome it.state bytes

-- the device gave its name on another connection
abbrev pub ComesAgain : ℕ → List Came → Type 0
ComesAgain device came = (it : Came) × Contains came it × (name : List ℕ) × (it.event ≡ Is.Report device (report.Hello name))

-- the connection under a key bears the device's name, unless it was closed
abbrev pub Bears : ℕ → Ledger → ℕ → Type 0
Bears key l device = (e : Entry) → l.entries key ≡ Some e → device_of e.progress ≡ Some device

-- why a device's connection of this number is closed: an order became due, and the observer was notified that memory for it was refused; or its input had ended, and the device came again, on a connection that `Named` holds of
abbrev pub IsCause : (ℕ → Type 0) → List Came → List Happening → ℕ → ℕ → Bool → Type 0
IsCause Named came hs device id ended = (Contains hs (Notified (Refused At.Enqueue (Some id))) × ((bytes : List ℕ) × IsOrder came device bytes)) ⊎ ((ended ≡ true) × ComesAgain device came × Named device)

-- a client's connection is unchanged; on a device's connection orders become due, or it is closed for a cause
abbrev pub SparedAs : (ℕ → Type 0) → List Came → List Happening → Option ℕ → Entry → Option Entry → Type 0
SparedAs Named came hs None e now = now ≡ Some e
SparedAs Named came hs (Some device) e now =
    ((now ≡ None) × IsCause Named came hs device e.id e.ended) ⊎ ((orders : List (List ℕ)) × All (IsOrder came device) orders × (now ≡ Some (owing (concat orders) e)))

abbrev pub IsSpared : (ℕ → Type 0) → List Came → List Happening → Option Entry → Option Entry → Type 0
IsSpared Named came hs None now = now ≡ None
IsSpared Named came hs (Some e) now = SparedAs Named came hs (device_of e.progress) e now

-- The events of an action on the connection under a key are a run of the core, which gives the observer's notes. By these events every other connection is spared.
pub record Spares (moment key : ℕ) (l : Ledger) (hs : List Happening) (l' : Ledger) : Type 0 where
  pub came : List Came
  pub timed : ComeAt true moment came
  pub run : AreRun l.core came l'.core
  pub notified : core_notes hs ≡ flat_map (λ (it : Came). it.notes) came
  pub each : (other : ℕ) → other ≢ key → IsSpared (Bears key l') came hs (l.entries other) (l'.entries other)

-- the part of a turn that is about the connection under a key spares the others, if none is broken before
abbrev pub SparesOthers : ℕ → (ℕ → Rel) → Type 0
SparesOthers moment R = (key : ℕ) (l : Ledger) (hs : List Happening) (l' : Ledger) → NoneBroken l → R key l hs l' → Spares moment key l hs l'

-- a read with all its results, a write, and a close that isn't immediate
pub record SparesAll (moment : ℕ) : Type 0 where
  pub reads : SparesOthers moment (ReadsOne moment)
  pub writes : SparesOthers moment (WritesOne moment)
  pub ends : SparesOthers moment (EndsOne moment)
