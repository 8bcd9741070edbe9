-- The bytes that a device is sent: the line of each cancel for it, and the line and the documents of each job that begins on it, by the core's run.
use Rattle.std.specs.Prelude.{ℕ, ◌≡◌, ◌==◌, Bool, true, false, if◌then◌else◌, List, [], ◌∷◌, ◌++◌, All, Option, Some, None}
use Rattle.std.specs.List.{flat_map}
use Rattle.base_types.specs.declared.report.Report.{Report}
use Rattle.base_types.specs.declared.report.Report.TheVariants as report
use Rattle.device_link.specs.Orders.{cancel_line}
use Rattle.print_room.specs.declared.started.Started.{Started}
use Rattle.print_room.specs.State.{State}
use Rattle.events.specs.declared.event.Event.{Event}
use Rattle.events.specs.declared.event.Event.TheVariants as Is
use Rattle.events.specs.declared.effects.Cancel.{Cancel}
use Rattle.dispatcher.specs.declared.observer.AllocationSite.{AllocationSite}
use Rattle.dispatcher.specs.declared.observer.AllocationSite.TheVariants as At
use Rattle.dispatcher.specs.Notes.{Note, Planned, Canceled, DeviceRefused, Refused}
use Rattle.dispatcher.specs.declared.handled.Dispatch.{Dispatch}
use Rattle.dispatcher.specs.declared.handled.Dispatch.TheVariants as dispatch
use Rattle.dispatcher.specs.Run.{Outcome, Handles}
use Rattle.connections.specs.Entry.{Entry, device_of}
use Rattle.server.specs.Polls.{Happening, Polled, Notified, Chosen}
use Rattle.server.specs.Ledger.{Ledger, Fate, job_bytes}
use Rattle.server.specs.Turn.{Action, Turned, Served_body, Reported, Ticked, Trace}
use Rattle.server.specs.Law.{moment_of, happenings_of, happenings_in}

-- ---- the run

-- an event comes, with its outcome; or the allocator refuses memory at a place, for the connection of a number if it is for one
pub data Happened : Type 0 where
  EventComes : (event : Event) (outcome : Outcome) → Happened
  MemoryRefused : (place : AllocationSite) (id : Option ℕ) → Happened

-- A part of the run: what happened, the observer's notes of it, and the state of the core after it. By a HELLO in a turn a device gave its name on its connection. A client's event, or the memory that was refused for it, was asked on the connection under a key.
pub record RunPart : Type 0 where
  pub moment : ℕ
  pub what : Happened
  pub notes : List Note
  pub state : State
  pub named : Option ℕ
  pub asked : Option ℕ

-- the core handles an event; if memory was refused, the observer is notified, and the core is unchanged
abbrev pub IsHandled : ℕ → Happened → State → List Note → State → Type 0
IsHandled moment (EventComes event outcome) old notes new = Handles moment event old outcome notes new
IsHandled moment (MemoryRefused place id) old notes new = (notes ≡ Refused place id ∷ []) × (new ≡ old)

-- the parts in order
abbrev pub AreHandled : State → List RunPart → State → Type 0
AreHandled old [] new = new ≡ old
AreHandled old (it ∷ later) new =
    IsHandled it.moment it.what old it.notes it.state × AreHandled it.state later new

-- the device of a HELLO that comes in a turn
abbrev pub hello_in : Bool → ℕ → Report → Option ℕ
hello_in turn device (report.Hello name) = if turn then Some device else None
hello_in turn device _ = None

-- the device that gives its name on its connection by an event: each HELLO in a turn gives the name, and none between turns
abbrev pub named_by : Bool → Event → Option ℕ
named_by turn (Is.Report device parsed) = hello_in turn device parsed
named_by turn _ = None

abbrev pub naming : Bool → Happened → Option ℕ
naming turn (EventComes event outcome) = named_by turn event
naming turn (MemoryRefused place id) = None

abbrev pub is_turn : Action → Bool
is_turn (Turned moment hs) = true
is_turn (Served_body moment body answer hs) = false
is_turn (Reported moment device parsed hs) = false
is_turn (Ticked moment hs) = false

-- the part is at this moment, in a turn or not
abbrev pub IsAt : Bool → ℕ → RunPart → Type 0
IsAt turn moment it = (it.moment ≡ moment) × (it.named ≡ naming turn it.what)

abbrev pub AreAt : Bool → ℕ → List RunPart → Type 0
AreAt turn moment handled = All (λ (it : RunPart). IsAt turn moment it) handled

-- the note of memory that was refused, if the note is one of the run: for an event, a dispatch, a reply or a file
abbrev pub run_refusal : AllocationSite → Option ℕ → List Note
run_refusal At.Accept id = []
run_refusal At.Feed id = []
run_refusal At.File id = Refused At.File id ∷ []
run_refusal At.Event id = Refused At.Event id ∷ []
run_refusal At.Dispatch id = Refused At.Dispatch id ∷ []
run_refusal At.Reply id = Refused At.Reply id ∷ []
run_refusal At.Enqueue id = []

-- the note of the run in a happening, if there is one: a note of the core, or that memory was refused
abbrev pub run_note : Happening → List Note
run_note (Notified (Refused place id)) = run_refusal place id
run_note (Notified (Planned plan started)) = Planned plan started ∷ []
run_note (Notified (Canceled cancel)) = Canceled cancel ∷ []
run_note (Notified (DeviceRefused id why)) = []
run_note (Polled poll) = []
run_note (Chosen choice) = []

-- the notes of the run in these happenings, in order
abbrev pub run_notes : List Happening → List Note
run_notes hs = flat_map run_note hs

-- the parts of the first action, at its moment, which give the notes of its happenings; then those of the next, and so on
abbrev pub AreOf : Trace → List RunPart → Type 0
AreOf [] handled = handled ≡ []
AreOf (action ∷ actions) handled =
    (first : List RunPart) × (later : List RunPart) × (handled ≡ first ++ later) × AreAt (is_turn action) (moment_of action) first
    × (run_notes (happenings_of action) ≡ flat_map (λ (it : RunPart). it.notes) first) × AreOf actions later

-- ---- the orders of a device

-- the jobs that a dispatch began, in the state after it
abbrev pub began_by : Dispatch → State → List Started
began_by dispatch.Query state = []
began_by dispatch.OutOfMemory state = []
began_by dispatch.Idle state = []
began_by dispatch.Planned state = state.begun

abbrev pub began : Outcome → State → List Started
began (Some handled) state = began_by handled.dispatch state
began None state = []

abbrev pub canceled : Outcome → List Cancel
canceled (Some handled) = handled.effects.cancels.items
canceled None = []

-- the line of a cancel, if it is for this device
abbrev pub cancel_for : ℕ → Cancel → List ℕ
cancel_for device cancel = if cancel.device == device then cancel_line cancel.job else []

-- the bytes of a job as it begins, if it begins on this device
abbrev pub start_for : ℕ → State → Started → List ℕ
start_for device state start = if start.device == device then job_bytes state start.job else []

-- the orders of an event for a device, where the core has this state after it: the cancels, and then the jobs that begin
abbrev pub orders_by : ℕ → Happened → State → List ℕ
orders_by device (EventComes event outcome) state = flat_map (cancel_for device) (canceled outcome) ++ flat_map (start_for device state) (began outcome state)
orders_by device (MemoryRefused place id) state = []

abbrev pub orders_of : ℕ → RunPart → List ℕ
orders_of device it = orders_by device it.what it.state

abbrev pub names : ℕ → Option ℕ → Bool
names device None = false
names device (Some other) = other == device

-- The bytes due on a device's connection after these events, where `before` was due: all orders for the device since it last gave its name on a connection.
abbrev pub due_by : ℕ → List ℕ → List RunPart → List ℕ
due_by device before [] = before
due_by device before (it ∷ later) = due_by device ((if names device it.named then [] else before) ++ orders_of device it) later

-- ---- the law

-- a device's connection that was closed without having broken was sent its orders, by the events before
abbrev pub WasSent : List RunPart → Entry → Type 0
WasSent handled e = (device : ℕ) → device_of e.progress ≡ Some device → e.broken ≡ false → (before : List RunPart) × (tail : List RunPart) × (handled ≡ before ++ tail) × (e.due ≡ due_by device [] before)

-- the bytes due are a prefix of the orders for a device, by the events up to one of these
abbrev pub IsPrefixSent : List RunPart → ℕ → List ℕ → Type 0
IsPrefixSent handled device due = (before : List RunPart) × (tail : List RunPart) × (handled ≡ before ++ tail) × (rest : List ℕ) × (due ++ rest ≡ due_by device [] before)

-- a device's connection that broke was sent a prefix of its orders
abbrev pub WasHalted : List RunPart → Entry → Type 0
WasHalted handled e = (device : ℕ) → device_of e.progress ≡ Some device → e.broken ≡ true → IsPrefixSent handled device e.due

-- The events of a trace are one run of the core, whose parts give the observer's notes. On each open connection of a device that isn't broken, the bytes due are the run's orders for the device since it gave its name: the line of each cancel, and for each job the line and the documents as they were when the job began. The same holds for each that was closed without having broken, by the events before. On one that broke, a prefix of the orders is due.
pub record AreSent (opening : State) (trace : Trace) (l : Ledger) : Type 0 where
  pub handled : List RunPart
  pub timed : AreOf trace handled
  pub run : AreHandled opening handled l.core
  pub notified : run_notes (happenings_in trace) ≡ flat_map (λ (it : RunPart). it.notes) handled
  pub due : (key : ℕ) (e : Entry) (device : ℕ) → l.entries key ≡ Some e → device_of e.progress ≡ Some device → e.broken ≡ false → e.due ≡ due_by device [] handled
  pub closed : All (λ (it : Entry × Fate). WasSent handled it.0) l.closed
  pub halted : (key : ℕ) (e : Entry) → l.entries key ≡ Some e → WasHalted handled e
  pub closed_halted : All (λ (it : Entry × Fate). WasHalted handled it.0) l.closed
