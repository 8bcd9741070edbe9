-- Laws of traces, without the order of a turn: a trace is one run of the core, and the due bytes of closed connections
-- were taken. Some short replies need no memory.
use Rattle.std.specs.Prelude.{ℕ, ◌≡◌, ◌≢◌, false, List, [], ◌∷◌, ◌++◌, All, map, Option, Some, None}
use Rattle.std.specs.List.{flat_map}
use Rattle.base_types.specs.declared.report.Report.{Report}
use Rattle.base_types.specs.Report.{report_of}
use Rattle.print_room.specs.State.{State}
use Rattle.events.specs.declared.event.Event.{Event}
use Rattle.events.specs.declared.event.Event.TheVariants as Is
use Rattle.events.specs.declared.effects.Effects.{Effects}
use Rattle.dispatcher.specs.declared.observer.AllocationSite.{AllocationSite}
use Rattle.dispatcher.specs.declared.observer.AllocationSite.TheVariants as At
use Rattle.dispatcher.specs.declared.run.Timed.{Timed}
use Rattle.dispatcher.specs.Run.{Outcome, effects_of, Handles, Run}
use Rattle.ipp_operations.specs.declared.parsed_request.ParsedRequest.{ParsedRequest}
use Rattle.ipp_operations.specs.declared.parsed_request.ParsedRequest.TheVariants as asks
use Rattle.ipp_operations.specs.ParsedRequest.{Asks}
use Rattle.ipp_operations.specs.Reply.{refusal_bytes}
use Rattle.dispatcher.specs.Notes.{Note, Planned, Canceled, DeviceRefused, Refused}
use Rattle.server.specs.Polls.{Happening, Polled, Notified, Chosen, seen}
use Rattle.connections.specs.declared.ask.Ask.{Ask}
use Rattle.connections.specs.declared.ask.Ask.TheVariants as ask
use Rattle.connections.specs.Entry.{Entry, waiting, owing}
use Rattle.connections.specs.Asking.{Owes}
use Rattle.server.specs.Ledger.{Ledger, Fate}
use Rattle.server.specs.Happening.{was_refused}
use Rattle.server.specs.Enqueuing.{Sets, Enqueues}
use Rattle.server.specs.Closing.{IsTaken}
use Rattle.server.specs.Turn.{Outcome as Answer, Replied, BadRequest, OutOfMemory, IsBytes, has_refusal, Action, Turned, Served_body, Reported, Ticked, Trace}

-- ---- a run of the core

-- the note of the core for memory that was refused: there is one if the memory was for a dispatch, else none
abbrev pub refusal_note : AllocationSite → Option ℕ → List Note
refusal_note At.Dispatch id = Refused At.Dispatch id ∷ []
refusal_note place id = []

-- the note of the core in a happening, if there is one: a dispatch, a dispatch that was refused memory, or a cancel
abbrev pub core_note : Happening → List Note
core_note (Notified (Planned plan started)) = Planned plan started ∷ []
core_note (Notified (Canceled cancel)) = Canceled cancel ∷ []
core_note (Notified (DeviceRefused id why)) = []
core_note (Notified (Refused place id)) = refusal_note place id
core_note (Polled poll) = []
core_note (Chosen choice) = []

-- the notes of the core in these happenings, in order
abbrev pub core_notes : List Happening → List Note
core_notes hs = flat_map core_note hs

-- the observer that appends each note to a list
abbrev pub Collects : List Note → Note → List Note → Type 0
Collects before note after = after ≡ before ++ note ∷ []

abbrev pub moment_of : Action → ℕ
moment_of (Turned moment hs) = moment
moment_of (Served_body moment body answer hs) = moment
moment_of (Reported moment device parsed hs) = moment
moment_of (Ticked moment hs) = moment

abbrev pub happenings_of : Action → List Happening
happenings_of (Turned moment hs) = hs
happenings_of (Served_body moment body answer hs) = hs
happenings_of (Reported moment device parsed hs) = hs
happenings_of (Ticked moment hs) = hs

-- the happenings of all actions of a trace, in order
abbrev pub happenings_in : Trace → List Happening
happenings_in trace = flat_map happenings_of trace

-- each event has this moment
abbrev pub AreAt : ℕ → List Timed → Type 0
AreAt moment events = All (λ (timed : Timed). timed.moment ≡ moment) events

-- the events of the actions of a trace, in order; each event has the moment of its action
abbrev pub AreEventsOf : Trace → List Timed → Type 0
AreEventsOf [] events = events ≡ []
AreEventsOf (action ∷ actions) events = (first : List Timed) × (later : List Timed) × (events ≡ first ++ later) × AreAt (moment_of action) first × AreEventsOf actions later

-- neither the event nor its dispatch was refused memory
abbrev pub IsWhole : Outcome → Type 0
IsWhole (Some handled) = was_refused handled.dispatch ≡ false
IsWhole None = ⊥

-- A trace is one run of the core. The notes of the run are the notes of the core in the trace, in order: the cancels,
-- the dispatches with their plans, and the dispatches that were refused memory. If no memory was refused in the
-- trace, no event of the run was dropped, and no dispatch of the run was refused memory.
pub record IsOneRun (trace : Trace) (old new : State) : Type 0 where
  pub events : List Timed
  pub outcomes : List Outcome
  pub timed : AreEventsOf trace events
  pub run : Run Collects old [] events outcomes new (core_notes (happenings_in trace))
  pub whole : has_refusal (happenings_in trace) ≡ false → All IsWhole outcomes

-- ---- an action between turns

-- One event came with these effects, and nothing else happened. The observer got the cancels of the event, and
-- then the dispatch, unless the event is a query. Neither the event nor its dispatch was refused memory.
pub record IsOneEvent (moment : ℕ) (event : Event) (reply : Effects) (old : State) (hs : List Happening) (new : State) : Type 0 where
  pub outcome : Outcome
  pub notes : List Note
  pub answered : effects_of outcome ≡ Some reply
  pub whole : IsWhole outcome
  pub handled : Handles moment event old outcome notes new
  pub notified : seen hs ≡ map Notified notes

-- no event came: there was no poll and no note, and the state is unchanged
abbrev pub IsNoEvent : State → List Happening → State → Type 0
IsNoEvent old hs new = (seen hs ≡ []) × (new ≡ old)

-- the outcome of a parsed body, and the event that the body brings, if the body brings one
abbrev pub IsServed : ℕ → ParsedRequest → Answer → State → List Happening → State → Type 0
IsServed moment asks.TooShort answer old hs new = (answer ≡ BadRequest) × IsNoEvent old hs new
IsServed moment (asks.Refused status request) answer old hs new = (answer ≡ Replied (refusal_bytes status request)) × IsNoEvent old hs new
IsServed moment (asks.Event request event) answer old hs new =
    (reply : Effects) × (bytes : List ℕ) × (answer ≡ Replied bytes) × IsBytes request reply.response bytes × IsOneEvent moment event reply old hs new

-- If no memory was refused, an action between turns brings the core one event, at the moment of the action. A body that
-- is too short or is refused brings no event. A turn brings any number of events (`IsOneRun`).
abbrev pub IsAtMostOne : Action → State → State → Type 0
IsAtMostOne (Turned moment hs) old new = Unit {0}
IsAtMostOne (Served_body moment body answer hs) old new = answer ≢ OutOfMemory → (asked : ParsedRequest) × Asks body asked × IsServed moment asked answer old hs new
IsAtMostOne (Reported moment device parsed hs) old new =
    has_refusal hs ≡ false → (report : Report) × (report_of report ≡ parsed) × (reply : Effects) × IsOneEvent moment (Is.Report device report) reply old hs new
IsAtMostOne (Ticked moment hs) old new = has_refusal hs ≡ false → (reply : Effects) × IsOneEvent moment Is.Tick reply old hs new

-- ---- connections that were closed

-- all due bytes of each drained connection were taken, and a prefix of the due bytes of each broken connection
abbrev pub AllTaken : List (Entry × Fate) → Type 0
AllTaken closed = All (λ (it : Entry × Fate). IsTaken it.1 it.0) closed

-- ---- bytes that need no memory

-- if no bytes wait on an open connection, and it isn't broken, these bytes become due on it, and no memory is refused
abbrev pub AreKept : List ℕ → Type 0
AreKept bytes =
    (key : ℕ) (e : Entry) (l : Ledger) (hs : List Happening) (l' : Ledger)
    → l.entries key ≡ Some e → e.broken ≡ false → waiting e ≡ [] → Enqueues key bytes l hs l' → Sets key (owing bytes e) l hs l'

-- if no bytes wait on a connection, these bytes of its own step become due, and no memory is refused
abbrev pub AreOwed : List ℕ → Type 0
AreOwed bytes = (e : Entry) (what : Ask) (new : Entry) → waiting e ≡ [] → Owes bytes e what new → (what ≡ ask.Nothing) × (new ≡ owing bytes e)
