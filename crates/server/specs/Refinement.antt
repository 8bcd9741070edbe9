-- The ledgers that represent an engine, the relations that its functions refine, and the traces at which it is.
use Rattle.std.specs.Prelude.{ℕ, ◌≡◌, ◌≢◌, ◌<◌, ◌≤◌, Bool, true, false, List, [], ◌∷◌, ◌++◌, count_by, is_some, Option, Some, None, Vec, Result, Ok, Err, IsOk, IsErr}
use Rattle.std.specs.declared.alloc.AllocError.{AllocError}
use Rattle.std.specs.declared.alloc.Global.{Global}
use Rattle.slab.specs.Slab.{Slab}
use Rattle.print_room.specs.State.{State}
use Rattle.events.specs.declared.effects.Response.{Response}
use Rattle.events.specs.declared.effects.Effects.{Effects}
use Rattle.events.specs.declared.status.Status.{Status}
use Rattle.ipp_operations.specs.Reply.{refusal_bytes}
use Rattle.dispatcher.specs.declared.observer.AllocationSite.TheVariants as At
use Rattle.dispatcher.specs.Notes.{Note, Refused}
use Rattle.connections.specs.declared.table.ConnectionAsk.{ConnectionAsk}
use Rattle.connections.specs.Entry.{Entry}
use Rattle.connections.specs.Connections.{ConnectionState}
use Rattle.connections.specs.Representation.{RepresentsConnection}
use Rattle.connections.specs.Slots.{work_at, is_of}
use Rattle.server.specs.declared.served.Served.{Served}
use Rattle.server.specs.declared.served.Served.TheVariants as as_served
use Rattle.server.specs.Polls.{Happening, Leads, alone}
use Rattle.server.specs.Ledger.{Ledger, Fate, Drained, opening_ledger}
use Rattle.server.specs.Rel.{Rel, Seen}
use Rattle.server.specs.Acting.{Asks}
use Rattle.server.specs.Closing.{ClosesAt}
use Rattle.server.specs.Polling.{IsActedOnAt}
use Rattle.server.specs.State.{EngineState, slot_at, with_slots}
use Rattle.server.specs.Turn.{Turn, Turned, Served_body, Action, Trace, Allows, has_refusal, Outcome, Replied, BadRequest, OutOfMemory, served_as, IsBytes}

abbrev pub RepresentsOpen : Option Entry → Option ConnectionState → Type 0
RepresentsOpen None None = Unit {0}
RepresentsOpen (Some e) (Some c) = RepresentsConnection e c
RepresentsOpen None (Some c) = ⊥
RepresentsOpen (Some e) None = ⊥

-- the ledger represents the engine: it has the same core, and for each open connection an entry that represents it
pub record Represents (l : Ledger) (engine : EngineState) : Type 0 where
  pub core : l.core ≡ engine.core
  pub each : (key : ℕ) → RepresentsOpen (l.entries key) (slot_at engine key)
  pub count : l.count ≡ count_by is_some engine.slots
  pub ticked : l.ticked ≡ engine.ticked
  pub undispatched : l.undispatched ≡ engine.undispatched

-- Some happenings lead the world on. With these happenings the relation leads each ledger that represents the old
-- engine to a ledger that represents the new engine.
pub record Refines {S : Type 0} (moves : S → Happening → S → Type 0) (R : Rel) (world : S) (old : EngineState) (world' : S) (new : EngineState) : Type 0 where
  pub happenings : List Happening
  pub leads : Leads moves world happenings world'
  pub reaches : (l : Ledger) → Represents l old → (l' : Ledger) × Seen R l happenings l' × Represents l' new

-- no connection can bring more steps than before, and no more connections are open than before
pub record IsQuiet (old new : EngineState) : Type 0 where
  pub work : (key : ℕ) → work_at new.slots key ≤ work_at old.slots key
  pub open_now : count_by is_some new.slots ≤ count_by is_some old.slots

-- as `Refines`, for a function that feeds no reader
pub record RefinesQuietly {S : Type 0} (moves : S → Happening → S → Type 0) (R : Rel) (world : S) (old : EngineState) (world' : S) (new : EngineState) : Type 0 where
  pub happenings : List Happening
  pub leads : Leads moves world happenings world'
  pub reaches : (l : Ledger) → Represents l old → (l' : Ledger) × Seen R l happenings l' × Represents l' new
  pub quiet : IsQuiet old new

-- as `RefinesQuietly`, and `refused` indicates whether the allocator refused memory for a growth
pub record RefinesReporting {S : Type 0} (moves : S → Happening → S → Type 0) (R : Rel) (world : S) (old : EngineState) (world' : S) (new : EngineState) (refused : Bool) : Type 0 where
  pub refines : RefinesQuietly moves R world old world' new
  pub is : has_refusal refines.happenings ≡ refused

-- as `RefinesQuietly`, for a body of some outcome; `answer` is that outcome, or out of memory if memory was refused
pub record RefinesAnswering {S : Type 0} (moves : S → Happening → S → Type 0) (R : Outcome → Rel) (world : S) (old : EngineState) (world' : S) (new : EngineState) (answer : Outcome) : Type 0 where
  pub served : Outcome
  pub refines : RefinesQuietly moves (R served) world old world' new
  pub is : answer ≡ served_as refines.happenings served

-- ---- functions without a wire: only an observer is notified

-- as `RefinesQuietly`, for an observer without a wire
abbrev pub RefinesNotified : {N : Type 0} → (N → Note → N → Type 0) → Rel → N → EngineState → N → EngineState → Type 0
RefinesNotified notified R observer old observer' new = RefinesQuietly (alone notified) R observer old observer' new

-- as `RefinesReporting`, for an observer without a wire
abbrev pub Reports : {N : Type 0} → (N → Note → N → Type 0) → Rel → N → EngineState → N → EngineState → Bool → Type 0
Reports notified R observer old observer' new refused = RefinesReporting (alone notified) R observer old observer' new refused

-- as `Reports`, for the connections of any engine with this core
abbrev pub ReportsAmong : {N : Type 0} → (N → Note → N → Type 0) → Rel → State → N → Slab ConnectionState → N → Slab ConnectionState → Bool → Type 0
ReportsAmong notified R core observer old observer' new refused =
    (engine : EngineState) → engine.core ≡ core → engine.slots ≡ old.slots → Reports notified R observer engine observer' (with_slots new.slots engine) refused

-- ---- the asks of connections

-- the ask of the connection under a key, or that the connection has no ask, as a relation on ledgers
abbrev pub AsksAs : ℕ → Option ConnectionAsk → Ledger → Ledger → Type 0
AsksAs key None l l' = IsActedOnAt (l.entries key) × (l' ≡ l)
AsksAs key (Some asked) l l' = Seen (Asks key asked.id asked.ask) l [] l'

-- after an ask the connection under the key can bring fewer steps than before, and no other connection can bring more
abbrev pub HasLess : ℕ → Option ConnectionAsk → EngineState → EngineState → Type 0
HasLess key None old new = Unit {0}
HasLess key (Some what) old new = IsQuiet old new × (work_at new.slots key < work_at old.slots key)

pub record AsksBy (key : ℕ) (what : Option ConnectionAsk) (old new : EngineState) : Type 0 where
  pub reaches : (l : Ledger) → Represents l old → (l' : Ledger) × AsksAs key what l l' × Represents l' new
  pub less : HasLess key what old new

-- the device gave its name on the connection under the key `other`, which isn't `key`, and on none of a lower key but `key`
pub record IsOther (device key other : ℕ) (e : EngineState) : Type 0 where
  pub apart : other ≢ key
  pub is : is_of e.slots device other ≡ true
  pub lowest : (lower : ℕ) → lower < other → lower ≢ key → is_of e.slots device lower ≡ false

-- as `RefinesQuietly`, for the closing of the connection under a key; fewer connections are open than before
pub record RefinesClosing {S : Type 0} (moves : S → Happening → S → Type 0) (moment : ℕ) (fate : Fate) (key : ℕ) (world : S) (old : EngineState) (world' : S) (new : EngineState) : Type 0 where
  pub refines : RefinesQuietly moves (ClosesAt moment fate key) world old world' new
  pub fewer : count_by is_some new.slots < count_by is_some old.slots

-- the connection that was open under a key was closed, with each fate that it may have; drained only if no bytes waited
abbrev pub RefinesAnyFate : {S : Type 0} → (S → Happening → S → Type 0) → ℕ → ℕ → S → EngineState → S → EngineState → Type 0
RefinesAnyFate moves moment key world old world' new =
    (fate : Fate) (c : ConnectionState) → slot_at old key ≡ Some c → (fate ≡ Drained → c.output ≡ []) → RefinesClosing moves moment fate key world old world' new

-- ---- traces

-- the engine is at a trace that began with this core: the trace leads to a ledger that represents the engine
abbrev pub IsAt : State → Trace → EngineState → Type 0
IsAt opening trace engine = (l : Ledger) × Allows trace (opening_ledger opening) l × Represents l engine

-- A turn leads the world on. It leads each ledger that represents the old engine to a ledger that represents the new engine. If the old engine is at a trace, the new engine is at the trace and then this turn.
pub record RefinesTurn {S : Type 0} (moves : S → Happening → S → Type 0) (moment : ℕ) (world : S) (old : EngineState) (world' : S) (new : EngineState) : Type 0 where
  pub happenings : List Happening
  pub leads : Leads moves world happenings world'
  pub turns : (l : Ledger) → Represents l old → (l' : Ledger) × Seen (Turn moment) l happenings l' × Represents l' new
  pub reaches : (opening : State) (trace : Trace) → IsAt opening trace old → IsAt opening (trace ++ Turned moment happenings ∷ []) new

-- as `RefinesTurn`, for a call between turns; the call fails if and only if memory was refused
pub record RefinesCall {S : Type 0} (moves : S → Happening → S → Type 0) (action : List Happening → Action) (world : S) (old : EngineState) (world' : S) (new : EngineState) (result : Result (Unit {0}) AllocError) : Type 0 where
  pub happenings : List Happening
  pub leads : Leads moves world happenings world'
  pub reaches : (opening : State) (trace : Trace) → IsAt opening trace old → IsAt opening (trace ++ action happenings ∷ []) new
  pub ok : IsOk result → has_refusal happenings ≡ false
  pub err : IsErr result → has_refusal happenings ≡ true

-- as `RefinesTurn`, for a body that was served between turns with this outcome
pub record RefinesBody {S : Type 0} (moves : S → Happening → S → Type 0) (moment : ℕ) (body : List ℕ) (world : S) (old : EngineState) (world' : S) (new : EngineState) (answer : Outcome) : Type 0 where
  pub happenings : List Happening
  pub leads : Leads moves world happenings world'
  pub reaches : (opening : State) (trace : Trace) → IsAt opening trace old → IsAt opening (trace ++ Served_body moment body answer happenings ∷ []) new

-- the outcome of a served body, by the result of the function
abbrev pub outcome_of : Result Served AllocError → Outcome
outcome_of (Ok (as_served.Reply bytes)) = Replied bytes.items
outcome_of (Ok as_served.BadRequest) = BadRequest
outcome_of (Err error) = OutOfMemory

-- as `RefinesAnswering`, for an observer without a wire and for the result of a function
abbrev pub AnswersBody : {N : Type 0} → (N → Note → N → Type 0) → (Outcome → Rel) → N → EngineState → N → EngineState → Result Served AllocError → Type 0
AnswersBody notified R observer old observer' new result = RefinesAnswering (alone notified) R observer old observer' new (outcome_of result)

-- the bytes of a response; if memory for the bytes is refused, the observer is notified
abbrev pub AnswerAs : {N : Type 0} → (N → Note → N → Type 0) → ℕ → Response → N → Result (Vec ℕ Global) AllocError → N → Type 0
AnswerAs notified request answer observer (Ok bytes) observer' = IsBytes request answer bytes.items × (observer' ≡ observer)
AnswerAs notified request answer observer (Err error) observer' = notified observer (Refused At.Reply None) observer'

-- the bytes of a reply; if the event was dropped, there are no bytes, and the observer is notified
abbrev pub BytesAs : {N : Type 0} → (N → Note → N → Type 0) → ℕ → Option Effects → N → Result (Vec ℕ Global) AllocError → N → Type 0
BytesAs notified request (Some reply) observer bytes observer' = AnswerAs notified request reply.response observer bytes observer'
BytesAs notified request None observer (Ok bytes) observer' = ⊥
BytesAs notified request None observer (Err error) observer' = notified observer (Refused At.Event None) observer'

-- the reply of a status alone; if memory for the reply is refused, the observer is notified
abbrev pub RefusalAs : {N : Type 0} → (N → Note → N → Type 0) → Status → ℕ → N → Result Served AllocError → N → Type 0
RefusalAs notified status request observer (Ok served) observer' = (outcome_of (Ok served) ≡ Replied (refusal_bytes status request)) × (observer' ≡ observer)
RefusalAs notified status request observer (Err error) observer' = notified observer (Refused At.Reply None) observer'

abbrev pub bytes_in : Result (Vec ℕ Global) AllocError → List ℕ
bytes_in (Ok bytes) = bytes.items
bytes_in (Err error) = []

abbrev pub refusal_in : Result (Vec ℕ Global) AllocError → Bool
refusal_in (Ok bytes) = false
refusal_in (Err error) = true

-- the outcome of a body: these bytes, or out of memory if memory for the bytes or other memory was refused
abbrev pub answer_in : Result (Vec ℕ Global) AllocError → Bool → Outcome
answer_in (Ok bytes) false = Replied bytes.items
answer_in (Ok bytes) true = OutOfMemory
answer_in (Err error) refused = OutOfMemory

-- the observer is notified of the connection that broke, if one did, since memory for due bytes was refused
abbrev pub NotifiedOf : {N : Type 0} → (N → Note → N → Type 0) → Option ℕ → N → N → Type 0
NotifiedOf notified (Some id) old new = notified old (Refused At.Enqueue (Some id)) new
NotifiedOf notified None old new = new ≡ old
