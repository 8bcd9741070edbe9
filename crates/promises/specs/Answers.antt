-- The answers to a client: for each item of its stream the bytes that become due, with the reply that the core's run gave if the item is a request to the core.
use Rattle.std.specs.Prelude.{ℕ, ◌≡◌, ◌⊎◌, ◌==◌, ◌||◌, Bool, true, false, if◌then◌else◌, List, [], ◌∷◌, ◌++◌, All, Option, Some, None}
use Rattle.std.specs.List.{flat_map}
use Rattle.settings_file.specs.Settings.{ServerSettings}
use Rattle.http_front.specs.declared.item.HttpItem.{HttpItem}
use Rattle.http_front.specs.Stream.{HttpElement, elements_of, ParsesFirst}
use Rattle.lpd.specs.declared.fault.LpdFault.{LpdFault}
use Rattle.lpd.specs.Items.{ItemRecord}
use Rattle.lpd.specs.Stream.{LpdItems, Faulty}
use Rattle.lpd.specs.Stream as Lpd
use Rattle.lpd.specs.Session.{SessionState}
use Rattle.wires.specs.declared.wire.Door.{Door}
use Rattle.print_room.specs.State.{State}
use Rattle.events.specs.declared.event.Event.{Event}
use Rattle.events.specs.declared.effects.Response.{Response}
use Rattle.events.specs.declared.effects.Response.TheVariants as responds
use Rattle.events.specs.declared.effects.LpdResponse.TheVariants as Shown
use Rattle.events.specs.declared.effects.Effects.{Effects}
use Rattle.events.specs.declared.status.Status.TheVariants.{TemporaryError}
use Rattle.events.specs.Event.{is_query}
use Rattle.dispatcher.specs.declared.observer.AllocationSite.{AllocationSite}
use Rattle.dispatcher.specs.declared.observer.AllocationSite.TheVariants as At
use Rattle.dispatcher.specs.Run.{Outcome, effects_of}
use Rattle.ipp_operations.specs.Reply.{IsReply}
use Rattle.ipp_operations.specs.QueueText.{ack_of, text_of}
use Rattle.connections.specs.Reply.{http_reply}
use Rattle.connections.specs.declared.ask.Ask.{Ask}
use Rattle.connections.specs.declared.ask.Ask.TheVariants as ask
use Rattle.connections.specs.declared.ask.Client.{Client}
use Rattle.connections.specs.declared.ask.Client.TheVariants as client
use Rattle.connections.specs.declared.step.Step.{Step}
use Rattle.connections.specs.declared.step.Step.TheVariants as step
use Rattle.connections.specs.Session.{is_queue}
use Rattle.connections.specs.Steps.{StepsIpp, closes_after, body_after, StepsLpd, refused, due_bytes, http_status}
use Rattle.connections.specs.Entry.{PeerRecord, Http, Queue, Link, Entry, opening_peer, closes_of}
use Rattle.connections.specs.Asking.{IsActedOn}
use Rattle.server.specs.Ledger.{Ledger, Fate}
use Rattle.server.specs.Acting.{place_of_part}
use Rattle.server.specs.Law.{happenings_in}
use Rattle.server.specs.Turn.{Trace}
use Rattle.promises.specs.Orders.{Happened, EventComes, MemoryRefused, RunPart, AreHandled, AreOf, run_notes}

-- ---- an act: the next item of a client's stream, and its result

-- The bytes that were read by then, the peer before and after the act, its step, and the bytes that it makes due. The part of the run that it asked for is the event of it that the core handled, and that memory was refused. The core has this state at its moment.
pub record Act : Type 0 where
  pub read : List ℕ
  pub before : PeerRecord
  pub after : PeerRecord
  pub what : Step
  pub asked : List RunPart
  pub bytes : List ℕ
  pub state : State

-- the next item of an IPP client, by the bytes that were read
pub record NextIpp (read : List ℕ) (parsed : List HttpElement) (closes : Bool) (body : List ℕ) (what : Step) (after : PeerRecord) : Type 0 where
  pub item : HttpItem
  pub part : List ℕ
  pub first : ParsesFirst read (parsed ++ elements_of item part)
  pub comes : StepsIpp item closes body what
  pub is : after ≡ Http (parsed ++ elements_of item part) (closes_after item closes) (body_after item what part body)

-- the next item of an LPD client, by the bytes that were read
pub record NextLpd (queues : List ℕ → Bool) (read : List ℕ) (items : List ItemRecord) (session : Option SessionState) (what : Step) (after : PeerRecord) : Type 0 where
  pub parsed : ItemRecord
  pub session_after : Option SessionState
  pub first : Lpd.ParsesFirst read (items ++ parsed ∷ [])
  pub comes : StepsLpd queues session parsed what session_after
  pub is : after ≡ Queue (items ++ parsed ∷ []) session_after

-- the bytes that were read of an LPD client have a fault after its items: the fault is refused, and the connection drains
pub record FaultLpd (read : List ℕ) (items : List ItemRecord) (session : Option SessionState) (what : Step) (after : PeerRecord) : Type 0 where
  pub fault : LpdFault
  pub reads_as : LpdItems read items (Faulty fault)
  pub comes : what ≡ refused
  pub is : after ≡ Queue items session

-- the next item by the bytes that were read, or a fault
abbrev pub IsNext : ServerSettings → List ℕ → PeerRecord → Step → PeerRecord → Type 0
IsNext settings read (Http parsed closes body) what after = NextIpp read parsed closes body what after
IsNext settings read (Queue items session) what after = NextLpd (is_queue settings) read items session what after ⊎ FaultLpd read items session what after
IsNext settings read (Link reports device) what after = ⊥

-- ---- the bytes of an act

-- memory was refused at this place for the connection of this number, and the observer was notified
abbrev pub IsRefusal : ℕ → AllocationSite → List RunPart → Type 0
IsRefusal id place lost = (it : RunPart) × (lost ≡ it ∷ []) × (it.what ≡ MemoryRefused place (Some id))

-- the reply to an IPP request; or, if memory for the reply to a query was refused, the status TemporaryError
abbrev pub GivenIpp : ℕ → Bool → ℕ → Bool → Response → List RunPart → List ℕ → Type 0
GivenIpp id closes request query (responds.Ipp answer) lost bytes =
    ((lost ≡ []) × (spelt : List ℕ) × IsReply answer request spelt × (bytes ≡ http_reply closes spelt))
    ⊎ ((query ≡ true) × IsRefusal id At.Reply lost × (bytes ≡ http_status closes TemporaryError request))
GivenIpp id closes request query (responds.Lpd answer) lost bytes = ⊥
GivenIpp id closes request query responds.Nothing lost bytes = ⊥

-- the acknowledgement or the refusal of an LPD job
abbrev pub GivenJob : Response → List ℕ → Type 0
GivenJob (responds.Lpd (Shown.Taken taken)) bytes = bytes ≡ ack_of (Shown.Taken taken) ∷ []
GivenJob _ bytes = ⊥

-- the text of a queue; a removal has no answer
abbrev pub GivenCommand : Response → List ℕ → Type 0
GivenCommand (responds.Lpd (Shown.Queue listing)) bytes = bytes ≡ text_of (Shown.Queue listing)
GivenCommand (responds.Lpd Shown.NoQueue) bytes = bytes ≡ text_of Shown.NoQueue
GivenCommand responds.Nothing bytes = bytes ≡ []
GivenCommand _ bytes = ⊥

-- The answer by the core's reply; or if memory for the event was refused, the status TemporaryError or the byte 01. A command has no answer then, and its connection breaks.
abbrev pub Given : ℕ → Bool → Client → Bool → Option Effects → List RunPart → List ℕ → Type 0
Given id closes (client.Ipp request) query (Some reply) lost bytes = GivenIpp id closes request query reply.response lost bytes
Given id closes (client.Ipp request) query None lost bytes = IsRefusal id At.Event lost × (bytes ≡ http_status closes TemporaryError request)
Given id closes client.LpdJob query (Some reply) lost bytes = (lost ≡ []) × GivenJob reply.response bytes
Given id closes client.LpdJob query None lost bytes = IsRefusal id At.Event lost × (bytes ≡ 1 ∷ [])
Given id closes client.LpdCommand query (Some reply) lost bytes = (lost ≡ []) × GivenCommand reply.response bytes
Given id closes client.LpdCommand query None lost bytes = ⊥

-- the core handled this event of a client, which was answered so
abbrev pub IsGivenTo : ℕ → Bool → Client → Event → List RunPart → List ℕ → Type 0
IsGivenTo id closes who event asked bytes =
    (it : RunPart) × (outcome : Outcome) × (lost : List RunPart) × (asked ≡ it ∷ lost) × (it.what ≡ EventComes event outcome) × Given id closes who (is_query event) (effects_of outcome) lost bytes

-- the answer to the connection's ask
abbrev pub IsGiven : ℕ → Bool → Ask → List RunPart → List ℕ → Type 0
IsGiven id closes (ask.Event who event) asked bytes = IsGivenTo id closes who event asked bytes
IsGiven id closes (ask.Unread request) asked bytes = IsRefusal id At.Event asked × (bytes ≡ http_status closes TemporaryError request)
IsGiven id closes (ask.Lost part) asked bytes = IsRefusal id (place_of_part part) asked × (bytes ≡ 1 ∷ [])
IsGiven id closes _ asked bytes = ⊥

-- the bytes of a step: those that the connection owes by itself, or the server's answer
abbrev pub IsOwed : ℕ → Bool → Step → List RunPart → List ℕ → Type 0
IsOwed id closes (step.Due due last) asked bytes = (asked ≡ []) × (bytes ≡ due_bytes due)
IsOwed id closes (step.Asks what last) asked bytes = IsGiven id closes what asked bytes
IsOwed id closes (step.Breaks what) asked bytes = ⊥

-- an act on the connection of this number
pub record IsAct (id : ℕ) (a : Act) : Type 0 where
  pub next : IsNext a.state.settings a.read a.before a.what a.after
  pub owed : IsOwed id (closes_of a.after) a.what a.asked a.bytes

-- the connection drains after the step
abbrev pub drains : Step → Bool
drains (step.Due due last) = last
drains (step.Asks what last) = last
drains (step.Breaks what) = false

-- acts, one after the other; no act follows one after which the connection drains
abbrev pub AreActs : ℕ → PeerRecord → List Act → PeerRecord → Type 0
AreActs id before [] after = after ≡ before
AreActs id before (a ∷ acts) after = (a.before ≡ before) × IsAct id a × (drains a.what ≡ true → acts ≡ []) × AreActs id a.after acts after

-- the connection drains after one of these acts
abbrev pub drained : List Act → Bool
drained [] = false
drained (a ∷ acts) = drains a.what || drained acts

abbrev pub IsPrefixOf : List ℕ → List ℕ → Type 0
IsPrefixOf prefix whole = (rest : List ℕ) × (whole ≡ prefix ++ rest)

-- ---- the run

-- a state of the run: the opening, or the state after a part of it
abbrev pub IsStateOf : State → State → List RunPart → Type 0
IsStateOf state opening [] = state ≡ opening
IsStateOf state opening (it ∷ later) = (state ≡ opening) ⊎ IsStateOf state it.state later

abbrev pub is_asked : ℕ → Option ℕ → Bool
is_asked key None = false
is_asked key (Some other) = other == key

-- the parts of a run that the connection under a key asked for
abbrev pub asked_by : ℕ → List RunPart → List RunPart
asked_by key [] = []
asked_by key (it ∷ later) = (if is_asked key it.asked then it ∷ [] else []) ++ asked_by key later

-- ---- the law

-- The bytes due on a client's connection are those of its acts, from its first byte on. The events that it asked for since it was accepted, and the refusals of memory for them, are exactly those of these acts, in order. Each act is on a prefix of the bytes read.
pub record IsAnswered (opening : State) (key : ℕ) (handled : List RunPart) (e : Entry) : Type 0 where
  pub earlier : List RunPart
  pub since : List RunPart
  pub whole : handled ≡ earlier ++ since
  pub door : Door
  pub acts : List Act
  pub are : AreActs e.id (opening_peer door) acts e.progress
  pub prefixes : All (λ (a : Act). IsPrefixOf a.read e.read) acts
  pub over : drained acts ≡ true → e.draining ≡ true
  pub states : All (λ (a : Act). IsStateOf a.state opening handled) acts
  pub asked : asked_by key since ≡ flat_map (λ (a : Act). a.asked) acts
  pub due : e.due ≡ flat_map (λ (a : Act). a.bytes) acts

-- the next item, if there is one, makes no bytes due: the connection broke at it
abbrev pub IsLast : State → List RunPart → List ℕ → PeerRecord → PeerRecord → Type 0
IsLast opening handled whole after progress =
    (after ≡ progress)
    ⊎ ((state : State) × (read : List ℕ) × (what : Step) × IsStateOf state opening handled × IsPrefixOf read whole × IsNext state.settings read after what progress)

abbrev pub IsEvent : Happened → Type 0
IsEvent (EventComes event outcome) = Unit {0}
IsEvent (MemoryRefused place id) = ⊥

-- at most one event, and at most one refusal of memory, which follows the event
abbrev pub IsOneAtMost : List RunPart → Type 0
IsOneAtMost [] = Unit {0}
IsOneAtMost (it ∷ []) = Unit {0}
IsOneAtMost (it ∷ lost ∷ []) = IsEvent it.what × (IsEvent lost.what → ⊥)
IsOneAtMost (it ∷ lost ∷ more) = ⊥

-- A connection took these acts and then broke. Its events and refusals of memory are those of these acts, and at most one more event, which was handled and has no answer, and one more refusal; none if the connection drained before it broke.
pub record BrokeAfter (opening : State) (key : ℕ) (handled since : List RunPart) (before : PeerRecord) (base : List ℕ) (e : Entry) : Type 0 where
  pub acts : List Act
  pub after : PeerRecord
  pub are : AreActs e.id before acts after
  pub prefixes : All (λ (a : Act). IsPrefixOf a.read e.read) acts
  pub states : All (λ (a : Act). IsStateOf a.state opening handled) acts
  pub unanswered : List RunPart
  pub one : IsOneAtMost unanswered
  pub asked : asked_by key since ≡ flat_map (λ (a : Act). a.asked) acts ++ unanswered
  pub last : IsLast opening handled e.read after e.progress
  pub over : drained acts ≡ true → (e.progress ≡ after) × (unanswered ≡ [])
  pub due : e.due ≡ base ++ flat_map (λ (a : Act). a.bytes) acts

-- The bytes due on a client's connection that broke are those of its acts before.
pub record IsCutOff (opening : State) (key : ℕ) (handled : List RunPart) (e : Entry) : Type 0 where
  pub earlier : List RunPart
  pub since : List RunPart
  pub whole : handled ≡ earlier ++ since
  pub door : Door
  pub until : BrokeAfter opening key handled since (opening_peer door) [] e

-- the connection is that of a client, not of a device
abbrev pub ClientTalk : PeerRecord → Type 0
ClientTalk (Http parsed closes body) = Unit {0}
ClientTalk (Queue items session) = Unit {0}
ClientTalk (Link reports device) = ⊥

-- a client's connection that was closed without having broken was answered, by the events before
abbrev pub WasAnswered : State → List RunPart → Entry → Type 0
WasAnswered opening handled e = ClientTalk e.progress → e.broken ≡ false → (key : ℕ) × (before : List RunPart) × (tail : List RunPart) × (handled ≡ before ++ tail) × IsAnswered opening key before e

-- a client's connection that broke and was closed was answered until it broke
abbrev pub WasCutOff : State → List RunPart → Entry → Type 0
WasCutOff opening handled e = ClientTalk e.progress → e.broken ≡ true → (key : ℕ) × (before : List RunPart) × (tail : List RunPart) × (handled ≡ before ++ tail) × IsCutOff opening key before e

-- the items acted on are a prefix of those that the bytes read contain, by HTTP or by RFC 1179
abbrev pub IsFirst : List ℕ → PeerRecord → Type 0
IsFirst read (Http parsed closes body) = ParsesFirst read parsed
IsFirst read (Queue items session) = Lpd.ParsesFirst read items
IsFirst read (Link reports device) = Unit {0}

-- The events of a trace are one run of the core, whose parts give the observer's notes. Each open connection of a client that isn't broken is answered by the run, and so was each that was closed without having broken. A broken one was answered until it broke. On each connection, open or closed, the items acted on are a prefix of those that its bytes contain. On an open connection they are all of these, unless the connection is draining or broken.
pub record AreAnswered (opening : State) (trace : Trace) (l : Ledger) : Type 0 where
  pub handled : List RunPart
  pub timed : AreOf trace handled
  pub run : AreHandled opening handled l.core
  pub notified : run_notes (happenings_in trace) ≡ flat_map (λ (it : RunPart). it.notes) handled
  pub answered : (key : ℕ) (e : Entry) → l.entries key ≡ Some e → ClientTalk e.progress → e.broken ≡ false → IsAnswered opening key handled e
  pub first : (key : ℕ) (e : Entry) → l.entries key ≡ Some e → IsFirst e.read e.progress
  pub closed_first : All (λ (it : Entry × Fate). IsFirst it.0.read it.0.progress) l.closed
  pub acted_on : (key : ℕ) (e : Entry) → l.entries key ≡ Some e → IsActedOn e
  pub closed : All (λ (it : Entry × Fate). WasAnswered opening handled it.0) l.closed
  pub cut_off : (key : ℕ) (e : Entry) → l.entries key ≡ Some e → ClientTalk e.progress → e.broken ≡ true → IsCutOff opening key handled e
  pub closed_cut_off : All (λ (it : Entry × Fate). WasCutOff opening handled it.0) l.closed
