-- The reports of devices that reach the core: those that a device sends on its connections, and the end of each connection.
use Rattle.std.specs.Prelude.{ℕ, ◌≡◌, ◌⊎◌, ◌==◌, Bool, true, false, if◌then◌else◌, List, [], ◌∷◌, ◌++◌, All, map, filter, slice_get, Some, None}
use Rattle.std.specs.List.{flat_map}
use Rattle.base_types.specs.Report.{ReportRecord, HelloReport, GoneReport, report_of}
use Rattle.settings_file.specs.Settings.{device_names}
use Rattle.device_link.specs.Stream.{ParsesFirst}
use Rattle.print_room.specs.State.{State}
use Rattle.events.specs.declared.event.Event.{Event}
use Rattle.events.specs.declared.event.Event.TheVariants as Is
use Rattle.dispatcher.specs.Notes.{Note}
use Rattle.dispatcher.specs.Run.{Outcome, Handles}
use Rattle.connections.specs.Entry.{PeerRecord, Http, Queue, Link, Entry, device_of}
use Rattle.connections.specs.Asking.{IsActedOn}
use Rattle.server.specs.Ledger.{Ledger, Fate}
use Rattle.server.specs.Enqueuing.{IsAbsent}
use Rattle.server.specs.Hello.{IsAlone}
use Rattle.server.specs.Turn.{Trace}
use Rattle.server.specs.Law.{core_notes, moment_of, happenings_in}
use Rattle.promises.specs.Orders.{is_turn, names}

-- ---- the run

-- An event that the core handled: its outcome, the observer's notes, and the state after it. It came in a turn, or by a call between turns.
pub record Came : Type 0 where
  pub moment : ℕ
  pub event : Event
  pub outcome : Outcome
  pub notes : List Note
  pub state : State
  pub in_turn : Bool

-- the events in order
abbrev pub AreRun : State → List Came → State → Type 0
AreRun old [] new = new ≡ old
AreRun old (it ∷ later) new = Handles it.moment it.event old it.outcome it.notes it.state × AreRun it.state later new

-- each event is at this moment, and in a turn or not
abbrev pub ComeAt : Bool → ℕ → List Came → Type 0
ComeAt turn moment came = All (λ (it : Came). (it.moment ≡ moment) × (it.in_turn ≡ turn)) came

-- the events of the first action, then those of the next, and so on
abbrev pub ComeOf : Trace → List Came → Type 0
ComeOf [] came = came ≡ []
ComeOf (action ∷ actions) came = (first : List Came) × (later : List Came) × (came ≡ first ++ later) × ComeAt (is_turn action) (moment_of action) first × ComeOf actions later

-- ---- the reports of a device to the core

-- the report of an event, if it is of this device
abbrev pub report_in : ℕ → Event → List ReportRecord
report_in device (Is.Report other report) = if other == device then report_of report ∷ [] else []
report_in device _ = []

abbrev pub report_by : ℕ → Came → List ReportRecord
report_by device it = if it.in_turn then report_in device it.event else []

-- all reports of a device that came in turns, in order
abbrev pub reports_by : ℕ → List Came → List ReportRecord
reports_by device came = flat_map (report_by device) came

-- ---- the reports of a device on its connections

-- the reports in the whole lines of a device's connection
abbrev pub reports_given : PeerRecord → List ReportRecord
reports_given (Http parsed closes body) = []
reports_given (Queue items session) = []
reports_given (Link reports device) = reports

-- a whole connection: its reports, and then that the device is gone
abbrev pub life_of : PeerRecord → List ReportRecord
life_of progress = reports_given progress ++ GoneReport ∷ []

-- the device gave its name on the connection, and has had no other connection since
abbrev pub is_of : ℕ → PeerRecord → Bool
is_of device progress = names device (device_of progress)

abbrev pub progress_of : Entry × Fate → PeerRecord
progress_of it = it.0.progress

-- a connection with these reports broke: it is to be closed, or was
abbrev pub HasBroken : PeerRecord → Ledger → Type 0
HasBroken progress l =
    ((key : ℕ) × (e : Entry) × (l.entries key ≡ Some e) × (e.progress ≡ progress) × (e.broken ≡ true))
    ⊎ ((before : List (Entry × Fate)) × (it : Entry × Fate) × (tail : List (Entry × Fate)) × (l.closed ≡ before ++ it ∷ tail) × (it.0.progress ≡ progress) × (it.0.broken ≡ true))

-- the device has another connection: this connection has no device any more, and broke
abbrev pub IsGivenUp : PeerRecord → Ledger → Type 0
IsGivenUp progress l = (device_of progress ≡ None) × HasBroken progress l

-- the reports of a device on its one open connection, if it has one
abbrev pub IsNow : ℕ → List ReportRecord → Ledger → Type 0
IsNow device now l =
    (IsAbsent device l × (now ≡ []))
    ⊎ ((key : ℕ) × (e : Entry) × (l.entries key ≡ Some e) × (e.progress ≡ Link now (Some device)) × IsAlone device key l)

-- ---- the law

-- The reports of a device to the core, connection by connection: the reports of each ended connection, the device's name first, and then that the device is gone; and at last the reports of the open connection. The ended connections are exactly the closed connections of the device, in the order of their ends, and between them the connections that the device gave up by another connection.
pub record IsReported (device : ℕ) (notified : List ReportRecord) (l : Ledger) : Type 0 where
  pub past : List PeerRecord
  pub now : List ReportRecord
  pub whole : notified ≡ flat_map life_of past ++ now
  pub closed : filter (is_of device) past ≡ filter (is_of device) (map progress_of l.closed)
  pub superseded_entry : All (λ (progress : PeerRecord). is_of device progress ≡ false → IsGivenUp progress l) past
  pub is_now : IsNow device now l

-- the reports acted on are the first reports of a prefix of the bytes read
abbrev pub IsRead : Entry → Type 0
IsRead e = (prefix : List ℕ) × (rest : List ℕ) × (e.read ≡ prefix ++ rest) × ParsesFirst prefix (reports_given e.progress)

-- a state of the run: the opening, or the state after an event
abbrev pub IsStateIn : State → State → List Came → Type 0
IsStateIn state opening [] = state ≡ opening
IsStateIn state opening (it ∷ later) = (state ≡ opening) ⊎ IsStateIn state it.state later

-- the settings of a state of the run have this name for the device
abbrev pub IsNameIn : State → List Came → List ℕ → ℕ → Type 0
IsNameIn opening came name device = (state : State) × IsStateIn state opening came × (slice_get (device_names state.settings) device ≡ Some name)

-- the first report on a connection of a device is the device's name
abbrev pub IsGreeted : (List ℕ → ℕ → Type 0) → Entry → Type 0
IsGreeted Name e = (device : ℕ) (reports : List ReportRecord) → e.progress ≡ Link reports (Some device) → (name : List ℕ) × (rest : List ReportRecord) × (reports ≡ HelloReport name ∷ rest) × Name name device

-- The events of a trace are one run of the core, which gives the observer's notes. For each device the reports among the events that came in turns are those on its connections, and the end of each connection. The settings have the name that the device gave. The reports of a connection are a prefix of those that its bytes contain. On each connection, open or closed, they are all that its bytes contain, unless it is draining or broken.
pub record AreDelivered (opening : State) (trace : Trace) (l : Ledger) : Type 0 where
  pub came : List Came
  pub timed : ComeOf trace came
  pub run : AreRun opening came l.core
  pub notified : core_notes (happenings_in trace) ≡ flat_map (λ (it : Came). it.notes) came
  pub reported : (device : ℕ) → IsReported device (reports_by device came) l
  pub greeted : (key : ℕ) (e : Entry) → l.entries key ≡ Some e → IsGreeted (IsNameIn opening came) e
  pub closed_greeted : All (λ (it : Entry × Fate). IsGreeted (IsNameIn opening came) it.0) l.closed
  pub read : (key : ℕ) (e : Entry) → l.entries key ≡ Some e → IsRead e
  pub closed_read : All (λ (it : Entry × Fate). IsRead it.0) l.closed
  pub acted_on : (key : ℕ) (e : Entry) → l.entries key ≡ Some e → IsActedOn e
  pub closed_acted_on : All (λ (it : Entry × Fate). IsActedOn it.0) l.closed
