-- The next ask of a connection, as a relation on its entry: on all bytes that were read and on the part of them that was acted on.
use Rattle.std.specs.Prelude.{ℕ, ◌≡◌, ◌⊎◌, ◌||◌, Bool, true, false, List, [], ◌∷◌, ◌++◌, Option, Some, None}
use Rattle.base_types.specs.Report.{ReportRecord}
use Rattle.settings_file.specs.Settings.{ServerSettings, device_named}
use Rattle.http_front.specs.Stream.{HttpElement, elements_of, Exchanges}
use Rattle.http_front.specs.Stream as Http
use Rattle.http_front.specs.declared.item.HttpItem.{HttpItem}
use Rattle.lpd.specs.declared.fault.LpdFault.{LpdFault}
use Rattle.lpd.specs.Items.{ItemRecord}
use Rattle.lpd.specs.Stream.{LpdItems, Open, Faulty}
use Rattle.lpd.specs.Stream as Lpd
use Rattle.lpd.specs.Session.{SessionState}
use Rattle.device_link.specs.declared.fault.LinkFault.{LinkFault}
use Rattle.device_link.specs.Stream.{device_reports, Unfinished}
use Rattle.device_link.specs.Stream as Link
use Rattle.connections.specs.declared.connection.Fed.{Fed}
use Rattle.connections.specs.declared.connection.Fed.TheVariants as fed
use Rattle.connections.specs.declared.ask.Ask.{Ask}
use Rattle.connections.specs.declared.ask.Ask.TheVariants as ask
use Rattle.connections.specs.declared.ask.AllocFailure.TheVariants as growth
use Rattle.connections.specs.declared.step.Step.{Step}
use Rattle.connections.specs.declared.step.Step.TheVariants as step
use Rattle.connections.specs.Session.{is_queue}
use Rattle.connections.specs.Entry.{PeerRecord, Http as OfIpp, Queue as OfLpd, Link as OfDevice, Entry, with_progress, reading, finishing, broken, owing, needs_memory}
use Rattle.connections.specs.Steps.{StepsIpp, closes_after, body_after, StepsLpd, StepsDevice, refused, faulty, no_memory, due_bytes}

-- ---- the next item of a stream, after the items that were acted on

-- the next item of an IPP client
pub record IppItemComes (e : Entry) (parsed : List HttpElement) (closes : Bool) (body : List ℕ) (what : Step) (mid : Entry) : Type 0 where
  pub item : HttpItem
  pub part : List ℕ
  pub next : Http.ParsesFirst e.read (parsed ++ elements_of item part)
  pub comes : StepsIpp item closes body what
  pub after : mid ≡ with_progress (OfIpp (parsed ++ elements_of item part) (closes_after item closes) (body_after item what part body)) e

-- the next item of an LPD client
pub record LpdItemComes (queues : List ℕ → Bool) (e : Entry) (items : List ItemRecord) (session : Option SessionState) (what : Step) (mid : Entry) : Type 0 where
  pub parsed : ItemRecord
  pub session_after : Option SessionState
  pub next : Lpd.ParsesFirst e.read (items ++ parsed ∷ [])
  pub comes : StepsLpd queues session parsed what session_after
  pub after : mid ≡ with_progress (OfLpd (items ++ parsed ∷ []) session_after) e

-- a fault of an LPD client's stream
pub record FindsFault (e : Entry) (items : List ItemRecord) (what : Step) (mid : Entry) : Type 0 where
  pub fault : LpdFault
  pub is : LpdItems e.read items (Faulty fault)
  pub comes : what ≡ refused
  pub after : mid ≡ e

-- memory to read a line is refused: the content of the line isn't known
abbrev pub LosesLine : Entry → Step → Entry → Type 0
LosesLine e what mid = (what ≡ no_memory) × (mid ≡ e)

-- the next report of a device
pub record ReportComes (named : List ℕ → Option ℕ) (e : Entry) (reports : List ReportRecord) (device : Option ℕ) (what : Step) (mid : Entry) : Type 0 where
  pub parsed : ReportRecord
  pub device_after : Option ℕ
  pub next : Link.ParsesFirst e.read (reports ++ parsed ∷ [])
  pub comes : StepsDevice named device parsed what device_after
  pub after : mid ≡ with_progress (OfDevice (reports ++ parsed ∷ []) device_after) e

-- a fault of a device's stream
pub record FindsLinkFault (e : Entry) (reports : List ReportRecord) (device : Option ℕ) (what : Step) (mid : Entry) : Type 0 where
  pub fault : LinkFault
  pub is : device_reports e.read ≡ record { reports = reports; ending = Link.Faulty fault }
  pub comes : what ≡ faulty device
  pub after : mid ≡ e

-- the next item of a stream is acted on, with its step
abbrev pub ItemComes : ServerSettings → PeerRecord → Entry → Step → Entry → Type 0
ItemComes settings (OfIpp parsed closes body) e what mid = IppItemComes e parsed closes body what mid
ItemComes settings (OfLpd items session) e what mid = LpdItemComes (is_queue settings) e items session what mid ⊎ (FindsFault e items what mid ⊎ LosesLine e what mid)
ItemComes settings (OfDevice reports device) e what mid = ReportComes (device_named settings) e reports device what mid ⊎ (FindsLinkFault e reports device what mid ⊎ LosesLine e what mid)

-- ---- the result of a step

-- bytes become due; memory for them may be refused where they exceed the reserve
abbrev pub Owes : List ℕ → Entry → Ask → Entry → Type 0
Owes bytes e what new =
    ((what ≡ ask.Nothing) × (new ≡ owing bytes e))
    ⊎ ((what ≡ ask.Broke growth.Output) × (needs_memory bytes e ≡ true) × (new ≡ broken e))

abbrev pub StepsTo : Step → Entry → Ask → Entry → Type 0
StepsTo (step.Due due last) e what new = Owes (due_bytes due) (finishing last e) what new
StepsTo (step.Asks asked last) e what new = (what ≡ asked) × (new ≡ finishing last e)
StepsTo (step.Breaks asked) e what new = (what ≡ asked) × (new ≡ broken e)

-- ---- the whole relation

-- all bytes that were read were acted on
abbrev pub IsActedOnAs : List ℕ → PeerRecord → Type 0
IsActedOnAs read (OfIpp parsed closes body) = Exchanges read parsed
IsActedOnAs read (OfLpd items session) = LpdItems read items Open
IsActedOnAs read (OfDevice reports device) = device_reports read ≡ record { reports = reports; ending = Unfinished }

-- the connection is draining or broken, or all bytes that it read were acted on
abbrev pub IsActedOn : Entry → Type 0
IsActedOn e = ((e.draining || e.broken) ≡ true) ⊎ IsActedOnAs e.read e.progress

-- a connection that is neither draining nor broken has an ask
pub record AsksNext (settings : ServerSettings) (what : Ask) (e new : Entry) : Type 0 where
  pub counts : (e.draining || e.broken) ≡ false
  pub comes : Step
  pub mid : Entry
  pub takes_item : ItemComes settings e.progress e comes mid
  pub steps : StepsTo comes mid what new

-- the connection has this ask, or no ask
abbrev pub Asking : ServerSettings → Option Ask → Entry → Entry → Type 0
Asking settings None e new = IsActedOn e × (new ≡ e)
Asking settings (Some what) e new = AsksNext settings what e new

-- ---- the bytes of a peer

-- a segment is read whole, or discarded by a draining connection, or memory for it is refused and the connection breaks
abbrev pub Feeds : List ℕ → Fed → Entry → Entry → Type 0
Feeds segment fed.Discarded e new = (e.draining ≡ true) × (new ≡ e)
Feeds segment fed.Fed e new = (e.draining ≡ false) × (new ≡ reading segment e)
Feeds segment (fed.Refused id) e new = (e.draining ≡ false) × (id ≡ e.id) × (new ≡ broken e)
