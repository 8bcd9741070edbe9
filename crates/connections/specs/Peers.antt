-- The state of each kind of peer, and the change that each call makes of it.
use Rattle.std.specs.Prelude.{ℕ, ◌≡◌, ◌⊎◌, ◌<◌, ◌+◌, ◌++◌, Bool, true, false, if◌then◌else◌, List, [], map, Option, Some, None, Ok, Err}
use Rattle.base_types.specs.declared.report.Report.{Report}
use Rattle.base_types.specs.declared.report.Report.TheVariants as report
use Rattle.base_types.specs.Report.{ReportRecord}
use Rattle.settings_file.specs.Settings.{ServerSettings, device_named}
use Rattle.device_link.specs.declared.fault.LinkFault.{LinkFault}
use Rattle.device_link.specs.declared.fault.LinkError.{LinkError}
use Rattle.device_link.specs.declared.fault.LinkError.TheVariants as link
use Rattle.device_link.specs.Stream.{LinkState}
use Rattle.device_link.specs.Stream as Link
use Rattle.lpd.specs.declared.fault.LpdFault.{LpdFault}
use Rattle.lpd.specs.declared.fault.LpdError.TheVariants as lpd
use Rattle.lpd.specs.declared.item.LpdItem.{LpdItem}
use Rattle.lpd.specs.Items.{ItemRecord, item_record}
use Rattle.lpd.specs.Stream.{LpdState}
use Rattle.lpd.specs.Stream as Lpd
use Rattle.http_front.specs.declared.item.HttpItem.{HttpItem}
use Rattle.http_front.specs.declared.item.HttpItem.TheVariants as item
use Rattle.http_front.specs.Stream.{HttpState, HttpElement, HasByte}
use Rattle.http_front.specs.Stream as Http
use Rattle.ipp_operations.specs.Reader.{ReaderState}
use Rattle.ipp_operations.specs.Reader as Body
use Rattle.connections.specs.States.{IppClientState, LpdClientState, DeviceState}
use Rattle.connections.specs.Session.{is_queue}
use Rattle.connections.specs.Steps.{EndsBody, StepsLpd, StepsHello, silent, no_memory, refused, faulty}
use Rattle.connections.specs.declared.ask.Ask.TheVariants as ask
use Rattle.connections.specs.declared.step.Due.TheVariants as due
use Rattle.connections.specs.declared.step.Step.{Step}
use Rattle.connections.specs.declared.step.Step.TheVariants as step
use Rattle.connections.specs.declared.peer.Peer.{Peer}
use Rattle.connections.specs.declared.peer.Peer.TheVariants as of
use Rattle.wires.specs.declared.wire.Door.{Door}
use Rattle.wires.specs.declared.wire.Door.TheVariants as door

-- ---- an IPP client

-- a client of which nothing was read yet
abbrev pub IsNewIpp : IppClientState → Type 0
IsNewIpp t = Http.HasRead [] [] t.reader × (t.closes ≡ false) × Body.HasRead [] t.body × (t.unreported ≡ false)

abbrev pub with_http : HttpState → IppClientState → IppClientState
with_http reader t = record t { reader = reader }

abbrev pub with_body : ReaderState → IppClientState → IppClientState
with_body body t = record t { body = body }

-- a segment was fed to the reader
abbrev pub FeedsReader : List ℕ → IppClientState → IppClientState → Type 0
FeedsReader segment t u = (u ≡ with_http u.reader t) × ((stream : List ℕ) (given : List HttpElement) → Http.HasRead stream given t.reader → Http.HasRead (stream ++ segment) given u.reader)

-- a segment is bytes of a body, and was fed to the body at once; a later step reports it
abbrev pub FeedsBody : List ℕ → IppClientState → IppClientState → Type 0
FeedsBody segment t u =
    (u ≡ record t { reader = u.reader; body = u.body; unreported = true })
    × ((stream : List ℕ) (given : List HttpElement) → Http.HasRead stream given t.reader → Http.HasRead (stream ++ segment) (given ++ map HasByte segment) u.reader)
    × ((bytes : List ℕ) → Body.HasRead bytes t.body → Body.HasRead (bytes ++ segment) u.body)

-- a segment was fed
abbrev pub IsFedIpp : List ℕ → IppClientState → IppClientState → Type 0
IsFedIpp segment t u = FeedsReader segment t u ⊎ FeedsBody segment t u

-- a request begins, with an empty body so far
abbrev pub BeginsIpp : Bool → Step → IppClientState → IppClientState → Type 0
BeginsIpp closes what t u = (what ≡ silent) × (u ≡ record t { closes = closes; body = u.body }) × Body.HasRead [] u.body

-- the last part of the body was read, or memory for it is refused
abbrev pub TakesPart : Step → IppClientState → IppClientState → Type 0
TakesPart (step.Due due last) t u = (step.Due due last ≡ silent) × (u ≡ with_body u.body t) × ((bytes : List ℕ) → Body.HasRead bytes t.body → Body.HasRead (bytes ++ t.reader.part) u.body)
TakesPart (step.Asks ask last) t u = ⊥
TakesPart (step.Breaks ask) t u = (step.Breaks ask ≡ no_memory) × (u ≡ t)

-- the body is whole
abbrev pub EndsIpp : Step → IppClientState → IppClientState → Type 0
EndsIpp what t u = (u ≡ with_body u.body t) × Body.HasRead [] u.body × ((bytes : List ℕ) → Body.HasRead bytes t.body → EndsBody t.closes bytes what)

-- the step and the state after an item
abbrev pub HandlesIpp : HttpItem → Step → IppClientState → IppClientState → Type 0
HandlesIpp (item.Head closes) what t u = BeginsIpp closes what t u
HandlesIpp item.Continue what t u = (what ≡ step.Due due.Continue false) × (u ≡ t)
HandlesIpp item.BodyPart what t u = TakesPart what t u
HandlesIpp item.BodyEnd what t u = EndsIpp what t u
HandlesIpp (item.Refuse refusal) what t u = (what ≡ step.Due (due.Refusal refusal) true) × (u ≡ t)

-- a step reports the bytes that the body was fed before
abbrev pub ReportsBody : Step → IppClientState → IppClientState → Type 0
ReportsBody what t u = (t.unreported ≡ true) × (what ≡ silent) × (u ≡ record t { unreported = false })

-- the next item was taken off the stream and acted on
abbrev pub TakesItem : Step → IppClientState → IppClientState → Type 0
TakesItem what t u =
    (parsed : HttpItem) × (reader : HttpState)
    × Http.Answers t.reader (Some parsed) reader × (Http.work reader < Http.work t.reader) × HandlesIpp parsed what (with_http reader t) u

-- the next item, if one is whole, was taken off the stream and acted on
abbrev pub TakesIfItem : Option Step → IppClientState → IppClientState → Type 0
TakesIfItem None t u = Http.Answers t.reader None u.reader × (u ≡ with_http u.reader t)
TakesIfItem (Some what) t u = TakesItem what t u

-- the same, if no bytes that the body was fed are still to be reported; else a step reports those
abbrev pub NextIpp : Option Step → IppClientState → IppClientState → Type 0
NextIpp None t u = (t.unreported ≡ false) × TakesIfItem None t u
NextIpp (Some what) t u = ReportsBody what t u ⊎ ((t.unreported ≡ false) × TakesIfItem (Some what) t u)

-- ---- an LPD client

abbrev pub IsNewLpd : LpdClientState → Type 0
IsNewLpd t = Lpd.HasRead [] [] t.reader × (t.session ≡ None)

abbrev pub with_lpd : LpdState → LpdClientState → LpdClientState
with_lpd reader t = record t { reader = reader }

abbrev pub IsFedLpd : List ℕ → LpdClientState → LpdClientState → Type 0
IsFedLpd segment t u = (u ≡ with_lpd u.reader t) × ((stream : List ℕ) (given : List ItemRecord) → Lpd.HasRead stream given t.reader → Lpd.HasRead (stream ++ segment) given u.reader)

-- the step and the session after an item that was read
abbrev pub ComesTo : (List ℕ → Bool) → ItemRecord → Step → LpdClientState → LpdClientState → Type 0
ComesTo queues parsed what t u = StepsLpd queues t.session parsed what u.session

-- the step and the state after an item
abbrev pub HandlesLpd : (List ℕ → Bool) → LpdItem → Step → LpdClientState → LpdClientState → Type 0
HandlesLpd queues parsed what t u = (u.reader ≡ t.reader) × StepsLpd queues t.session (item_record parsed t.reader.file) what u.session

-- the same for an item that may be incomplete
abbrev pub HandlesLpdIfAny : (List ℕ → Bool) → Option LpdItem → Option Step → LpdClientState → LpdClientState → Type 0
HandlesLpdIfAny queues None None t u = u ≡ t
HandlesLpdIfAny queues (Some parsed) (Some what) t u = HandlesLpd queues parsed what t u
HandlesLpdIfAny queues _ _ t u = ⊥

-- the next item was taken off the stream and acted on; or a fault was found; or memory for a line is refused
abbrev pub NextLpd : (List ℕ → Bool) → Option Step → LpdClientState → LpdClientState → Type 0
NextLpd queues None t u = Lpd.Answers t.reader (Ok None) u.reader × (u ≡ with_lpd u.reader t)
NextLpd queues (Some what) t u =
    ((parsed : LpdItem) × (reader : LpdState) × Lpd.Answers t.reader (Ok (Some parsed)) reader × (Lpd.work reader < Lpd.work t.reader) × HandlesLpd queues parsed what (with_lpd reader t) u)
    ⊎ (((fault : LpdFault) × Lpd.Answers t.reader (Err (lpd.Fault fault)) u.reader × (what ≡ refused) × (u ≡ with_lpd u.reader t))
    ⊎ (Lpd.Answers t.reader (Err lpd.OutOfMemory) u.reader × (what ≡ no_memory) × (u ≡ with_lpd u.reader t)))

-- ---- a device

abbrev pub IsNewDevice : DeviceState → Type 0
IsNewDevice t = Link.HasRead [] [] t.reader × (t.device ≡ None)

abbrev pub with_link : LinkState → DeviceState → DeviceState
with_link reader t = record t { reader = reader }

abbrev pub IsFedDevice : List ℕ → DeviceState → DeviceState → Type 0
IsFedDevice segment t u = (u ≡ with_link u.reader t) × ((stream : List ℕ) (given : List ReportRecord) → Link.HasRead stream given t.reader → Link.HasRead (stream ++ segment) given u.reader)

abbrev pub link_step : LinkError → Option ℕ → Step
link_step (link.Fault fault) device = faulty device
link_step link.OutOfMemory device = no_memory

-- the step for the first report, and the device that it names
abbrev pub Greets : (List ℕ → Option ℕ) → Report → Step → Option ℕ → Type 0
Greets named (report.Hello name) what after = StepsHello name (named name) what after
Greets named _ what after = (what ≡ step.Breaks (ask.Fault None)) × (after ≡ None)

-- the step for a report, and the device that has given its name after it
abbrev pub ComesOf : (List ℕ → Option ℕ) → Option ℕ → Report → Step → Option ℕ → Type 0
ComesOf named None parsed what after = Greets named parsed what after
ComesOf named (Some device) parsed what after = (what ≡ step.Asks (ask.Report device parsed) false) × (after ≡ Some device)

abbrev pub HandlesReport : (List ℕ → Option ℕ) → Report → Step → DeviceState → DeviceState → Type 0
HandlesReport named parsed what t u = (u.reader ≡ t.reader) × ComesOf named t.device parsed what u.device

-- the same for a report that may be incomplete
abbrev pub HandlesReportIfAny : (List ℕ → Option ℕ) → Option Report → Option Step → DeviceState → DeviceState → Type 0
HandlesReportIfAny named None None t u = u ≡ t
HandlesReportIfAny named (Some parsed) (Some what) t u = HandlesReport named parsed what t u
HandlesReportIfAny named _ _ t u = ⊥

-- the next report was taken off the stream and acted on; or a fault was found; or memory for a line is refused
abbrev pub NextDevice : (List ℕ → Option ℕ) → Option Step → DeviceState → DeviceState → Type 0
NextDevice named None t u = Link.Answers t.reader (Ok None) u.reader × (u ≡ with_link u.reader t)
NextDevice named (Some what) t u =
    ((parsed : Report) × (reader : LinkState) × Link.Answers t.reader (Ok (Some parsed)) reader × (Link.work reader < Link.work t.reader) × HandlesReport named parsed what (with_link reader t) u)
    ⊎ (((fault : LinkFault) × Link.Answers t.reader (Err (link.Fault fault)) u.reader × (what ≡ faulty t.device) × (u ≡ with_link u.reader t))
    ⊎ (Link.Answers t.reader (Err link.OutOfMemory) u.reader × (what ≡ no_memory) × (u ≡ with_link u.reader t)))

-- ---- a peer of any kind

abbrev pub IsNewPeer : Door → Peer → Type 0
IsNewPeer door.Ipp (of.Ipp t) = IsNewIpp t
IsNewPeer door.Lpd (of.Lpd t) = IsNewLpd t
IsNewPeer door.Devices (of.Device t) = IsNewDevice t
IsNewPeer _ _ = ⊥

abbrev pub IsFedPeer : List ℕ → Peer → Peer → Type 0
IsFedPeer segment (of.Ipp t) (of.Ipp u) = IsFedIpp segment t u
IsFedPeer segment (of.Lpd t) (of.Lpd u) = IsFedLpd segment t u
IsFedPeer segment (of.Device t) (of.Device u) = IsFedDevice segment t u
IsFedPeer segment _ _ = ⊥

abbrev pub NextPeer : ServerSettings → Option Step → Peer → Peer → Type 0
NextPeer settings what (of.Ipp t) (of.Ipp u) = NextIpp what t u
NextPeer settings what (of.Lpd t) (of.Lpd u) = NextLpd (is_queue settings) what t u
NextPeer settings what (of.Device t) (of.Device u) = NextDevice (device_named settings) what t u
NextPeer settings what _ _ = ⊥

-- an upper bound on the steps that a peer's stream can still bring
abbrev pub work : Peer → ℕ
work (of.Ipp t) = Http.work t.reader + (if t.unreported then 1 else 0)
work (of.Lpd t) = Lpd.work t.reader
work (of.Device t) = Link.work t.reader

abbrev pub closes_of : Peer → Bool
closes_of (of.Ipp t) = t.closes
closes_of (of.Lpd t) = false
closes_of (of.Device t) = false

-- the device that gave its name
abbrev pub device_of : Peer → Option ℕ
device_of (of.Ipp t) = None
device_of (of.Lpd t) = None
device_of (of.Device t) = t.device

abbrev pub unnamed : Peer → Peer
unnamed (of.Ipp t) = of.Ipp t
unnamed (of.Lpd t) = of.Lpd t
unnamed (of.Device t) = of.Device (record t { device = None })
