-- The elements of readers, as entries have them.
use Rattle.std.proofs.Common.{◌≡◌, ℕ, Bool, true, false, List, [], ◌∷◌, ◌++◌, refl, sym, ◌∙◌, ap, subst, Option, Some, None, inl, inr, Ok, Err, ◌<◌, IsSome}
use Rattle.std.specs.Prelude.{map, take}
use Rattle.std.specs.Str.Lines.{strip_carriage_return}
use Rattle.std.proofs.lemmas.List.{append_assoc, append-nil}
use Rattle.text.specs.Parts.{words_of}
use Rattle.base_types.specs.declared.report.Report.{Report}
use Rattle.base_types.specs.declared.report.Report.TheVariants as reported
use Rattle.base_types.specs.Report.{ReportRecord, HelloReport, MediaReport, ReadyReport, StopReport, BusyReport, PagesReport, DoneReport, FailReport, GoneReport, report_of}
use Rattle.settings_file.specs.Settings.{ServerSettings, device_named}
use Rattle.device_link.specs.Line.{in_turn, parsed}
use Rattle.device_link.specs.declared.fault.LinkError.{LinkError}
use Rattle.device_link.specs.declared.fault.LinkError.TheVariants as link
use Rattle.device_link.specs.Stream.{LinkState}
use Rattle.device_link.specs.Stream as Link
use Rattle.http_front.specs.declared.item.HttpItem.{HttpItem}
use Rattle.http_front.specs.declared.item.HttpItem.TheVariants as item
use Rattle.http_front.specs.Stream.{HttpState, HttpElement, HasByte, elements_of, Exchanges}
use Rattle.http_front.specs.Stream as Http
use Rattle.lpd.specs.declared.fault.LpdError.{LpdError}
use Rattle.lpd.specs.declared.fault.LpdError.TheVariants as lpd
use Rattle.lpd.specs.declared.item.LpdItem.{LpdItem}
use Rattle.lpd.specs.Items.{ItemRecord, item_record}
use Rattle.lpd.specs.Stream.{LpdState, LpdItems, Open}
use Rattle.lpd.specs.Stream as Lpd
use Rattle.ipp_operations.specs.Reader as Body
use Rattle.connections.specs.declared.peer.Peer.{Peer}
use Rattle.connections.specs.declared.peer.Peer.TheVariants as of
use Rattle.connections.specs.declared.step.Step.{Step}
use Rattle.connections.specs.declared.step.Step.TheVariants as step
use Rattle.connections.specs.States.{IppClientState, LpdClientState, DeviceState}
use Rattle.connections.specs.Session.{is_queue}
use Rattle.connections.specs.Entry.{PeerRecord, Entry, with_progress}
use Rattle.connections.specs.Entry as entry
use Rattle.connections.specs.Steps.{StepsDevice, StepsHello, silent, step_of}
use Rattle.connections.specs.Peers.{with_http, with_lpd, with_link, HandlesIpp, HandlesLpdIfAny, HandlesReportIfAny, IsFedIpp, NextIpp, NextLpd, NextDevice, NextPeer, IsFedPeer, link_step, Greets, ComesOf}
use Rattle.connections.specs.Asking.{IppItemComes as NextItem, LpdItemComes, FindsFault, ReportComes, FindsLinkFault, ItemComes, IsActedOnAs}
use Rattle.connections.specs.Representation.{FitsIpp, FitsLpd, FitsDevice, FitsPeer}

-- the step for the first fault of an LPD client's stream, or for the lack of memory for a line
pub next_failed : (queues : List ℕ → Bool) (t u : LpdClientState) (error : LpdError) → Lpd.Answers t.reader (Err error) u.reader → u ≡ with_lpd u.reader t → NextLpd queues (Some (step_of error)) t u
next_failed queues t u (lpd.Fault fault) answers is = inr (inl (fault, answers, refl, is))
next_failed queues t u lpd.OutOfMemory answers is = inr (inr (answers, refl, is))

-- the item taken off the stream, if it is whole
pub item_acted_on : (queues : List ℕ → Bool) (t u : LpdClientState) (reader : LpdState) (it : Option LpdItem) (what : Option Step) → Lpd.Answers t.reader (Ok it) reader → (IsSome it → Lpd.work reader < Lpd.work t.reader) → HandlesLpdIfAny queues it what (with_lpd reader t) u → NextLpd queues what t u
item_acted_on queues t u reader None None answers falls takes_item =
    let same : reader ≡ u.reader = sym (ap (λ (x : LpdClientState). x.reader) takes_item) in
    (subst (λ (r : LpdState). Lpd.Answers t.reader (Ok None) r) same answers, takes_item ∙ ap (λ (r : LpdState). with_lpd r t) same)
item_acted_on queues t u reader (Some it) (Some what) answers falls takes_item = inl (it, reader, answers, falls refl, takes_item)
item_acted_on queues t u reader None (Some what) answers falls takes_item = absurd takes_item
item_acted_on queues t u reader (Some it) None answers falls takes_item = absurd takes_item

pub report_acted_on : (named : List ℕ → Option ℕ) (t u : DeviceState) (reader : LinkState) (it : Option Report) (what : Option Step) → Link.Answers t.reader (Ok it) reader → (IsSome it → Link.work reader < Link.work t.reader) → HandlesReportIfAny named it what (with_link reader t) u → NextDevice named what t u
report_acted_on named t u reader None None answers falls takes_item =
    let same : reader ≡ u.reader = sym (ap (λ (x : DeviceState). x.reader) takes_item) in
    (subst (λ (r : LinkState). Link.Answers t.reader (Ok None) r) same answers, takes_item ∙ ap (λ (r : LinkState). with_link r t) same)
report_acted_on named t u reader (Some it) (Some what) answers falls takes_item = inl (it, reader, answers, falls refl, takes_item)
report_acted_on named t u reader None (Some what) answers falls takes_item = absurd takes_item
report_acted_on named t u reader (Some it) None answers falls takes_item = absurd takes_item

-- the step for the first fault of a device's stream, or for the lack of memory for a line
pub report_failed : (named : List ℕ → Option ℕ) (t u : DeviceState) (error : LinkError) → Link.Answers t.reader (Err error) u.reader → u ≡ with_link u.reader t → NextDevice named (Some (link_step error t.device)) t u
report_failed named t u (link.Fault fault) answers is = inr (inl (fault, answers, refl, is))
report_failed named t u link.OutOfMemory answers is = inr (inr (answers, refl, is))

-- the connection goes on after this step
abbrev pub Goes : Step → Type 0
Goes (step.Due due last) = Unit {0}
Goes (step.Asks ask last) = Unit {0}
Goes (step.Breaks ask) = ⊥

-- the elements of a broken connection's peer count no more
pub broken_peer : (read : List ℕ) (progress : PeerRecord) (off : Bool) (p : Peer) → FitsPeer read progress off p → FitsPeer read progress true p
broken_peer read progress off (of.Ipp t) f = f
broken_peer read progress off (of.Lpd t) f = f
broken_peer read progress off (of.Device t) f = record { reports = f.reports; is = f.is; linked = λ no. let never : true ≡ false = no in cc }

-- the next of a stream was acted on, as the entry has it
pub record HasCome (settings : ServerSettings) (e : Entry) (what : Step) (p : Peer) : Type 0 where
  pub progress : PeerRecord
  pub takes_item : ItemComes settings e.progress e what (with_progress progress e)
  pub broken : FitsPeer e.read progress true p
  pub whole : Goes what → FitsPeer e.read progress false p

-- ---- an IPP client

-- where no bytes of a body are unreported, the next item is the next step
pub item_is_next : (t u : IppClientState) (reader : HttpState) (parsed : HttpItem) (what : Step) → t.unreported ≡ false → Http.Answers t.reader (Some parsed) reader → Http.work reader < Http.work t.reader → HandlesIpp parsed what (with_http reader t) u → NextIpp (Some what) t u
item_is_next t u reader parsed what all_reported answers falls handles = inr (all_reported, (parsed, reader, answers, falls, handles))

fits_ipp : (read : List ℕ) (parsed : List HttpElement) (closes : Bool) (body : List ℕ) (reader : HttpState) (u : IppClientState) → Http.HasRead read parsed reader → u.reader ≡ reader → u.closes ≡ closes → Body.HasRead body u.body → FitsIpp read (entry.Http parsed closes body) u
fits_ipp read parsed closes body reader u reaches same is body_read = record {
  parsed = parsed;
  body = body;
  unreported = [];
  is = ap (λ (x : Bool). entry.Http parsed x body) (sym is);
  all_reported = λ off. refl;
  reaches = subst (λ (xs : List HttpElement). Http.HasRead read xs u.reader) (sym (append-nil parsed)) (subst (λ (r : HttpState). Http.HasRead read parsed r) (sym same) reaches);
  body_read = subst (λ (xs : List ℕ). Body.HasRead xs u.body) (sym (append-nil body)) body_read;
}

-- all that the body was fed was reported
reaches_reported : (read : List ℕ) (progress : PeerRecord) (t : IppClientState) (f : FitsIpp read progress t) → t.unreported ≡ false → Http.HasRead read f.parsed t.reader
reaches_reported read progress t f off =
    let none : Http.HasRead read (f.parsed ++ map HasByte []) t.reader = subst (λ (xs : List ℕ). Http.HasRead read (f.parsed ++ map HasByte xs) t.reader) (f.all_reported off) f.reaches in
    subst (λ (xs : List HttpElement). Http.HasRead read xs t.reader) (append-nil f.parsed) none

body_reported : (read : List ℕ) (progress : PeerRecord) (t : IppClientState) (f : FitsIpp read progress t) → t.unreported ≡ false → Body.HasRead f.body t.body
body_reported read progress t f off =
    let none : Body.HasRead (f.body ++ []) t.body = subst (λ (xs : List ℕ). Body.HasRead (f.body ++ xs) t.body) (f.all_reported off) f.body_read in
    subst (λ (xs : List ℕ). Body.HasRead xs t.body) (append-nil f.body) none

parses_first : (read : List ℕ) (parsed : List HttpElement) (reader : HttpState) → Http.HasRead read parsed reader → Http.ParsesFirst read parsed
parses_first read parsed reader reaches = record { next = reader.awaited; left = reaches.left; leads = reaches.leads }

-- the step for an item
abbrev Comes : Entry → List HttpElement → Bool → List ℕ → Step → IppClientState → Type 0
Comes e parsed closes body what u = (progress : PeerRecord) × NextItem e parsed closes body what (with_progress progress e) × FitsIpp e.read progress u

part_comes : (e : Entry) (parsed : List HttpElement) (t u : IppClientState) (body : List ℕ) (reader : HttpState) (what : Step) → Http.HasRead e.read (parsed ++ elements_of item.BodyPart reader.part) reader → Body.HasRead body t.body → HandlesIpp item.BodyPart what (with_http reader t) u → Comes e parsed t.closes body what u
part_comes e parsed t u body reader (step.Due due last) reaches body_read it = (
  entry.Http (parsed ++ elements_of item.BodyPart reader.part) t.closes (body ++ reader.part),
  record { item = item.BodyPart; part = reader.part; next = parses_first e.read (parsed ++ elements_of item.BodyPart reader.part) reader reaches; comes = inl it.0; after = refl },
  fits_ipp e.read (parsed ++ elements_of item.BodyPart reader.part) t.closes (body ++ reader.part) reader u reaches (ap (λ (x : IppClientState). x.reader) it.1) (ap (λ (x : IppClientState). x.closes) it.1) (it.2 body body_read),
)
part_comes e parsed t u body reader (step.Asks ask last) reaches body_read it = absurd it
part_comes e parsed t u body reader (step.Breaks ask) reaches body_read it = (
  entry.Http (parsed ++ elements_of item.BodyPart reader.part) t.closes body,
  record { item = item.BodyPart; part = reader.part; next = parses_first e.read (parsed ++ elements_of item.BodyPart reader.part) reader reaches; comes = inr it.0; after = refl },
  fits_ipp e.read (parsed ++ elements_of item.BodyPart reader.part) t.closes body reader u reaches (ap (λ (x : IppClientState). x.reader) it.1) (ap (λ (x : IppClientState). x.closes) it.1) (subst (λ (x : IppClientState). Body.HasRead body x.body) (sym it.1) body_read),
)

item_comes : (e : Entry) (parsed : List HttpElement) (t u : IppClientState) (body : List ℕ) (reader : HttpState) (what : Step) (it : HttpItem) → Http.HasRead e.read (parsed ++ elements_of it reader.part) reader → Body.HasRead body t.body → HandlesIpp it what (with_http reader t) u → Comes e parsed t.closes body what u
item_comes e parsed t u body reader what (item.Head closes) reaches body_read (is, same, begun) = (
  entry.Http (parsed ++ elements_of (item.Head closes) reader.part) closes [],
  record { item = item.Head closes; part = reader.part; next = parses_first e.read (parsed ++ elements_of (item.Head closes) reader.part) reader reaches; comes = is; after = refl },
  fits_ipp e.read (parsed ++ elements_of (item.Head closes) reader.part) closes [] reader u reaches (ap (λ (x : IppClientState). x.reader) same) (ap (λ (x : IppClientState). x.closes) same) begun,
)
item_comes e parsed t u body reader what item.Continue reaches body_read (is, same) = (
  entry.Http (parsed ++ elements_of item.Continue reader.part) t.closes body,
  record { item = item.Continue; part = reader.part; next = parses_first e.read (parsed ++ elements_of item.Continue reader.part) reader reaches; comes = is; after = refl },
  fits_ipp e.read (parsed ++ elements_of item.Continue reader.part) t.closes body reader u reaches (ap (λ (x : IppClientState). x.reader) same) (ap (λ (x : IppClientState). x.closes) same) (subst (λ (x : IppClientState). Body.HasRead body x.body) (sym same) body_read),
)
item_comes e parsed t u body reader what item.BodyPart reaches body_read it = part_comes e parsed t u body reader what reaches body_read it
item_comes e parsed t u body reader what item.BodyEnd reaches body_read (same, begun, ends) = (
  entry.Http (parsed ++ elements_of item.BodyEnd reader.part) t.closes [],
  record { item = item.BodyEnd; part = reader.part; next = parses_first e.read (parsed ++ elements_of item.BodyEnd reader.part) reader reaches; comes = ends body body_read; after = refl },
  fits_ipp e.read (parsed ++ elements_of item.BodyEnd reader.part) t.closes [] reader u reaches (ap (λ (x : IppClientState). x.reader) same) (ap (λ (x : IppClientState). x.closes) same) begun,
)
item_comes e parsed t u body reader what (item.Refuse refusal) reaches body_read (is, same) = (
  entry.Http (parsed ++ elements_of (item.Refuse refusal) reader.part) t.closes body,
  record { item = item.Refuse refusal; part = reader.part; next = parses_first e.read (parsed ++ elements_of (item.Refuse refusal) reader.part) reader reaches; comes = is; after = refl },
  fits_ipp e.read (parsed ++ elements_of (item.Refuse refusal) reader.part) t.closes body reader u reaches (ap (λ (x : IppClientState). x.reader) same) (ap (λ (x : IppClientState). x.closes) same) (subst (λ (x : IppClientState). Body.HasRead body x.body) (sym same) body_read),
)

ipp_comes : (settings : ServerSettings) (e : Entry) (t u : IppClientState) (what : Step) → FitsIpp e.read e.progress t → NextIpp (Some what) t u → HasCome settings e what (of.Ipp u)
ipp_comes settings e t u what f (inl (on, is, same)) =
    let fits : FitsIpp e.read (entry.Http (f.parsed ++ map HasByte f.unreported) t.closes (f.body ++ f.unreported)) u =
    fits_ipp e.read (f.parsed ++ map HasByte f.unreported) t.closes (f.body ++ f.unreported) t.reader u f.reaches (ap (λ (x : IppClientState). x.reader) same) (ap (λ (x : IppClientState). x.closes) same) (subst (λ (x : IppClientState). Body.HasRead (f.body ++ f.unreported) x.body) (sym same) f.body_read) in
    let next : NextItem e f.parsed t.closes f.body silent (with_progress (entry.Http (f.parsed ++ map HasByte f.unreported) t.closes (f.body ++ f.unreported)) e) = record {
      item = item.BodyPart;
      part = f.unreported;
      next = parses_first e.read (f.parsed ++ map HasByte f.unreported) t.reader f.reaches;
      comes = inl refl;
      after = refl;
    } in
    let comes : HasCome settings e silent (of.Ipp u) = record {
      progress = entry.Http (f.parsed ++ map HasByte f.unreported) t.closes (f.body ++ f.unreported);
      takes_item = subst (λ (k : PeerRecord). ItemComes settings k e silent (with_progress (entry.Http (f.parsed ++ map HasByte f.unreported) t.closes (f.body ++ f.unreported)) e)) (sym f.is) next;
      broken = fits;
      whole = λ goes. fits;
    } in
    subst (λ (w : Step). HasCome settings e w (of.Ipp u)) (sym is) comes
ipp_comes settings e t u what f (inr (off, (it, reader, answers, falls, takes_item))) =
    let c = item_comes e f.parsed t u f.body reader what it (answers.0 e.read f.parsed (reaches_reported e.read e.progress t f off)) (body_reported e.read e.progress t f off) takes_item in
    record { progress = c.0; takes_item = subst (λ (k : PeerRecord). ItemComes settings k e what (with_progress c.0 e)) (sym f.is) c.1; broken = c.2; whole = λ goes. c.2 }

-- ---- an LPD client

lpd_comes : (settings : ServerSettings) (e : Entry) (t u : LpdClientState) (what : Step) → FitsLpd e.read e.progress t → NextLpd (is_queue settings) (Some what) t u → HasCome settings e what (of.Lpd u)
lpd_comes settings e t u what f (inl (it, reader, answers, falls, (same, comes))) =
    let items : List ItemRecord = f.items ++ item_record it reader.file ∷ [] in
    let reaches : Lpd.HasRead e.read items reader = answers e.read f.items f.reaches in
    let fits : FitsLpd e.read (entry.Queue (f.items ++ item_record it reader.file ∷ []) u.session) u = record { items = f.items ++ item_record it reader.file ∷ []; is = refl; reaches = subst (λ (r : LpdState). Lpd.HasRead e.read (f.items ++ item_record it reader.file ∷ []) r) (sym same) reaches } in
    let next : LpdItemComes (is_queue settings) e f.items t.session what (with_progress (entry.Queue (f.items ++ item_record it reader.file ∷ []) u.session) e) = record {
      parsed = item_record it reader.file;
      session_after = u.session;
      next = record { next = reader.awaited; left = reaches.left; leads = reaches.leads };
      comes = comes;
      after = refl;
    } in
    record { progress = entry.Queue (f.items ++ item_record it reader.file ∷ []) u.session; takes_item = subst (λ (k : PeerRecord). ItemComes settings k e what (with_progress (entry.Queue (f.items ++ item_record it reader.file ∷ []) u.session) e)) (sym f.is) (inl next); broken = fits; whole = λ goes. fits }
lpd_comes settings e t u what f (inr (inl (fault, answers, comes, is))) =
    let found = answers.1 e.read f.items f.reaches in
    let fits : FitsLpd e.read e.progress u = record { items = f.items; is = f.is ∙ sym (ap (λ (x : LpdClientState). entry.Queue f.items x.session) is); reaches = found.1 } in
    let next : FindsFault e f.items what (with_progress e.progress e) = record { fault = fault; is = found.0; comes = comes; after = refl } in
    record { progress = e.progress; takes_item = subst (λ (k : PeerRecord). ItemComes settings k e what (with_progress e.progress e)) (sym f.is) (inr (inl next)); broken = fits; whole = λ goes. fits }
lpd_comes settings e t u what f (inr (inr (answers, comes, is))) =
    let fits : FitsLpd e.read e.progress u = record { items = f.items; is = f.is ∙ sym (ap (λ (x : LpdClientState). entry.Queue f.items x.session) is); reaches = subst (λ (r : LpdState). Lpd.HasRead e.read f.items r) (sym answers.0) f.reaches } in
    record { progress = e.progress; takes_item = subst (λ (k : PeerRecord). ItemComes settings k e what (with_progress e.progress e)) (sym f.is) (inr (inr (comes, refl))); broken = fits; whole = λ goes. fits }

-- ---- a device

abbrev IsHello : ReportRecord → Type 0
IsHello (HelloReport name) = Unit {0}
IsHello _ = ⊥

first_is_hello : (o : Option ReportRecord) (r : ReportRecord) → in_turn false o ≡ Some r → IsHello r
first_is_hello None r is = cc
first_is_hello (Some (HelloReport name)) r is = let same : HelloReport name ≡ r = cc in subst IsHello same tt
first_is_hello (Some (MediaReport names)) r is = cc
first_is_hello (Some ReadyReport) r is = cc
first_is_hello (Some StopReport) r is = cc
first_is_hello (Some (BusyReport time)) r is = cc
first_is_hello (Some (PagesReport job printed)) r is = cc
first_is_hello (Some (DoneReport job)) r is = cc
first_is_hello (Some (FailReport job)) r is = cc
first_is_hello (Some GoneReport) r is = cc

hello_first : (read : List ℕ) (r : ReportRecord) (reader : LinkState) → Link.HasRead read (r ∷ []) reader → IsHello r
hello_first read r reader reaches =
    let prefix = reaches.leads.1 in
    first_is_hello (parsed (words_of (strip_carriage_return (take prefix.count read)))) r prefix.parses

-- the step for a report, and the device then: the device has given its name, unless the connection breaks
record Comes_of (named : List ℕ → Option ℕ) (device : Option ℕ) (it : ReportRecord) (what : Step) (after : Option ℕ) : Type 0 where
  pub steps : StepsDevice named device it what after
  pub goes : Goes what → after ≡ None → ⊥

greets_hello : (name : List ℕ) (o : Option ℕ) (what : Step) (after : Option ℕ) → StepsHello name o what after → Goes what → after ≡ None → ⊥
greets_hello name None what after (is, none) goes gone = subst Goes is goes
greets_hello name (Some device) what after (is, some) goes gone = let never : Some device ≡ None = sym some ∙ gone in cc

first_comes : (named : List ℕ → Option ℕ) (it : Report) (what : Step) (after : Option ℕ) → IsHello (report_of it) → Greets named it what after → Comes_of named None (report_of it) what after
first_comes named (reported.Hello name) what after hello greets = record { steps = greets; goes = greets_hello name (named name) what after greets }
first_comes named (reported.Media names) what after hello greets = absurd hello
first_comes named reported.Ready what after hello greets = absurd hello
first_comes named reported.Stop what after hello greets = absurd hello
first_comes named (reported.Busy time) what after hello greets = absurd hello
first_comes named (reported.Pages job printed) what after hello greets = absurd hello
first_comes named (reported.Done job) what after hello greets = absurd hello
first_comes named (reported.Fail job) what after hello greets = absurd hello
first_comes named reported.Gone what after hello greets = absurd hello

report_comes : (named : List ℕ → Option ℕ) (read : List ℕ) (given : List ReportRecord) (device : Option ℕ) (it : Report) (reader : LinkState) (what : Step) (after : Option ℕ) → (device ≡ None → given ≡ []) → Link.HasRead read (given ++ report_of it ∷ []) reader → ComesOf named device it what after → Comes_of named device (report_of it) what after
report_comes named read given None it reader what after unnamed reaches comes =
    let only : Link.HasRead read (report_of it ∷ []) reader = subst (λ (rs : List ReportRecord). Link.HasRead read (rs ++ report_of it ∷ []) reader) (unnamed refl) reaches in
    first_comes named it what after (hello_first read (report_of it) reader only) comes
report_comes named read given (Some device) it reader what after unnamed reaches (is, some) = record {
  steps = ((it, refl, is), some);
  goes = λ goes no. let never : Some device ≡ None = sym some ∙ no in cc;
}

off_device : (read : List ℕ) (reports : List ReportRecord) (u : DeviceState) → FitsDevice read (entry.Link reports u.device) true u
off_device read reports u = record { reports = reports; is = refl; linked = λ no. let never : true ≡ false = no in cc }

device_comes : (settings : ServerSettings) (e : Entry) (t u : DeviceState) (what : Step) → FitsDevice e.read e.progress false t → NextDevice (device_named settings) (Some what) t u → HasCome settings e what (of.Device u)
device_comes settings e t u what f (inl (it, reader, answers, falls, (same, comes))) =
    let linked = f.linked refl in
    let reaches : Link.HasRead e.read (f.reports ++ report_of it ∷ []) reader = answers e.read f.reports linked.reaches in
    let c = report_comes (device_named settings) e.read f.reports t.device it reader what u.device linked.unnamed reaches comes in
    let next : ReportComes (device_named settings) e f.reports t.device what (with_progress (entry.Link (f.reports ++ report_of it ∷ []) u.device) e) = record {
      parsed = report_of it;
      device_after = u.device;
      next = record { next = reader.greeted; left = reaches.left; leads = reaches.leads };
      comes = c.steps;
      after = refl;
    } in
    record {
      progress = entry.Link (f.reports ++ report_of it ∷ []) u.device;
      takes_item = subst (λ (k : PeerRecord). ItemComes settings k e what (with_progress (entry.Link (f.reports ++ report_of it ∷ []) u.device) e)) (sym f.is) (inl next);
      broken = off_device e.read (f.reports ++ report_of it ∷ []) u;
      whole = λ goes. record {
        reports = f.reports ++ report_of it ∷ [];
        is = refl;
        linked = λ on. record { reaches = subst (λ (r : LinkState). Link.HasRead e.read (f.reports ++ report_of it ∷ []) r) (sym same) reaches; unnamed = λ none. absurd (c.goes goes none) };
      };
    }
device_comes settings e t u what f (inr (inl (fault, answers, comes, is))) =
    let found = answers.1 e.read f.reports (f.linked refl).reaches in
    let progress : e.progress ≡ entry.Link f.reports u.device = f.is ∙ sym (ap (λ (x : DeviceState). entry.Link f.reports x.device) is) in
    let next : FindsLinkFault e f.reports t.device what (with_progress e.progress e) = record { fault = fault; is = found.0; comes = comes; after = refl } in
    record {
      progress = e.progress;
      takes_item = subst (λ (k : PeerRecord). ItemComes settings k e what (with_progress e.progress e)) (sym f.is) (inr (inl next));
      broken = record { reports = f.reports; is = progress; linked = λ no. let never : true ≡ false = no in cc };
      whole = λ goes. absurd (subst Goes comes goes);
    }
device_comes settings e t u what f (inr (inr (answers, comes, is))) =
    let progress : e.progress ≡ entry.Link f.reports u.device = f.is ∙ sym (ap (λ (x : DeviceState). entry.Link f.reports x.device) is) in
    record {
      progress = e.progress;
      takes_item = subst (λ (k : PeerRecord). ItemComes settings k e what (with_progress e.progress e)) (sym f.is) (inr (inr (comes, refl)));
      broken = record { reports = f.reports; is = progress; linked = λ no. let never : true ≡ false = no in cc };
      whole = λ goes. absurd (subst Goes comes goes);
    }

-- ---- any of them

pub peer_next : (settings : ServerSettings) (e : Entry) (x y : Peer) (what : Step) → FitsPeer e.read e.progress false x → NextPeer settings (Some what) x y → HasCome settings e what y
peer_next settings e (of.Ipp t) (of.Ipp u) what f next = ipp_comes settings e t u what f next
peer_next settings e (of.Lpd t) (of.Lpd u) what f next = lpd_comes settings e t u what f next
peer_next settings e (of.Device t) (of.Device u) what f next = device_comes settings e t u what f next
peer_next settings e (of.Ipp t) (of.Lpd u) what f next = absurd next
peer_next settings e (of.Ipp t) (of.Device u) what f next = absurd next
peer_next settings e (of.Lpd t) (of.Ipp u) what f next = absurd next
peer_next settings e (of.Lpd t) (of.Device u) what f next = absurd next
peer_next settings e (of.Device t) (of.Ipp u) what f next = absurd next
peer_next settings e (of.Device t) (of.Lpd u) what f next = absurd next

-- the bytes that are left have no whole item
pub rested : (settings : ServerSettings) (read : List ℕ) (progress : PeerRecord) (x y : Peer) → FitsPeer read progress false x → NextPeer settings None x y → IsActedOnAs read progress × FitsPeer read progress false y
rested settings read progress (of.Ipp t) (of.Ipp u) f (off, (answers, is)) =
    let all : Exchanges read f.parsed = answers.1 read f.parsed (reaches_reported read progress t f off) in
    let reaches : Http.HasRead read f.parsed u.reader = subst (λ (xs : List HttpElement). Http.HasRead read xs u.reader) (append-nil f.parsed) (answers.0 read f.parsed (reaches_reported read progress t f off)) in
    let body_read : Body.HasRead f.body u.body = subst (λ (v : IppClientState). Body.HasRead f.body v.body) (sym is) (body_reported read progress t f off) in
    let fits : FitsIpp read (entry.Http f.parsed t.closes f.body) u = fits_ipp read f.parsed t.closes f.body u.reader u reaches refl (ap (λ (v : IppClientState). v.closes) is) body_read in
    (subst (λ (k : PeerRecord). IsActedOnAs read k) (sym f.is) all, subst (λ (k : PeerRecord). FitsIpp read k u) (sym f.is) fits)
rested settings read progress (of.Lpd t) (of.Lpd u) f (answers, is) =
    let all : LpdItems read f.items Open = answers.1 read f.items f.reaches in
    let same : entry.Queue f.items t.session ≡ entry.Queue f.items u.session = sym (ap (λ (v : LpdClientState). entry.Queue f.items v.session) is) in
    (subst (λ (k : PeerRecord). IsActedOnAs read k) (sym f.is) all, record { items = f.items; is = f.is ∙ same; reaches = subst (λ (r : LpdState). Lpd.HasRead read f.items r) (sym answers.0) f.reaches })
rested settings read progress (of.Device t) (of.Device u) f (answers, is) =
    let linked = f.linked refl in
    let all = answers.1 read f.reports linked.reaches in
    let same : entry.Link f.reports t.device ≡ entry.Link f.reports u.device = sym (ap (λ (v : DeviceState). entry.Link f.reports v.device) is) in (
      subst (λ (k : PeerRecord). IsActedOnAs read k) (sym f.is) all,
      record {
        reports = f.reports;
        is = f.is ∙ same;
        linked = λ whole. record { reaches = subst (λ (r : LinkState). Link.HasRead read f.reports r) (sym answers.0) linked.reaches; unnamed = λ none. linked.unnamed (sym (ap (λ (v : DeviceState). v.device) is) ∙ none) };
      },
    )
rested settings read progress (of.Ipp t) (of.Lpd u) f it = absurd it
rested settings read progress (of.Ipp t) (of.Device u) f it = absurd it
rested settings read progress (of.Lpd t) (of.Ipp u) f it = absurd it
rested settings read progress (of.Lpd t) (of.Device u) f it = absurd it
rested settings read progress (of.Device t) (of.Ipp u) f it = absurd it
rested settings read progress (of.Device t) (of.Lpd u) f it = absurd it

map_bytes : (xs ys : List ℕ) → map HasByte xs ++ map HasByte ys ≡ map HasByte (xs ++ ys)
map_bytes [] ys = refl
map_bytes (x ∷ xs) ys = ap (λ (zs : List HttpElement). HasByte x ∷ zs) (map_bytes xs ys)

fed_ipp : (read segment : List ℕ) (progress : PeerRecord) (t u : IppClientState) → FitsIpp read progress t → IsFedIpp segment t u → FitsIpp (read ++ segment) progress u
fed_ipp read segment progress t u f (inl (is, reaches)) =
    let same : entry.Http f.parsed t.closes f.body ≡ entry.Http f.parsed u.closes f.body = sym (ap (λ (v : IppClientState). entry.Http f.parsed v.closes f.body) is) in
    record {
      parsed = f.parsed;
      body = f.body;
      unreported = f.unreported;
      is = f.is ∙ same;
      all_reported = λ off. f.all_reported (sym (ap (λ (v : IppClientState). v.unreported) is) ∙ off);
      reaches = reaches read (f.parsed ++ map HasByte f.unreported) f.reaches;
      body_read = subst (λ (v : IppClientState). Body.HasRead (f.body ++ f.unreported) v.body) (sym is) f.body_read;
    }
fed_ipp read segment progress t u f (inr (is, reaches, body_read)) =
    let same : entry.Http f.parsed t.closes f.body ≡ entry.Http f.parsed u.closes f.body = sym (ap (λ (v : IppClientState). entry.Http f.parsed v.closes f.body) is) in
    let on : u.unreported ≡ true = ap (λ (v : IppClientState). v.unreported) is in
    let parsed : (f.parsed ++ map HasByte f.unreported) ++ map HasByte segment ≡ f.parsed ++ map HasByte (f.unreported ++ segment) =
    append_assoc f.parsed (map HasByte f.unreported) (map HasByte segment) ∙ ap (λ (xs : List HttpElement). f.parsed ++ xs) (map_bytes f.unreported segment) in
    record {
      parsed = f.parsed;
      body = f.body;
      unreported = f.unreported ++ segment;
      is = f.is ∙ same;
      all_reported = λ off. let never : true ≡ false = sym on ∙ off in cc;
      reaches = subst (λ (xs : List HttpElement). Http.HasRead (read ++ segment) xs u.reader) parsed (reaches read (f.parsed ++ map HasByte f.unreported) f.reaches);
      body_read = subst (λ (xs : List ℕ). Body.HasRead xs u.body) (append_assoc f.body f.unreported segment) (body_read (f.body ++ f.unreported) f.body_read);
    }

-- a segment was fed
pub fed_peer : (read segment : List ℕ) (progress : PeerRecord) (off : Bool) (x y : Peer) → FitsPeer read progress off x → IsFedPeer segment x y → FitsPeer (read ++ segment) progress off y
fed_peer read segment progress off (of.Ipp t) (of.Ipp u) f fed = fed_ipp read segment progress t u f fed
fed_peer read segment progress off (of.Lpd t) (of.Lpd u) f (is, reaches) =
    let same : entry.Queue f.items t.session ≡ entry.Queue f.items u.session = sym (ap (λ (v : LpdClientState). entry.Queue f.items v.session) is) in
    record { items = f.items; is = f.is ∙ same; reaches = reaches read f.items f.reaches }
fed_peer read segment progress off (of.Device t) (of.Device u) f (is, reaches) =
    let same : entry.Link f.reports t.device ≡ entry.Link f.reports u.device = sym (ap (λ (v : DeviceState). entry.Link f.reports v.device) is) in
    record {
      reports = f.reports;
      is = f.is ∙ same;
      linked = λ whole. record { reaches = reaches read f.reports (f.linked whole).reaches; unnamed = λ none. (f.linked whole).unnamed (sym (ap (λ (v : DeviceState). v.device) is) ∙ none) };
    }
fed_peer read segment progress off (of.Ipp t) (of.Lpd u) f it = absurd it
fed_peer read segment progress off (of.Ipp t) (of.Device u) f it = absurd it
fed_peer read segment progress off (of.Lpd t) (of.Ipp u) f it = absurd it
fed_peer read segment progress off (of.Lpd t) (of.Device u) f it = absurd it
fed_peer read segment progress off (of.Device t) (of.Ipp u) f it = absurd it
fed_peer read segment progress off (of.Device t) (of.Lpd u) f it = absurd it
