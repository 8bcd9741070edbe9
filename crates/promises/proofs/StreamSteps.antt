-- The steps for the next item of a client's stream, and of a device's stream.
use Rattle.std.proofs.Common.{◌≡◌, ℕ, Bool, true, false, List, [], ◌∷◌, ◌++◌, refl, sym, ◌∙◌, ap, subst, append-nil, Option, Some, None, ◌⊎◌, inl, inr}
use Rattle.base_types.specs.declared.report.Report.{Report}
use Rattle.base_types.specs.declared.report.Report.TheVariants as reported
use Rattle.base_types.specs.Report.{report_of, ReportRecord, HelloReport, MediaReport, ReadyReport, StopReport, BusyReport, PagesReport, DoneReport, FailReport, GoneReport}
use Rattle.std.specs.Prelude.{take}
use Rattle.std.specs.Str.Lines.{strip_carriage_return}
use Rattle.text.specs.Parts.{words_of}
use Rattle.device_link.specs.Line.{parsed as line_report, in_turn}
use Rattle.device_link.specs.Stream.{Leads, ParsesFirst}
use Rattle.settings_file.specs.Settings.{ServerSettings, device_named}
use Rattle.http_front.specs.declared.item.HttpItem.{HttpItem}
use Rattle.http_front.specs.declared.item.HttpItem.TheVariants as item
use Rattle.lpd.specs.Items.{ItemRecord, HasCommand as CommandItem, Aborts, Announces, HasFile}
use Rattle.lpd.specs.Session.{SessionState}
use Rattle.events.specs.declared.event.Event.TheVariants as Is
use Rattle.dispatcher.specs.declared.observer.DeviceRefusal.TheVariants as why
use Rattle.dispatcher.specs.Notes.{Note, DeviceRefused, Refused}
use Rattle.ipp_operations.specs.declared.parsed_request.ParsedRequest.{ParsedRequest}
use Rattle.ipp_operations.specs.declared.parsed_request.ParsedRequest.TheVariants as asked
use Rattle.ipp_operations.specs.ParsedRequest.{Asks as AsksBody}
use Rattle.connections.specs.declared.ask.Ask.{Ask}
use Rattle.connections.specs.declared.ask.Ask.TheVariants as ask
use Rattle.connections.specs.declared.ask.Client.TheVariants as client
use Rattle.connections.specs.declared.ask.AllocFailure.{AllocFailure}
use Rattle.connections.specs.declared.ask.AllocFailure.TheVariants as growth
use Rattle.connections.specs.declared.ask.Part.{Part}
use Rattle.connections.specs.declared.ask.Part.TheVariants as part
use Rattle.connections.specs.declared.step.Step.{Step}
use Rattle.connections.specs.declared.step.Step.TheVariants as step
use Rattle.connections.specs.Session.{ItemResult, Goes as GoesOn, Stops, Submits, Commands, result_of}
use Rattle.connections.specs.Steps.{asked_step, EndsBody, StepsIpp, AsksAs, StepsLpd, StepsHello, StepsDevice, silent, no_memory}
use Rattle.connections.specs.Entry.{PeerRecord, Http, Queue, Link, Entry, device_of, broken, with_progress, finishing}
use Rattle.connections.specs.Asking.{ItemComes, StepsTo}
use Rattle.server.specs.Polls.{Happening, Notified}
use Rattle.server.specs.Ledger.{Ledger}
use Rattle.server.specs.Rel.{Notifies}
use Rattle.server.specs.Acting.{place_of, place_of_part, ActsOn}
use Rattle.server.specs.Law.{core_notes}
use Rattle.promises.proofs.AnswerKinds.{EventOf, asks_ipp, submits_job, commands}
use Rattle.promises.specs.Orders.{named_by, run_notes}
use Rattle.promises.specs.Answers.{ClientTalk}
use Rattle.promises.proofs.SentToDevices.{HasReport, FreshTalk, Ordered, ordered_broken, calm_still, Good, one_entry}
use Rattle.promises.proofs.HandledEvents.{Goes, goes_calm}
use Rattle.promises.proofs.DueToClients.{Calms, calms_refusal}
use Rattle.promises.proofs.EventsOfTurns.{moves_unanswered}

-- ---- the asks of a connection

-- the asks of a client to the server
abbrev pub IsClientAsk : Ask → Type 0
IsClientAsk ask.Nothing = ⊥
IsClientAsk (ask.Broke growth) = ⊥
IsClientAsk (ask.Event who event) = EventOf who event
IsClientAsk (ask.Unread request) = Unit {0}
IsClientAsk (ask.Lost part) = Unit {0}
IsClientAsk (ask.Hello device name) = ⊥
IsClientAsk (ask.Report device report) = ⊥
IsClientAsk (ask.UnknownDevice name) = ⊥
IsClientAsk (ask.Fault device) = ⊥

-- of a device's that has given its name, or doesn't give it now
abbrev pub IsDeviceAsk : Ask → Type 0
IsDeviceAsk ask.Nothing = ⊥
IsDeviceAsk (ask.Broke growth) = Unit {0}
IsDeviceAsk (ask.Event client event) = ⊥
IsDeviceAsk (ask.Unread request) = ⊥
IsDeviceAsk (ask.Lost part) = ⊥
IsDeviceAsk (ask.Hello device name) = ⊥
IsDeviceAsk (ask.Report device report) = None ≡ named_by true (Is.Report device report)
IsDeviceAsk (ask.UnknownDevice name) = Unit {0}
IsDeviceAsk (ask.Fault device) = Unit {0}

pub silent_growth : (it : AllocFailure) (id : ℕ) → core_notes (Notified (Refused (place_of it) (Some id)) ∷ []) ≡ []
silent_growth growth.Input id = refl
silent_growth growth.Output id = refl

pub silent_part : (it : Part) (id : ℕ) → core_notes (Notified (Refused (place_of_part it) (Some id)) ∷ []) ≡ []
silent_part part.File id = refl
silent_part part.Job id = refl

-- as notes of a run
pub silent_run : (it : AllocFailure) (id : ℕ) → run_notes (Notified (Refused (place_of it) (Some id)) ∷ []) ≡ []
silent_run growth.Input id = refl
silent_run growth.Output id = refl

pub notifies_part : (it : Part) (id : ℕ) → run_notes (Notified (Refused (place_of_part it) (Some id)) ∷ []) ≡ Refused (place_of_part it) (Some id) ∷ []
notifies_part part.File id = refl
notifies_part part.Job id = refl

pub calms_device_refused : (id : ℕ) (note : Note) → run_notes (Notified note ∷ []) ≡ [] → Calms (Notifies note)
calms_device_refused id note silent l hs l' it = calm_still l hs l' (ap run_notes it.0 ∙ silent) it.1

pub device_does : (moment key id : ℕ) (what : Ask) (l : Ledger) (hs : List Happening) (l' : Ledger) → IsDeviceAsk what → Good l → ActsOn moment key id what l hs l' → Goes true moment l hs l'
device_does moment key id ask.Nothing l hs l' is good it = absurd is
device_does moment key id (ask.Broke growth) l hs l' is good it = goes_calm true moment l hs l' good (calms_refusal (place_of growth) (Some id) (silent_run growth id) l hs l' it)
device_does moment key id (ask.Event who event) l hs l' is good it = absurd is
device_does moment key id (ask.Unread request) l hs l' is good it = absurd is
device_does moment key id (ask.Lost part) l hs l' is good it = absurd is
device_does moment key id (ask.Hello device name) l hs l' is good it = absurd is
device_does moment key id (ask.Report device report) l hs l' is good it = moves_unanswered true moment (Is.Report device report) is l hs l' good it
device_does moment key id (ask.UnknownDevice name) l hs l' is good it = goes_calm true moment l hs l' good (calms_device_refused id (DeviceRefused id (why.UnknownName name)) refl l hs l' it)
device_does moment key id (ask.Fault device) l hs l' is good it = goes_calm true moment l hs l' good (calms_device_refused id (DeviceRefused id (why.Fault device)) refl l hs l' it)

-- ---- steps of a client

abbrev pub IsClientStep : Step → Type 0
IsClientStep (step.Due due last) = Unit {0}
IsClientStep (step.Asks what last) = IsClientAsk what
IsClientStep (step.Breaks what) = what ≡ ask.Broke growth.Input

pub client_step : (comes is : Step) → comes ≡ is → IsClientStep is → IsClientStep comes
client_step comes is same fine = subst IsClientStep (sym same) fine

pub asked_client : (closes : Bool) (body : List ℕ) (it : ParsedRequest) → AsksBody body it → IsClientStep (asked_step closes it)
asked_client closes body asked.TooShort asks = tt
asked_client closes body (asked.Refused status request) asks = tt
asked_client closes body (asked.Event request event) asks = asks_ipp body request event asks

pub ends_client : (closes : Bool) (body : List ℕ) (comes : Step) → EndsBody closes body comes → IsClientStep comes
ends_client closes body comes (inl (it, asks, is)) = client_step comes (asked_step closes it) is (asked_client closes body it asks)
ends_client closes body comes (inr (request, found, is)) = client_step comes (step.Asks (ask.Unread request) closes) is tt

pub ipp_client : (it : HttpItem) (closes : Bool) (body : List ℕ) (comes : Step) → StepsIpp it closes body comes → IsClientStep comes
ipp_client (item.Head next) closes body comes is = client_step comes silent is tt
ipp_client item.Continue closes body comes is = subst IsClientStep (sym is) tt
ipp_client item.BodyPart closes body comes (inl is) = client_step comes silent is tt
ipp_client item.BodyPart closes body comes (inr is) = client_step comes no_memory is refl
ipp_client item.BodyEnd closes body comes is = ends_client closes body comes is
ipp_client (item.Refuse refusal) closes body comes is = subst IsClientStep (sym is) tt

pub asks_client : (result : ItemResult) (comes : Step) (after : Option SessionState) → AsksAs result comes after → IsClientStep comes
asks_client result (step.Due due last) after is = tt
asks_client (GoesOn answer next) (step.Asks (ask.Event (client.Ipp request) event) last) after is = absurd is
asks_client (GoesOn answer next) (step.Asks (ask.Event client.LpdJob event) last) after is = absurd is
asks_client (GoesOn answer next) (step.Asks (ask.Event client.LpdCommand event) last) after is = absurd is
asks_client (Stops answer) (step.Asks (ask.Event (client.Ipp request) event) last) after is = absurd is
asks_client (Stops answer) (step.Asks (ask.Event client.LpdJob event) last) after is = absurd is
asks_client (Stops answer) (step.Asks (ask.Event client.LpdCommand event) last) after is = absurd is
asks_client (Submits job next) (step.Asks (ask.Event (client.Ipp request) event) last) after is = absurd is
asks_client (Submits job next) (step.Asks (ask.Event client.LpdJob event) last) after is = submits_job job event is.0
asks_client (Submits job next) (step.Asks (ask.Event client.LpdCommand event) last) after is = absurd is
asks_client (Commands command) (step.Asks (ask.Event (client.Ipp request) event) last) after is = absurd is
asks_client (Commands command) (step.Asks (ask.Event client.LpdJob event) last) after is = absurd is
asks_client (Commands command) (step.Asks (ask.Event client.LpdCommand event) last) after is = commands command event is.0
asks_client result (step.Asks (ask.Lost part) last) after is = tt
asks_client (GoesOn answer next) (step.Asks ask.Nothing last) after is = absurd is
asks_client (Stops answer) (step.Asks ask.Nothing last) after is = absurd is
asks_client (Submits job next) (step.Asks ask.Nothing last) after is = absurd is
asks_client (Commands command) (step.Asks ask.Nothing last) after is = absurd is
asks_client (GoesOn answer next) (step.Asks (ask.Broke growth) last) after is = absurd is
asks_client (Stops answer) (step.Asks (ask.Broke growth) last) after is = absurd is
asks_client (Submits job next) (step.Asks (ask.Broke growth) last) after is = absurd is
asks_client (Commands command) (step.Asks (ask.Broke growth) last) after is = absurd is
asks_client (GoesOn answer next) (step.Asks (ask.Unread request) last) after is = absurd is
asks_client (Stops answer) (step.Asks (ask.Unread request) last) after is = absurd is
asks_client (Submits job next) (step.Asks (ask.Unread request) last) after is = absurd is
asks_client (Commands command) (step.Asks (ask.Unread request) last) after is = absurd is
asks_client (GoesOn answer next) (step.Asks (ask.Hello device name) last) after is = absurd is
asks_client (Stops answer) (step.Asks (ask.Hello device name) last) after is = absurd is
asks_client (Submits job next) (step.Asks (ask.Hello device name) last) after is = absurd is
asks_client (Commands command) (step.Asks (ask.Hello device name) last) after is = absurd is
asks_client (GoesOn answer next) (step.Asks (ask.Report device report) last) after is = absurd is
asks_client (Stops answer) (step.Asks (ask.Report device report) last) after is = absurd is
asks_client (Submits job next) (step.Asks (ask.Report device report) last) after is = absurd is
asks_client (Commands command) (step.Asks (ask.Report device report) last) after is = absurd is
asks_client (GoesOn answer next) (step.Asks (ask.UnknownDevice name) last) after is = absurd is
asks_client (Stops answer) (step.Asks (ask.UnknownDevice name) last) after is = absurd is
asks_client (Submits job next) (step.Asks (ask.UnknownDevice name) last) after is = absurd is
asks_client (Commands command) (step.Asks (ask.UnknownDevice name) last) after is = absurd is
asks_client (GoesOn answer next) (step.Asks (ask.Fault device) last) after is = absurd is
asks_client (Stops answer) (step.Asks (ask.Fault device) last) after is = absurd is
asks_client (Submits job next) (step.Asks (ask.Fault device) last) after is = absurd is
asks_client (Commands command) (step.Asks (ask.Fault device) last) after is = absurd is
asks_client (GoesOn answer next) (step.Breaks what) after is = absurd is
asks_client (Stops answer) (step.Breaks what) after is = absurd is
asks_client (Submits job next) (step.Breaks what) after is = absurd is
asks_client (Commands command) (step.Breaks what) after is = absurd is

pub lpd_client : (queues : List ℕ → Bool) (before : Option SessionState) (parsed : ItemRecord) (comes : Step) (after : Option SessionState) → StepsLpd queues before parsed comes after → IsClientStep comes
lpd_client queues before (HasFile contents) comes after (inl is) = subst IsClientStep (sym is.0) tt
lpd_client queues before (HasFile contents) comes after (inr is) = asks_client (result_of queues before (HasFile contents)) comes after is
lpd_client queues before (CommandItem command) comes after is = asks_client (result_of queues before (CommandItem command)) comes after is
lpd_client queues before Aborts comes after is = asks_client (result_of queues before Aborts) comes after is
lpd_client queues before (Announces head) comes after is = asks_client (result_of queues before (Announces head)) comes after is

pub client_keeps : (settings : ServerSettings) (progress : PeerRecord) (e : Entry) (comes : Step) (mid : Entry) → ClientTalk progress → ClientTalk e.progress → ItemComes settings progress e comes mid → IsClientStep comes × ClientTalk mid.progress
client_keeps settings (Http parsed closes body) e comes mid client here next = (ipp_client next.item closes body comes next.comes, subst (λ (x : Entry). ClientTalk x.progress) (sym next.after) tt)
client_keeps settings (Queue items session) e comes mid client here (inl next) = (lpd_client _ session next.parsed comes next.session_after next.comes, subst (λ (x : Entry). ClientTalk x.progress) (sym next.after) tt)
client_keeps settings (Queue items session) e comes mid client here (inr (inl next)) = (subst IsClientStep (sym next.comes) tt, subst (λ (x : Entry). ClientTalk x.progress) (sym next.after) here)
client_keeps settings (Queue items session) e comes mid client here (inr (inr next)) = (subst IsClientStep (sym next.0) refl, subst (λ (x : Entry). ClientTalk x.progress) (sym next.1) here)
client_keeps settings (Link reports device) e comes mid client here next = absurd client

-- ---- steps of a device

-- a device gives its name on a connection that had none
pub record Names (what : Ask) (e new : Entry) : Type 0 where
  pub device : ℕ
  pub name : List ℕ
  pub asks : what ≡ ask.Hello device name
  pub before : device_of e.progress ≡ None
  pub fresh : FreshTalk e.progress e → e.broken ≡ false → e.due ≡ []
  pub after : device_of new.progress ≡ Some device
  pub still : new.broken ≡ e.broken
  pub due : new.due ≡ e.due
  pub open_progress : FreshTalk new.progress new
  pub link : ClientTalk e.progress → ⊥

-- the asks of a device's connection: an ask of a connection with a device, whose due bytes don't change, or the ask that gives the device's name
abbrev pub DeviceAsks : Ask → Entry → Entry → Type 0
DeviceAsks what e new = (IsDeviceAsk what × Ordered (λ device. []) (Some e) (Some new)) ⊎ Names what e new

pub progress_none : (progress : PeerRecord) (reports : List ReportRecord) → progress ≡ Link reports None → device_of progress ≡ None
progress_none progress reports is = ap device_of is

pub link_fresh : (progress : PeerRecord) (reports : List ReportRecord) (e : Entry) → progress ≡ Link reports None → FreshTalk progress e → e.broken ≡ false → e.due ≡ []
link_fresh progress reports e is fresh = subst (λ (t : PeerRecord). FreshTalk t e) is fresh

-- the connection breaks
pub link_breaks : (what it : Ask) (e mid new : Entry) → what ≡ it → IsDeviceAsk it → new ≡ broken mid → mid.due ≡ e.due → ((device : ℕ) → device_of mid.progress ≡ Some device → device_of e.progress ≡ Some device) → (ClientTalk e.progress → ClientTalk mid.progress) → (ClientTalk mid.progress → ⊥) → DeviceAsks what e new
link_breaks what it e mid new asks fine after due of_device of_client never =
    inl (subst IsDeviceAsk (sym asks) fine, subst (λ (x : Entry). Ordered (λ device. []) (Some e) (Some x)) (sym after) (ordered_broken (λ device. []) e (broken mid) refl (λ device named. (of_device device named, due)) of_client (λ client. absurd (never client))))

pub not_client : (progress : PeerRecord) (reports : List ReportRecord) (device : Option ℕ) → progress ≡ Link reports device → ClientTalk progress → ⊥
not_client progress reports device is client = subst ClientTalk is client

pub has_more : (reports : List ReportRecord) (parsed : ReportRecord) → HasReport (reports ++ parsed ∷ [])
has_more [] parsed = tt
has_more (one ∷ reports) parsed = tt

pub named_keeps : (settings : ServerSettings) (reports : List ReportRecord) (name : List ℕ) (place : Option ℕ) (device_after : Option ℕ) (e : Entry) (comes : Step) (mid : Entry) (what : Ask) (new : Entry) → e.progress ≡ Link reports None
    → StepsHello name place comes device_after → mid ≡ with_progress (Link (reports ++ HelloReport name ∷ []) device_after) e → StepsTo comes mid what new → DeviceAsks what e new
named_keeps settings reports name None device_after e comes mid what new progress is after steps =
    let breaks : (what ≡ ask.UnknownDevice name) × (new ≡ broken mid) = subst (λ (s : Step). StepsTo s mid what new) is.0 steps in
    let unknown : device_of mid.progress ≡ None = ap (λ (x : Entry). device_of x.progress) after ∙ is.1 in
    link_breaks what (ask.UnknownDevice name) e mid new breaks.0 tt breaks.1 (ap (λ (x : Entry). x.due) after) (λ device named. cc) (λ client. absurd (not_client e.progress reports None progress client)) (λ client. not_client mid.progress (reports ++ HelloReport name ∷ []) device_after (ap (λ (x : Entry). x.progress) after) client)
named_keeps settings reports name (Some device) device_after e comes mid what new progress is after steps =
    let asks : (what ≡ ask.Hello device name) × (new ≡ finishing false mid) = subst (λ (s : Step). StepsTo s mid what new) is.0 steps in
    let whole : new ≡ finishing false (with_progress (Link (reports ++ HelloReport name ∷ []) (Some device)) e) = asks.1 ∙ ap (finishing false) (after ∙ ap (λ (d : Option ℕ). with_progress (Link (reports ++ HelloReport name ∷ []) d) e) is.1) in
    inr (record {
      device = device;
      name = name;
      asks = asks.0;
      before = progress_none e.progress reports progress;
      fresh = λ fresh. link_fresh e.progress reports e progress fresh;
      after = ap (λ (x : Entry). device_of x.progress) whole;
      still = ap (λ (x : Entry). x.broken) whole;
      due = ap (λ (x : Entry). x.due) whole;
      open_progress = subst (λ (x : Entry). FreshTalk x.progress x) (sym whole) (λ sound. has_more reports (HelloReport name));
      link = not_client e.progress reports None progress;
    })

-- once a device has given its name, its bytes say no name
no_name : (parsed : Option ReportRecord) (name : List ℕ) → in_turn true parsed ≡ Some (HelloReport name) → ⊥
no_name None name is = cc
no_name (Some (HelloReport other)) name is = cc
no_name (Some (MediaReport names)) name is = cc
no_name (Some ReadyReport) name is = cc
no_name (Some StopReport) name is = cc
no_name (Some (BusyReport time)) name is = cc
no_name (Some (PagesReport job printed)) name is = cc
no_name (Some (DoneReport job)) name is = cc
no_name (Some (FailReport job)) name is = cc
no_name (Some GoneReport) name is = cc

named_already : (bytes : List ℕ) (reports : List ReportRecord) (name : List ℕ) (next : Bool) (left : List ℕ) → Leads true bytes (reports ++ HelloReport name ∷ []) next left → ⊥
named_already bytes [] name next left (rest, prefix, more) = no_name (line_report (words_of (strip_carriage_return (take prefix.count bytes)))) name prefix.parses
named_already bytes (one ∷ reports) name next left (rest, prefix, more) = named_already rest reports name next left more

named_once : (bytes : List ℕ) (reports : List ReportRecord) (name : List ℕ) → HasReport reports → ParsesFirst bytes (reports ++ HelloReport name ∷ []) → ⊥
named_once bytes [] name has first = absurd has
named_once bytes (one ∷ reports) name has first = named_already first.leads.0 reports name first.next first.left first.leads.2

later_nameless : (bytes : List ℕ) (reports : List ReportRecord) (device : ℕ) (parsed : ReportRecord) (it : Report) → report_of it ≡ parsed → HasReport reports → ParsesFirst bytes (reports ++ parsed ∷ []) → None ≡ named_by true (Is.Report device it)
later_nameless bytes reports device parsed (reported.Hello name) same has first = absurd (named_once bytes reports name has (subst (λ (r : ReportRecord). ParsesFirst bytes (reports ++ r ∷ [])) (sym same) first))
later_nameless bytes reports device parsed it same has first = refl

pub report_keeps : (settings : ServerSettings) (reports : List ReportRecord) (device : Option ℕ) (parsed : ReportRecord) (device_after : Option ℕ) (e : Entry) (comes : Step) (mid : Entry) (what : Ask) (new : Entry) → e.progress ≡ Link reports device → FreshTalk (Link reports device) e → e.broken ≡ false → ParsesFirst e.read (reports ++ parsed ∷ [])
    → StepsDevice (device_named settings) device parsed comes device_after → mid ≡ with_progress (Link (reports ++ parsed ∷ []) device_after) e → StepsTo comes mid what new → DeviceAsks what e new
report_keeps settings reports None (HelloReport name) device_after e comes mid what new progress fresh sound first is after steps = named_keeps settings reports name (device_named settings name) device_after e comes mid what new progress is after steps
report_keeps settings reports None (MediaReport names) device_after e comes mid what new progress fresh sound first is after steps = absurd is
report_keeps settings reports None ReadyReport device_after e comes mid what new progress fresh sound first is after steps = absurd is
report_keeps settings reports None StopReport device_after e comes mid what new progress fresh sound first is after steps = absurd is
report_keeps settings reports None (BusyReport time) device_after e comes mid what new progress fresh sound first is after steps = absurd is
report_keeps settings reports None (PagesReport job printed) device_after e comes mid what new progress fresh sound first is after steps = absurd is
report_keeps settings reports None (DoneReport job) device_after e comes mid what new progress fresh sound first is after steps = absurd is
report_keeps settings reports None (FailReport job) device_after e comes mid what new progress fresh sound first is after steps = absurd is
report_keeps settings reports None GoneReport device_after e comes mid what new progress fresh sound first is after steps = absurd is
report_keeps settings reports (Some device) parsed device_after e comes mid what new progress fresh sound first ((it, same, is), named) after steps =
    let asks : (what ≡ ask.Report device it) × (new ≡ finishing false mid) = subst (λ (s : Step). StepsTo s mid what new) is steps in
    let whole : new ≡ finishing false (with_progress (Link (reports ++ parsed ∷ []) (Some device)) e) = asks.1 ∙ ap (finishing false) (after ∙ ap (λ (d : Option ℕ). with_progress (Link (reports ++ parsed ∷ []) d) e) named) in
    let before : device_of e.progress ≡ Some device = ap device_of progress in
    inl (
      subst IsDeviceAsk (sym asks.0) (later_nameless e.read reports device parsed it same (fresh sound) first),
      subst (λ (x : Entry). Ordered (λ d. []) (Some e) (Some x)) (sym whole) (record {
        counts = λ d is. ((before ∙ is.0, is.1), sym (append-nil e.due));
        breaks = λ d is. inl ((before ∙ is.0, is.1), refl);
        device = λ d is. before ∙ is;
        fresh = λ fresh sound. has_more reports parsed;
        client = λ client. absurd (not_client e.progress reports (Some device) progress client);
        stays = λ f is client. absurd (subst ClientTalk (sym (ap (λ (x : Entry). x.progress) (one_entry (finishing false (with_progress (Link (reports ++ parsed ∷ []) (Some device)) e)) f is))) client);
      }),
    )

pub device_keeps : (settings : ServerSettings) (reports : List ReportRecord) (device : Option ℕ) (e : Entry) (comes : Step) (mid : Entry) (what : Ask) (new : Entry) → e.progress ≡ Link reports device → FreshTalk (Link reports device) e → e.broken ≡ false → ItemComes settings (Link reports device) e comes mid → StepsTo comes mid what new → DeviceAsks what e new
device_keeps settings reports device e comes mid what new progress fresh sound (inl next) steps = report_keeps settings reports device next.parsed next.device_after e comes mid what new progress fresh sound next.next next.comes next.after steps
device_keeps settings reports device e comes mid what new progress fresh sound (inr (inl next)) steps =
    let breaks : (what ≡ ask.Fault device) × (new ≡ broken mid) = subst (λ (s : Step). StepsTo s mid what new) next.comes steps in
    link_breaks what (ask.Fault device) e mid new breaks.0 tt breaks.1 (ap (λ (x : Entry). x.due) next.after) (λ d is. ap (λ (x : Entry). device_of x.progress) (sym next.after) ∙ is) (λ client. absurd (not_client e.progress reports device progress client))
    (λ client. not_client e.progress reports device progress (subst (λ (x : Entry). ClientTalk x.progress) next.after client))
device_keeps settings reports device e comes mid what new progress fresh sound (inr (inr next)) steps =
    let breaks : (what ≡ ask.Broke growth.Input) × (new ≡ broken mid) = subst (λ (s : Step). StepsTo s mid what new) next.0 steps in
    link_breaks what (ask.Broke growth.Input) e mid new breaks.0 tt breaks.1 (ap (λ (x : Entry). x.due) next.1) (λ d is. ap (λ (x : Entry). device_of x.progress) (sym next.1) ∙ is) (λ client. absurd (not_client e.progress reports device progress client)) (λ client. not_client e.progress reports device progress (subst (λ (x : Entry). ClientTalk x.progress) next.1 client))
