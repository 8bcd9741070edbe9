-- A trace is one run of the core, and notifies it the reports of each device on its connections, and the end of each connection.
use Rattle.std.proofs.Common.{◌≡◌, ◌≢◌, ℕ, Bool, true, false, List, [], ◌∷◌, ◌++◌, length, take, refl, sym, ◌∙◌, ap, subst, append_assoc, append-nil, Option, Some, None, inl, inr, All}
use Rattle.std.specs.Prelude.{◌==◌, if◌then◌else◌, nat_lt, slice_get}
use Rattle.std.specs.List.{flat_map}
use Rattle.std.proofs.lemmas.Grind.{flat_map-append}
use Rattle.std.proofs.lemmas.List.Elements.{All-append, All-cons, All-nil}
use Rattle.base_types.specs.declared.limits.TheConstants.Limits.{CONNECTIONS}
use Rattle.base_types.specs.declared.report.Report.{Report}
use Rattle.base_types.specs.declared.report.Report.TheVariants as report
use Rattle.base_types.specs.Report.{ReportRecord, HelloReport, GoneReport, report_of}
use Rattle.settings_file.specs.Settings.{device_names}
use Rattle.print_room.specs.State.{State}
use Rattle.events.specs.declared.event.Event.{Event}
use Rattle.events.specs.declared.event.Event.TheVariants as Is
use Rattle.events.specs.Event.{is_query}
use Rattle.dispatcher.specs.declared.observer.DeviceRefusal.TheVariants as why
use Rattle.dispatcher.specs.declared.observer.AllocationSite.TheVariants as At
use Rattle.dispatcher.specs.Notes.{Note, DeviceRefused, Refused}
use Rattle.dispatcher.specs.Run.{Outcome, effects_of, Handles}
use Rattle.ipp_operations.specs.declared.parsed_request.ParsedRequest.{ParsedRequest}
use Rattle.ipp_operations.specs.declared.parsed_request.ParsedRequest.TheVariants as asked
use Rattle.wires.specs.Poll.{Poll, Accepts, Reads, Writes}
use Rattle.wires.specs.declared.wire.Progress.{Progress as WireAnswer}
use Rattle.wires.specs.declared.wire.Progress.TheVariants as wire
use Rattle.wires.specs.declared.wire.Door.{Door}
use Rattle.wires.specs.declared.wire.Door.TheVariants.{Ipp, Lpd, Devices}
use Rattle.connections.specs.declared.ask.Ask.{Ask}
use Rattle.connections.specs.declared.ask.Ask.TheVariants as ask
use Rattle.connections.specs.declared.ask.Client.{Client}
use Rattle.connections.specs.declared.ask.Client.TheVariants as client
use Rattle.connections.specs.Entry.{PeerRecord, Http, Queue, Link, Entry, opening_entry, device_of, superseded_entry, broken, reading, unnamed, waiting}
use Rattle.connections.specs.Asking.{ItemComes, IsActedOn}
use Rattle.server.specs.Polls.{Happening, Choice, Found, Rested, Looked}
use Rattle.server.specs.Ledger.{Ledger, Fate, Drained, Broken, opening_ledger, at_key, with_entry, without}
use Rattle.server.specs.Rel.{Rel, Nothing, Polls, Notifies, Chooses, Then, If, Or, Many, Each}
use Rattle.server.specs.Enqueuing.{Sets, IsDevice}
use Rattle.server.specs.Happening.{Happens, Unanswered}
use Rattle.server.specs.Closing.{IsGone, ClosesAs, ClosesFirst, ClosesBroken}
use Rattle.server.specs.Answering as Ans
use Rattle.server.specs.Hello.{IsDeviceAs, IsAlone, HasOther, IsSupersededAt, IsSuperseded, GivesName, TakesOver, HandlesHello}
use Rattle.server.specs.Acting.{place_of, place_of_part, Asks, ActsOn, ActsNext}
use Rattle.server.specs.Polling.{Opens, AcceptsAs, AcceptsOne, AcceptsAt, Acts, Serves, FedWhole, FeedsAt, FeedsOne, Fails, ReadsAs, ReadsOpen, ReadsAt, is_read, ReadsOne, WritesAs, WritesOpen, WritesAt, WritesOne, is_done, EndsAt, EndsOne}
use Rattle.server.specs.Turn as Between
use Rattle.server.specs.Turn.{Ticks, Notes, is_tick_due, TicksIfDue, Covers, Round, Turn, BodyAsks, BodyComes, Action, Turned, Served_body, Reported, Ticked, Trace, DoesAction, Runs}
use Rattle.server.specs.Law.{core_notes, moment_of, happenings_of, happenings_in}
use Rattle.promises.specs.Answers.{ClientTalk}
use Rattle.promises.specs.Orders.{is_turn}
use Rattle.promises.specs.Delivered.{Came, AreRun, ComeAt, ComeOf, report_in, report_by, reports_by, reports_given, IsReported, IsStateIn, IsNameIn, IsGreeted, IsRead, AreDelivered}
use Rattle.promises.proofs.AnswerKinds.{EventOf}
use Rattle.promises.proofs.SentToDevices.{no_true, one_entry}
use Rattle.promises.proofs.StreamSteps.{silent_growth, silent_part, client_keeps}
use Rattle.promises.proofs.ConnectionAsks.{not_broken}
use Rattle.promises.proofs.DeviceReports.{FreshOf, Grows, no_both, read_as, grows_as, grows_reading, broken_stays, named_stays, IsNew, Kept, kept_same, kept_open, here, aside, by_key, KeptAll, reported_kept, reported_as, gone_notified, reported_left, notified_if, More, reported_more, reported_named, reported_over, unnamed_nameless, SoundAt, kept_sound, Sound, sound_by, sound_kept, sound_left, none_read, AllGreeted, greeted_but, greeted_on, greeted_kept, greeted_left, greeted_first, greeted_more, greeted_nameless}
use Rattle.promises.proofs.CalmParts.{notes_append, Calm, Calms, kept_still, kept_next, no_notes, calm_still, calm_sets, calms_nothing, calms_notifies, calms_polls, calms_choice, grows_broken, calms_breaks, calms_dropped, calms_declines, calms_answers, body_answers, OneEvent, happened, handles_after}
use Rattle.promises.proofs.Devices.{IsFine, step_fine, step_progress, client_grows, ReportsIt, DeviceStep, device_step}
use Rattle.promises.proofs.CombinedParts.{or_within, if_within, many_within, each_within}

-- ---- from one ledger to the next

-- the core handled these events, which notified it the reports of devices on their connections
-- in each state of a run these names are the devices' by its settings
abbrev AreNames : (List ℕ → ℕ → Type 0) → State → List Came → Type 0
AreNames Name opening came = (state : State) (name : List ℕ) (device : ℕ) → IsStateIn state opening came → slice_get (device_names state.settings) device ≡ Some name → Name name device

state_more : (state opening : State) (first later : List Came) → IsStateIn state opening first → IsStateIn state opening (first ++ later)
state_more state opening [] [] is = is
state_more state opening [] (it ∷ later) is = inl is
state_more state opening (it ∷ first) later (inl is) = inl is
state_more state opening (it ∷ first) later (inr is) = inr (state_more state it.state first later is)

state_later : (state opening mid : State) (first later : List Came) → AreRun opening first mid → IsStateIn state mid later → IsStateIn state opening (first ++ later)
state_later state opening mid [] later same is = subst (λ (s : State). IsStateIn state s later) same is
state_later state opening mid (it ∷ first) later (handles, run) is = inr (state_later state it.state mid first later run is)

record Goes (turn : Bool) (moment : ℕ) (l : Ledger) (hs : List Happening) (l' : Ledger) : Type 1 where
  came : List Came
  timed : ComeAt turn moment came
  run : AreRun l.core came l'.core
  notified : core_notes hs ≡ flat_map (λ (it : Came). it.notes) came
  sound : Sound l → Sound l'
  reported : Sound l → (device : ℕ) (before : List ReportRecord) → IsReported device before l → IsReported device (before ++ reports_by device came) l'
  greeted : (Name : List ℕ → ℕ → Type 0) → AreNames Name l.core came → Sound l → AllGreeted Name l → AllGreeted Name l'

pub run_then : (old mid new : State) (first later : List Came) → AreRun old first mid → AreRun mid later new → AreRun old (first ++ later) new
run_then old mid new [] later same rest = subst (λ (s : State). AreRun s later new) same rest
run_then old mid new (it ∷ first) later (handles, more) rest = (handles, run_then it.state mid new first later more rest)

pub notified_then : (hs prefix back : List Happening) (first later : List Came) → hs ≡ prefix ++ back → core_notes prefix ≡ flat_map (λ (it : Came). it.notes) first → core_notes back ≡ flat_map (λ (it : Came). it.notes) later → core_notes hs ≡ flat_map (λ (it : Came). it.notes) (first ++ later)
notified_then hs prefix back first later whole p q =
    ap core_notes whole ∙ (notes_append prefix back ∙ (ap (λ (ns : List Note). ns ++ core_notes back) p ∙ (ap (λ (ns : List Note). flat_map (λ (it : Came). it.notes) first ++ ns) q ∙ sym (flat_map-append (λ (it : Came). it.notes) first later))))

reports_then : (device : ℕ) (before : List ReportRecord) (first later : List Came) → (before ++ reports_by device first) ++ reports_by device later ≡ before ++ reports_by device (first ++ later)
reports_then device before first later =
    append_assoc before (reports_by device first) (reports_by device later) ∙ ap (λ (reports : List ReportRecord). before ++ reports) (sym (flat_map-append (report_by device) first later))

goes_then : (turn : Bool) (moment : ℕ) (l : Ledger) (prefix : List Happening) (m : Ledger) (back : List Happening) (l' : Ledger) (hs : List Happening) → hs ≡ prefix ++ back → Goes turn moment l prefix m → Goes turn moment m back l' → Goes turn moment l hs l'
goes_then turn moment l prefix m back l' hs whole p q = record {
  came = p.came ++ q.came;
  timed = All-append (λ (it : Came). (it.moment ≡ moment) × (it.in_turn ≡ turn)) p.came q.came p.timed q.timed;
  run = run_then l.core m.core l'.core p.came q.came p.run q.run;
  notified = notified_then hs prefix back p.came q.came whole p.notified q.notified;
  sound = λ s. q.sound (p.sound s);
  reported = λ s device before r.
      reported_as device ((before ++ reports_by device p.came) ++ reports_by device q.came) (before ++ reports_by device (p.came ++ q.came)) l' (reports_then device before p.came q.came)
      (q.reported (p.sound s) device (before ++ reports_by device p.came) (p.reported s device before r));
  greeted = λ Name names s all.
      q.greeted Name (λ state name device is. names state name device (state_later state l.core m.core p.came q.came p.run is)) (p.sound s)
      (p.greeted Name (λ state name device is. names state name device (state_more state l.core p.came q.came is)) s all);
}

-- without an event
goes_none : (turn : Bool) (moment : ℕ) (l : Ledger) (hs : List Happening) (l' : Ledger) → l'.core ≡ l.core → core_notes hs ≡ [] → (Sound l → Sound l') → (Sound l → (device : ℕ) (before : List ReportRecord) → IsReported device before l → IsReported device before l') → ((Name : List ℕ → ℕ → Type 0) → AllGreeted Name l → AllGreeted Name l') → Goes turn moment l hs l'
goes_none turn moment l hs l' core silent sound reported greeted = record {
  came = [];
  timed = All-nil (λ (it : Came). (it.moment ≡ moment) × (it.in_turn ≡ turn));
  run = core;
  notified = silent;
  sound = sound;
  reported = λ s device before r. reported_as device before (before ++ []) l' (sym (append-nil before)) (reported s device before r);
  greeted = λ Name names s all. greeted Name all;
}

goes_calm : (turn : Bool) (moment : ℕ) (l : Ledger) (hs : List Happening) (l' : Ledger) → Calm l hs l' → Goes turn moment l hs l'
goes_calm turn moment l hs l' calm = goes_none turn moment l hs l' calm.core calm.notes (sound_kept l l' calm.kept) (λ s device before r. reported_kept device before l l' calm.kept r) (λ Name all. greeted_kept Name l l' calm.kept all)

-- by one event
goes_one : (turn : Bool) (moment : ℕ) (event : Event) (outcome : Outcome) (l : Ledger) (hs : List Happening) (l' : Ledger) → Handles moment event l.core outcome (core_notes hs) l'.core → (Sound l → Sound l')
    → (Sound l → (device : ℕ) (before : List ReportRecord) → IsReported device before l → IsReported device (before ++ (if turn then report_in device event else [])) l') → ((Name : List ℕ → ℕ → Type 0) → ((name : List ℕ) (device : ℕ) → slice_get (device_names l.core.settings) device ≡ Some name → Name name device) → Sound l → AllGreeted Name l → AllGreeted Name l') → Goes turn moment l hs l'
goes_one turn moment event outcome l hs l' handles sound reported greeted = record {
  came = it ∷ [];
  timed = All-cons (λ (x : Came). (x.moment ≡ moment) × (x.in_turn ≡ turn)) it [] (refl, refl) (All-nil (λ (x : Came). (x.moment ≡ moment) × (x.in_turn ≡ turn)));
  run = (handles, refl);
  notified = sym (append-nil (core_notes hs));
  sound = sound;
  reported = λ s device before r.
      reported_as device (before ++ (if turn then report_in device event else [])) (before ++ reports_by device (it ∷ [])) l' (ap (λ (reports : List ReportRecord). before ++ reports) (sym (append-nil (if turn then report_in device event else []))))
      (reported s device before r);
  greeted = λ Name names s all. greeted Name (λ name device is. names l.core name device (inl refl) is) s all;
}
  where
    it : Came
    it = record { moment = moment; event = event; outcome = outcome; notes = core_notes hs; state = l'.core; in_turn = turn }

-- no device reports by this event
abbrev IsNoReport : Bool → Event → Type 0
IsNoReport turn event = (device : ℕ) → (if turn then report_in device event else []) ≡ []

silent_in : (turn : Bool) (reports : List ReportRecord) → reports ≡ [] → (if turn then reports else []) ≡ []
silent_in true reports none = none
silent_in false reports none = refl

goes_event : (turn : Bool) (moment : ℕ) (event : Event) (outcome : Outcome) → IsNoReport turn event → (l : Ledger) (hs : List Happening) (l' : Ledger) → Happens moment event outcome l hs l' → Goes turn moment l hs l'
goes_event turn moment event outcome none l hs l' it =
    let one = happened moment event outcome l hs l' it in
    goes_one turn moment event outcome l hs l' one.handles (sound_kept l l' one.kept)
    (λ s device before r.
    reported_as device before (before ++ (if turn then report_in device event else [])) l' (sym (ap (λ (reports : List ReportRecord). before ++ reports) (none device) ∙ append-nil before)) (reported_kept device before l l' one.kept r)) (λ Name names s all. greeted_kept Name l l' one.kept all)

-- ---- parts of an action

module _ (turn : Bool) (moment : ℕ) where
  abbrev Within : Rel → Type 1
  Within R = (l : Ledger) (hs : List Happening) (l' : Ledger) → R l hs l' → Goes turn moment l hs l'

  calmly_in : {R : Rel} → Calms R → Within R
  calmly_in calms l hs l' it = goes_calm turn moment l hs l' (calms l hs l' it)

  then_in : {R S : Rel} → Within R → Within S → Within (Then R S)
  then_in f g l hs l' it = goes_then turn moment l it.prefix it.mid it.back l' hs it.whole (f l it.prefix it.mid it.first) (g it.mid it.back l' it.second)

  abbrev IsParsed : Ledger → List Happening → Ledger → Type 1
  IsParsed l hs l' = Goes turn moment l hs l'

  or_in : {R S : Rel} → Within R → Within S → Within (Or R S)
  or_in {R} {S} = or_within IsParsed R S

  if_in : (test : Bool) (R S : Rel) → Within R → Within S → Within (If test R S)
  if_in = if_within IsParsed

  nothing_in : Within Nothing
  nothing_in = calmly_in calms_nothing

  joins_in : (R S : Rel) → Within R → Within S → Within (Then R S)
  joins_in R S = then_in {R = R} {S = S}

  many_in : (R : Rel) → Within R → Within (Many R)
  many_in = many_within IsParsed nothing_in joins_in

  each_in : (n : ℕ) (R : ℕ → Rel) → ((i : ℕ) → Within (R i)) → Within (Each n R)
  each_in = each_within IsParsed nothing_in joins_in

  chooses_in : (choice : Choice) → Within (Chooses choice)
  chooses_in choice = calmly_in (calms_choice choice)

  polls_in : (poll : Poll) → Within (Polls poll)
  polls_in poll = calmly_in (calms_polls poll)

  tick_in : Within (Unanswered moment Is.Tick)
  tick_in l hs l' (outcome, it) = goes_event turn moment Is.Tick outcome (λ device. silent_in turn [] refl) l hs l' it

  notes_in : (now : ℕ) → Within (Notes now)
  notes_in now l hs l' it =
      goes_calm turn moment l hs l' (record { core = ap (λ (x : Ledger). x.core) it.1; notes = ap core_notes it.0; kept = kept_still l l' (ap (λ (x : Ledger). x.closed) it.1) (ap (λ (x : Ledger). x.entries) it.1) })

  ticks_in : Within (Ticks moment)
  ticks_in l hs l' it = then_in (notes_in _) tick_in l hs l' it

-- ---- closings

gone_event : (moment device key : ℕ) (fate : Fate) (e : Entry) (l : Ledger) (prefix : List Happening) (m : Ledger) (back : List Happening) (l' : Ledger) (hs : List Happening) → hs ≡ prefix ++ back → core_notes prefix ≡ [] → l.entries key ≡ Some e → device_of e.progress ≡ Some device → m ≡ without key e fate l
    → Unanswered moment (Is.Report device report.Gone) m back l' → Goes true moment l hs l'
gone_event moment device key fate e l prefix m back l' hs whole silent there named after (outcome, it) =
    let one = happened moment (Is.Report device report.Gone) outcome m back l' it in
    goes_one true moment (Is.Report device report.Gone) outcome l hs l'
    (handles_after moment (Is.Report device report.Gone) outcome l.core m.core l'.core (core_notes hs) (core_notes back) (ap (λ (x : Ledger). x.core) after) (no_notes hs prefix back whole silent) one.handles)
    (λ s. sound_kept m l' one.kept (subst Sound (sym after) (sound_left key e fate l there s)))
    (λ s of before r.
    reported_kept of (before ++ gone_notified of (Some device)) m l' one.kept
    (subst (λ (x : Ledger). IsReported of (before ++ gone_notified of (Some device)) x) (sym after) (reported_left of key (Some device) e fate before l there named r)))
    (λ Name names s all. greeted_kept Name m l' one.kept (subst (AllGreeted Name) (sym after) (greeted_left Name key e fate l there all)))

closes_at : (moment : ℕ) (fate : Fate) (key : ℕ) (e : Entry) (l : Ledger) (hs : List Happening) (l' : Ledger) → l.entries key ≡ Some e → ClosesAs moment fate key e l hs l' → Goes true moment l hs l'
closes_at moment fate key e l hs l' there it = by (device_of e.progress) refl it.second
  where
    after : it.mid ≡ without key e fate l
    after = it.first.2

    silent : core_notes it.prefix ≡ []
    silent = ap core_notes it.first.0

    by : (o : Option ℕ) → device_of e.progress ≡ o → IsGone moment o it.mid it.back l' → Goes true moment l hs l'
    by None is gone =
        goes_none true moment l hs l' (ap (λ (x : Ledger). x.core) (gone.1 ∙ after)) (no_notes hs it.prefix it.back it.whole silent ∙ ap core_notes gone.0) (λ s. subst Sound (sym (gone.1 ∙ after)) (sound_left key e fate l there s))
        (λ s of before r.
        reported_as of (before ++ []) before l' (append-nil before)
        (subst (λ (x : Ledger). IsReported of (before ++ []) x) (sym (gone.1 ∙ after)) (reported_left of key None e fate before l there is r)))
        (λ Name all. subst (AllGreeted Name) (sym (gone.1 ∙ after)) (greeted_left Name key e fate l there all))
    by (Some device) is gone = gone_event moment device key fate e l it.prefix it.mid it.back l' hs it.whole silent there is after gone

closes_first : (moment : ℕ) → Within true moment (ClosesFirst moment)
closes_first moment l hs l' it = closes_at moment Broken it.key it.entry l hs l' it.there it.closes

closes_broken_in : (moment : ℕ) → Within true moment (ClosesBroken moment)
closes_broken_in moment l hs l' it = many_in true moment (ClosesFirst moment) (closes_first moment) l hs l' it.0

-- ---- the asks of a connection

not_reported : (who : Client) (device : ℕ) (it : Report) → EventOf who (Is.Report device it) → ⊥
not_reported (client.Ipp request) device it own = own
not_reported client.LpdJob device it own = own
not_reported client.LpdCommand device it own = own

-- a client's event reports of no device
none_of : (who : Client) (event : Event) → EventOf who event → (device : ℕ) → report_in device event ≡ []
none_of who (Is.PrintJob request) own device = refl
none_of who (Is.ValidateJob request) own device = refl
none_of who (Is.CreateJob request) own device = refl
none_of who (Is.SendDocument request) own device = refl
none_of who (Is.CancelJob request) own device = refl
none_of who (Is.GetJobAttributes request) own device = refl
none_of who (Is.GetJobs request) own device = refl
none_of who (Is.GetPrinterAttributes request) own device = refl
none_of who (Is.HoldJob request) own device = refl
none_of who (Is.ReleaseJob request) own device = refl
none_of who (Is.PausePrinter request) own device = refl
none_of who (Is.ResumePrinter request) own device = refl
none_of who (Is.SubmitFiles request) own device = refl
none_of who (Is.ListQueue request) own device = refl
none_of who (Is.RemoveJobs request) own device = refl
none_of who (Is.Report other it) own device = absurd (not_reported who other it own)
none_of who Is.Tick own device = refl

client_event : (moment key id : ℕ) (who : Client) (event : Event) → EventOf who event → Within true moment (Ans.IsAnswered moment key id who event)
client_event moment key id who event own l hs l' (outcome, it) =
    then_in true moment {R = Happens moment event outcome} (goes_event true moment event outcome (none_of who event own)) (calmly_in true moment (calms_answers key id who (is_query event) (effects_of outcome))) l hs l' it

fine_does : (moment key id : ℕ) (what : Ask) → IsFine what → Within true moment (ActsOn moment key id what)
fine_does moment key id ask.Nothing fine = nothing_in true moment
fine_does moment key id (ask.Broke growth) fine = calmly_in true moment (calms_notifies (Refused (place_of growth) (Some id)) (silent_growth growth id))
fine_does moment key id (ask.Event who event) fine = client_event moment key id who event fine
fine_does moment key id (ask.Unread request) fine = calmly_in true moment (calms_dropped key id request)
fine_does moment key id (ask.Lost part) fine = calmly_in true moment (calms_declines (place_of_part part) key id (silent_part part id))
fine_does moment key id (ask.Hello device name) fine = absurd fine
fine_does moment key id (ask.Report device it) fine = absurd fine
fine_does moment key id (ask.UnknownDevice name) fine = calmly_in true moment (calms_notifies (DeviceRefused id (why.UnknownName name)) refl)
fine_does moment key id (ask.Fault device) fine = calmly_in true moment (calms_notifies (DeviceRefused id (why.Fault device)) refl)

-- ---- a device reports

fresh_named : (device : ℕ) (e : Entry) → device_of e.progress ≡ Some device → FreshOf e
fresh_named device e named reports is unbroken = absurd (no_both (device_of e.progress) device (ap device_of is) named)

-- the connections under the keys once one key was set
set_here : (key : ℕ) (n : Entry) (l m : Ledger) → m ≡ with_entry key n l → m.entries key ≡ Some n
set_here key n l m after = ap (λ (x : Ledger). x.entries key) after ∙ here key (Some n) l.entries key refl

set_aside : (key : ℕ) (n : Entry) (l m : Ledger) → m ≡ with_entry key n l → (k : ℕ) → k ≢ key → m.entries k ≡ l.entries k
set_aside key n l m after k apart = ap (λ (x : Ledger). x.entries k) after ∙ aside key (Some n) l.entries k apart

-- of all but one key
sound_but : (key : ℕ) (l l' : Ledger) → l'.closed ≡ l.closed → ((k : ℕ) → k ≢ key → Kept (l.entries k) (l'.entries k)) → Sound l → SoundAt (l'.entries key) → Sound l'
sound_but key l l' closed others s at =
    sound_by l l' closed s (λ k. by_key k key (λ same. subst (λ (j : ℕ). SoundAt (l'.entries j)) (sym same) at) (λ apart. kept_sound (l.entries k) (l'.entries k) (others k apart) (s.each k)))

reports_on : (moment key : ℕ) (what : Ask) (d n : Entry) (l : Ledger) (prefix : List Happening) (m : Ledger) (back : List Happening) (l' : Ledger) (hs : List Happening) → hs ≡ prefix ++ back → core_notes prefix ≡ [] → l.entries key ≡ Some d → m ≡ with_entry key n l
    → (s : ReportsIt what d n) → Unanswered moment (Is.Report s.device s.it) m back l' → Goes true moment l hs l'
reports_on moment key what d n l prefix m back l' hs whole silent there after s (outcome, it) =
    goes_one true moment (Is.Report s.device s.it) outcome l hs l'
    (handles_after moment (Is.Report s.device s.it) outcome l.core m.core l'.core (core_notes hs) (core_notes back) (ap (λ (x : Ledger). x.core) after) (no_notes hs prefix back whole silent) one.handles)
    (λ sound. sound_but key l l' closed others sound (subst SoundAt (sym now.1) (fresh_named s.device now.0 (ap device_of progress), now.2.reads s.read)))
    (λ sound device before r. reported_more device s.device key (report_of s.it) before l l' more r)
    (λ Name names sound all. greeted_but Name key now.0 l l' closed (λ k apart e at. greeted_on Name l l' k (others k apart) all e at) now.1 (greeted_more Name s.device (report_of s.it) s.reports d now.0 s.before progress (all.each key d there)) all)
  where
    one : OneEvent moment (Is.Report s.device s.it) outcome m back l'
    one = happened moment (Is.Report s.device s.it) outcome m back l' it

    closed : l'.closed ≡ l.closed
    closed = one.kept.closed ∙ ap (λ (x : Ledger). x.closed) after

    others : (k : ℕ) → k ≢ key → Kept (l.entries k) (l'.entries k)
    others k apart = subst (λ (o : Option Entry). Kept o (l'.entries k)) (set_aside key n l m after k apart) (one.kept.each k)

    now : Kept (Some n) (l'.entries key)
    now = kept_open n (m.entries key) (l'.entries key) (set_here key n l m after) (one.kept.each key)

    progress : now.0.progress ≡ Link (s.reports ++ report_of s.it ∷ []) (Some s.device)
    progress = named_stays s.device n now.0 (ap device_of s.after) now.2 ∙ s.after

    more : More s.device key (report_of s.it) l l'
    more = record { d = d; f = now.0; reports = s.reports; there = there; progress = s.before; now = now.1; after = progress; others = others; closed = closed }

-- ---- a device gives its name

-- the connection on which it does
record NameGiven (device : ℕ) (name : List ℕ) (key : ℕ) (d n : Entry) (l m : Ledger) : Type 0 where
  there : l.entries key ≡ Some d
  sound : d.broken ≡ false
  after : m ≡ with_entry key n l
  reports : List ReportRecord
  before : d.progress ≡ Link reports None
  place : slice_get (device_names l.core.settings) device ≡ Some name
  progress : n.progress ≡ Link (reports ++ HelloReport name ∷ []) (Some device)
  read : IsRead n

first_reported : (device : ℕ) (name : List ℕ) (key : ℕ) (d n : Entry) (l m : Ledger) (s : NameGiven device name key d n l m) → Sound l → n.progress ≡ Link (HelloReport name ∷ []) (Some device)
first_reported device name key d n l m s sound = s.progress ∙ ap (λ (reports : List ReportRecord). Link (reports ++ HelloReport name ∷ []) (Some device)) ((subst SoundAt s.there (sound.each key)).0 s.reports s.before s.sound)

gives_name_alone : (moment device : ℕ) (name : List ℕ) (key : ℕ) (d n : Entry) (l : Ledger) (prefix : List Happening) (m : Ledger) (back : List Happening) (l' : Ledger) (hs : List Happening) → hs ≡ prefix ++ back → core_notes prefix ≡ [] → NameGiven device name key d n l m → IsAlone device key m
    → Unanswered moment (Is.Report device (report.Hello name)) m back l' → Goes true moment l hs l'
gives_name_alone moment device name key d n l prefix m back l' hs whole silent s alone (outcome, it) =
    goes_one true moment (Is.Report device (report.Hello name)) outcome l hs l'
    (handles_after moment (Is.Report device (report.Hello name)) outcome l.core m.core l'.core (core_notes hs) (core_notes back) (ap (λ (x : Ledger). x.core) s.after) (no_notes hs prefix back whole silent) one.handles)
    (λ sound. sound_but key l l' closed others sound (subst SoundAt (sym now.1) (fresh_named device now.0 (ap device_of (progress ∙ s.progress)), now.2.reads s.read)))
    (λ sound of before r.
    reported_named of device key name before l l'
    (record { d = d; f = now.0; there = s.there; nameless = ap device_of s.before; sound = s.sound; now = now.1; after = progress ∙ first_reported device name key d n l m s sound; closed = closed })
    (λ k apart is. alone k apart (subst (IsDevice device) (sym (set_aside key n l m s.after k apart)) is)) others r)
    (λ Name names sound all.
    greeted_but Name key now.0 l l' closed (λ k apart e at. greeted_on Name l l' k (others k apart) all e at) now.1
    (greeted_first Name device name now.0 (progress ∙ first_reported device name key d n l m s sound) (names name device s.place)) all)
  where
    one : OneEvent moment (Is.Report device (report.Hello name)) outcome m back l'
    one = happened moment (Is.Report device (report.Hello name)) outcome m back l' it

    closed : l'.closed ≡ l.closed
    closed = one.kept.closed ∙ ap (λ (x : Ledger). x.closed) s.after

    others : (k : ℕ) → k ≢ key → Kept (l.entries k) (l'.entries k)
    others k apart = subst (λ (o : Option Entry). Kept o (l'.entries k)) (set_aside key n l m s.after k apart) (one.kept.each k)

    now : Kept (Some n) (l'.entries key)
    now = kept_open n (m.entries key) (l'.entries key) (set_here key n l m s.after) (one.kept.each key)

    progress : now.0.progress ≡ n.progress
    progress = named_stays device n now.0 (ap device_of s.progress) now.2

open_as : (ended : Bool) (device : ℕ) (o : Option Entry) → IsDeviceAs ended device o → (e : Entry) × (o ≡ Some e) × (device_of e.progress ≡ Some device)
open_as ended device None is = absurd is
open_as ended device (Some e) is = (e, refl, is.0)

gives_way_at : (key : ℕ) (e : Entry) (o : Option Entry) (l : Ledger) (hs : List Happening) (l' : Ledger) → o ≡ Some e → IsSupersededAt key o l hs l' → (hs ≡ []) × (l' ≡ with_entry key (superseded_entry e) l)
gives_way_at key e o l hs l' there it = subst (λ (x : Option Entry). IsSupersededAt key x l hs l') there it

unnamed_reports : (progress : PeerRecord) → reports_given (unnamed progress) ≡ reports_given progress
unnamed_reports (Http parsed closes body) = refl
unnamed_reports (Queue items session) = refl
unnamed_reports (Link reports device) = refl

-- the connection is turned away: the device has another connection
gives_name_again : (moment device : ℕ) (name : List ℕ) (key id : ℕ) (d n : Entry) (l : Ledger) (prefix : List Happening) (m : Ledger) (back : List Happening) (l' : Ledger) (hs : List Happening) → hs ≡ prefix ++ back → core_notes prefix ≡ [] → NameGiven device name key d n l m
    → Then (IsSuperseded key) (Notifies (DeviceRefused id (why.Connected device))) m back l' → Goes true moment l hs l'
gives_name_again moment device name key id d n l prefix m back l' hs whole silent s it =
    goes_calm true moment l hs l' (record {
      core = ap (λ (x : Ledger). x.core) (after ∙ ap (λ (x : Ledger). with_entry key (superseded_entry n) x) s.after);
      notes = no_notes hs prefix back whole silent ∙ (no_notes back it.prefix it.back it.whole (ap core_notes way.0) ∙ ap core_notes it.second.0);
      kept = record { closed = ap (λ (x : Ledger). x.closed) (after ∙ ap (λ (x : Ledger). with_entry key (superseded_entry n) x) s.after); each = each };
    })
  where
    way : (it.prefix ≡ []) × (it.mid ≡ with_entry key (superseded_entry n) m)
    way = gives_way_at key n (m.entries key) m it.prefix it.mid (set_here key n l m s.after) it.first

    after : l' ≡ with_entry key (superseded_entry n) m
    after = it.second.1 ∙ way.1

    grows : Grows d (superseded_entry n)
    grows = record {
      progress = inr (record { sound = s.sound; before = ap device_of s.before; after = unnamed_nameless n.progress; fresh = λ reports is unbroken. absurd (no_true true refl unbroken) });
      broken = λ is. refl;
      reads = λ is. read_as n (superseded_entry n) (unnamed_reports n.progress) refl s.read;
    }

    each : (k : ℕ) → Kept (l.entries k) (l'.entries k)
    each k =
        by_key k key
        (λ same.
        subst (λ (o : Option Entry). Kept (l.entries k) o) (sym (ap l'.entries same ∙ set_here key (superseded_entry n) m l' after))
        (subst (λ (o : Option Entry). Kept o (Some (superseded_entry n))) (sym (ap l.entries same ∙ s.there)) (superseded_entry n, refl, grows)))
        (λ apart. subst (λ (o : Option Entry). Kept (l.entries k) o) (sym (set_aside key (superseded_entry n) m l' after k apart ∙ set_aside key n l m s.after k apart)) (kept_same (l.entries k)))

-- both reports at once, or one after the other
both_notified : (t : Bool) (one other : ReportRecord) → (if t then one ∷ other ∷ [] else []) ≡ (if t then one ∷ [] else []) ++ ((if t then other ∷ [] else []) ++ [])
both_notified true one other = refl
both_notified false one other = refl

-- the device's old connection is superseded: the core is notified its end, and then the name on the new connection
gives_name_over : (moment device : ℕ) (name : List ℕ) (key other : ℕ) (d n : Entry) (l : Ledger) (prefix : List Happening) (m : Ledger) (back : List Happening) (l' : Ledger) (hs : List Happening) → hs ≡ prefix ++ back → core_notes prefix ≡ [] → NameGiven device name key d n l m → HasOther true device key other m
    → TakesOver moment other device name m back l' → Goes true moment l hs l'
gives_name_over moment device name key other d n l prefix m back l' hs whole silent s has it = record {
  came = one ∷ two ∷ [];
  timed = All-cons (λ (x : Came). (x.moment ≡ moment) × (x.in_turn ≡ true)) one (two ∷ []) (refl, refl) (All-cons (λ (x : Came). (x.moment ≡ moment) × (x.in_turn ≡ true)) two [] (refl, refl) (All-nil (λ (x : Came). (x.moment ≡ moment) × (x.in_turn ≡ true))));
  run = (subst (λ (c : State). Handles moment (Is.Report device report.Gone) c gone.0 (core_notes last.prefix) last.mid.core) core first.handles, (second.handles, refl));
  notified = no_notes hs prefix back whole silent
      ∙ (no_notes back it.prefix it.back it.whole (ap core_notes way.0)
      ∙ (ap core_notes last.whole ∙ (notes_append last.prefix last.back ∙ ap (λ (ns : List Note). core_notes last.prefix ++ ns) (sym (append-nil (core_notes last.back))))));
  sound = λ sound. sound_by l l' closed sound (sounds sound);
  reported = λ sound of before r.
      reported_as of (before ++ notified_if of device (GoneReport ∷ HelloReport name ∷ [])) (before ++ reports_by of (one ∷ two ∷ [])) l' (ap (λ (reports : List ReportRecord). before ++ reports) (both_notified (device == of) GoneReport (HelloReport name)))
      (reported_over of device key other name before l l'
      (record { d = d; f = now.0; there = s.there; nameless = ap device_of s.before; sound = s.sound; now = now.1; after = progress ∙ first_reported device name key d n l m s sound; closed = closed })
      (record { o = old.0; g = up.0; apart = has.0; there = there; named = old.2; now = up.1; after = broken_stays (superseded_entry old.0) up.0 refl up.2; broke = up.2.broken refl; others = others }) r);
  greeted = λ Name names sound all.
      greeted_but Name key now.0 l l' closed
      (λ k apart e at.
      by_key k other
      (λ is. greeted_at_given Name e (ap l'.entries (sym is) ∙ at))
      (λ away. greeted_on Name l l' k (others k apart away) all e at))
      now.1 (greeted_first Name device name now.0 (progress ∙ first_reported device name key d n l m s sound) (names l.core name device (inl refl) s.place)) all;
}
  where
    last : Then (IsGone moment (Some device)) (GivesName moment device name) it.mid it.back l'
    last = it.second

    gone : Unanswered moment (Is.Report device report.Gone) it.mid last.prefix last.mid
    gone = last.first

    parsed : Unanswered moment (Is.Report device (report.Hello name)) last.mid last.back l'
    parsed = last.second

    old : (e : Entry) × (m.entries other ≡ Some e) × (device_of e.progress ≡ Some device)
    old = open_as true device (m.entries other) has.1

    way : (it.prefix ≡ []) × (it.mid ≡ with_entry other (superseded_entry old.0) m)
    way = gives_way_at other old.0 (m.entries other) m it.prefix it.mid old.1 it.first

    given : it.mid ≡ with_entry other (superseded_entry old.0) m
    given = way.1

    core : it.mid.core ≡ l.core
    core = ap (λ (x : Ledger). x.core) given ∙ ap (λ (x : Ledger). x.core) s.after

    first : OneEvent moment (Is.Report device report.Gone) gone.0 it.mid last.prefix last.mid
    first = happened moment (Is.Report device report.Gone) gone.0 it.mid last.prefix last.mid gone.1

    second : OneEvent moment (Is.Report device (report.Hello name)) parsed.0 last.mid last.back l'
    second = happened moment (Is.Report device (report.Hello name)) parsed.0 last.mid last.back l' parsed.1

    one : Came
    one = record { moment = moment; event = Is.Report device report.Gone; outcome = gone.0; notes = core_notes last.prefix; state = last.mid.core; in_turn = true }

    two : Came
    two = record { moment = moment; event = Is.Report device (report.Hello name); outcome = parsed.0; notes = core_notes last.back; state = l'.core; in_turn = true }

    kept : KeptAll it.mid l'
    kept = kept_next it.mid last.mid l' first.kept second.kept

    closed : l'.closed ≡ l.closed
    closed = kept.closed ∙ (ap (λ (x : Ledger). x.closed) given ∙ ap (λ (x : Ledger). x.closed) s.after)

    there : l.entries other ≡ Some old.0
    there = sym (set_aside key n l m s.after other has.0) ∙ old.1

    now : Kept (Some n) (l'.entries key)
    now = kept_open n (it.mid.entries key) (l'.entries key) (set_aside other (superseded_entry old.0) m it.mid given key (λ same. has.0 (sym same)) ∙ set_here key n l m s.after) (kept.each key)

    progress : now.0.progress ≡ n.progress
    progress = named_stays device n now.0 (ap device_of s.progress) now.2

    up : Kept (Some (superseded_entry old.0)) (l'.entries other)
    up = kept_open (superseded_entry old.0) (it.mid.entries other) (l'.entries other) (set_here other (superseded_entry old.0) m it.mid given) (kept.each other)

    others : (k : ℕ) → k ≢ key → k ≢ other → Kept (l.entries k) (l'.entries k)
    others k apart away = subst (λ (o : Option Entry). Kept o (l'.entries k)) (set_aside other (superseded_entry old.0) m it.mid given k away ∙ set_aside key n l m s.after k apart) (kept.each k)

    greeted_at_given : (Name : List ℕ → ℕ → Type 0) (e : Entry) → l'.entries other ≡ Some e → IsGreeted Name e
    greeted_at_given Name e at =
        subst (λ (z : Entry). IsGreeted Name z) (one_entry up.0 e (sym up.1 ∙ at)) (greeted_nameless Name up.0 (ap device_of (broken_stays (superseded_entry old.0) up.0 refl up.2) ∙ unnamed_nameless old.0.progress))

    sounds : Sound l → (k : ℕ) → SoundAt (l'.entries k)
    sounds sound k =
        by_key k key (λ same. subst SoundAt (sym (ap l'.entries same ∙ now.1)) (fresh_named device now.0 (ap device_of (progress ∙ s.progress)), now.2.reads s.read))
        (λ apart.
        by_key k other
        (λ at.
        subst SoundAt (sym (ap l'.entries at))
        (kept_sound (Some (superseded_entry old.0)) (l'.entries other) up ((λ reports is unbroken. absurd (no_true true refl unbroken)), read_as old.0 (superseded_entry old.0) (unnamed_reports old.0.progress) refl (subst SoundAt there (sound.each other)).1)))
        (λ away. kept_sound (l.entries k) (l'.entries k) (others k apart away) (sound.each k)))

greets_on : (moment device : ℕ) (name : List ℕ) (key id : ℕ) (d n : Entry) (l : Ledger) (prefix : List Happening) (m : Ledger) (back : List Happening) (l' : Ledger) (hs : List Happening) → hs ≡ prefix ++ back → core_notes prefix ≡ [] → NameGiven device name key d n l m → HandlesHello moment key id device name m back l' → Goes true moment l hs l'
greets_on moment device name key id d n l prefix m back l' hs whole silent s (inl (alone, it)) = gives_name_alone moment device name key d n l prefix m back l' hs whole silent s alone it
greets_on moment device name key id d n l prefix m back l' hs whole silent s (inr (inl (other, has, it))) = gives_name_over moment device name key other d n l prefix m back l' hs whole silent s has it
greets_on moment device name key id d n l prefix m back l' hs whole silent s (inr (inr (other, has, it))) = gives_name_again moment device name key id d n l prefix m back l' hs whole silent s it

-- ---- the asks come about

fine_acts : (moment key id : ℕ) (what : Ask) (l : Ledger) (prefix : List Happening) (m : Ledger) (back : List Happening) (l' : Ledger) (hs : List Happening) → hs ≡ prefix ++ back → (a : Asks key id what l prefix m) → IsFine what → Grows a.entry a.new → ActsOn moment key id what m back l' → Goes true moment l hs l'
fine_acts moment key id what l prefix m back l' hs whole a fine grows does =
    goes_then true moment l prefix m back l' hs whole (goes_calm true moment l prefix m (calm_sets key a.entry a.new l prefix m a.there grows (ap core_notes a.chosen) a.after)) (fine_does moment key id what fine m back l' does)

client_acts : (moment key id : ℕ) (what : Ask) (l : Ledger) (prefix : List Happening) (m : Ledger) (back : List Happening) (l' : Ledger) (hs : List Happening) → hs ≡ prefix ++ back → (a : Asks key id what l prefix m) → ClientTalk a.entry.progress → ActsOn moment key id what m back l' → Goes true moment l hs l'
client_acts moment key id what l prefix m back l' hs whole a own does =
    let next = client_keeps l.core.settings a.entry.progress a.entry a.asks.comes a.asks.mid own own a.asks.takes_item in
    fine_acts moment key id what l prefix m back l' hs whole a (step_fine a.asks.comes a.asks.mid what a.new next.0 a.asks.steps)
    (client_grows a.entry a.new (not_broken a.entry.draining a.entry.broken a.asks.counts) own (subst ClientTalk (sym (step_progress a.asks.comes a.asks.mid what a.new a.asks.steps)) next.1)) does

device_acts : (moment key id : ℕ) (what : Ask) (l : Ledger) (prefix : List Happening) (m : Ledger) (back : List Happening) (l' : Ledger) (hs : List Happening) → hs ≡ prefix ++ back → (a : Asks key id what l prefix m) → DeviceStep l.core.settings what a.entry a.new → ActsOn moment key id what m back l' → Goes true moment l hs l'
device_acts moment key id what l prefix m back l' hs whole a (inl (fine, grows)) does = fine_acts moment key id what l prefix m back l' hs whole a fine grows does
device_acts moment key id what l prefix m back l' hs whole a (inr (inl s)) does =
    greets_on moment s.device s.name key id a.entry a.new l prefix m back l' hs whole (ap core_notes a.chosen)
    (record { there = a.there; sound = not_broken a.entry.draining a.entry.broken a.asks.counts; after = a.after; reports = s.reports; before = s.before; place = s.place; progress = s.after; read = s.read })
    (subst (λ (it : Ask). ActsOn moment key id it m back l') s.asks does)
device_acts moment key id what l prefix m back l' hs whole a (inr (inr s)) does =
    reports_on moment key what a.entry a.new l prefix m back l' hs whole (ap core_notes a.chosen) a.there a.after s (subst (λ (it : Ask). ActsOn moment key id it m back l') s.asks does)

acts_by : (moment key id : ℕ) (what : Ask) (l : Ledger) (prefix : List Happening) (m : Ledger) (back : List Happening) (l' : Ledger) (hs : List Happening) → hs ≡ prefix ++ back → (a : Asks key id what l prefix m) → (progress : PeerRecord) → a.entry.progress ≡ progress → ActsOn moment key id what m back l' → Goes true moment l hs l'
acts_by moment key id what l prefix m back l' hs whole a (Http parsed closes body) is does = client_acts moment key id what l prefix m back l' hs whole a (subst ClientTalk (sym is) tt) does
acts_by moment key id what l prefix m back l' hs whole a (Queue items session) is does = client_acts moment key id what l prefix m back l' hs whole a (subst ClientTalk (sym is) tt) does
acts_by moment key id what l prefix m back l' hs whole a (Link reports device) is does =
    device_acts moment key id what l prefix m back l' hs whole a
    (device_step l.core.settings reports device a.entry a.asks.comes a.asks.mid what a.new is (not_broken a.entry.draining a.entry.broken a.asks.counts) (subst (λ (t : PeerRecord). ItemComes l.core.settings t a.entry a.asks.comes a.asks.mid) is a.asks.takes_item) a.asks.steps) does

acts_next_in : (moment key : ℕ) → Within true moment (ActsNext moment key)
acts_next_in moment key l hs l' (id, what, it) = acts_by moment key id what l it.prefix it.mid it.back l' hs it.whole it.first it.first.entry.progress refl it.second

-- ---- a turn

module _ (moment : ℕ) where
  serves_in : (key : ℕ) → Within true moment (Serves moment key)
  serves_in key l hs l' it = then_in true moment (many_in true moment (Acts moment key) (then_in true moment (acts_next_in moment key) (closes_broken_in moment))) (chooses_in true moment Rested) l hs l' it.0

  sets_at : (key : ℕ) (d e : Entry) (l : Ledger) (hs : List Happening) (l' : Ledger) → l.entries key ≡ Some d → Grows d e → Sets key e l hs l' → Goes true moment l hs l'
  sets_at key d e l hs l' there grows it = goes_calm true moment l hs l' (calm_sets key d e l hs l' there grows (ap core_notes it.0) it.1)

  fed_whole : (key : ℕ) (e : Entry) (bytes : List ℕ) (l : Ledger) (hs : List Happening) (l' : Ledger) → l.entries key ≡ Some e → FedWhole moment key e bytes l hs l' → Goes true moment l hs l'
  fed_whole key e bytes l hs l' there (inl it) =
      goes_then true moment l it.prefix it.mid it.back l' hs it.whole (sets_at key e (reading bytes e) l it.prefix it.mid there (grows_reading e bytes) it.first) (serves_in key it.mid it.back l' it.second)
  fed_whole key e bytes l hs l' there (inr it) =
      goes_then true moment l it.prefix it.mid it.back l' hs it.whole (goes_calm true moment l it.prefix it.mid (calm_sets key e (broken e) l it.prefix it.mid there (grows_broken e) (ap core_notes it.first.0) it.first.1)) (closes_broken_in moment it.mid it.back l' it.second)

  fed_open : (t : Bool) (key : ℕ) (e : Entry) (bytes : List ℕ) (l : Ledger) (hs : List Happening) (l' : Ledger) → l.entries key ≡ Some e → If t (Sets key e) (FedWhole moment key e bytes) l hs l' → Goes true moment l hs l'
  fed_open true key e bytes l hs l' there it = sets_at key e e l hs l' there (grows_as e e refl refl (λ is. is)) it
  fed_open false key e bytes l hs l' there it = fed_whole key e bytes l hs l' there it

  feeds_at : (key : ℕ) (bytes : List ℕ) (o : Option Entry) (l : Ledger) (hs : List Happening) (l' : Ledger) → l.entries key ≡ o → FeedsAt moment key bytes o l hs l' → Goes true moment l hs l'
  feeds_at key bytes None l hs l' there it = nothing_in true moment l hs l' it
  feeds_at key bytes (Some e) l hs l' there it = fed_open e.draining key e bytes l hs l' there it

  feeds_in : (key : ℕ) (bytes : List ℕ) → Within true moment (FeedsOne moment key bytes)
  feeds_in key bytes l hs l' it = feeds_at key bytes (l.entries key) l hs l' refl it

  fails_in : (key : ℕ) → Within true moment (Fails moment key)
  fails_in key = then_in true moment (calmly_in true moment (calms_breaks key)) (closes_broken_in moment)

  -- after a poll each connection is as it was
  polled_sets : (poll : Poll) (key : ℕ) (d e : Entry) (l : Ledger) (hs : List Happening) (l' : Ledger) → l.entries key ≡ Some d → Grows d e → Then (Polls poll) (Sets key e) l hs l' → Goes true moment l hs l'
  polled_sets poll key d e l hs l' there grows it =
      goes_then true moment l it.prefix it.mid it.back l' hs it.whole (polls_in true moment poll l it.prefix it.mid it.first) (sets_at key d e it.mid it.back l' (ap (λ (x : Ledger). x.entries key) it.first.1 ∙ there) grows it.second)

  reads_as : (key : ℕ) (e : Entry) (answer : WireAnswer (List ℕ)) (l : Ledger) (hs : List Happening) (l' : Ledger) → l.entries key ≡ Some e → ReadsAs moment key e answer l hs l' → Goes true moment l hs l'
  reads_as key e (wire.Done bytes) l hs l' there it = then_in true moment (polls_in true moment (Reads e.id (wire.Done bytes))) (feeds_in key bytes) l hs l' it
  reads_as key e wire.Waiting l hs l' there it = polls_in true moment (Reads e.id wire.Waiting) l hs l' it
  reads_as key e wire.End l hs l' there it = polled_sets (Reads e.id wire.End) key e (record e { ended = true }) l hs l' there (grows_as e (record e { ended = true }) refl refl (λ is. is)) it
  reads_as key e wire.Fault l hs l' there it = then_in true moment (polls_in true moment (Reads e.id wire.Fault)) (fails_in key) l hs l' it

  reads_if : (t : Bool) (key : ℕ) (e : Entry) (l : Ledger) (hs : List Happening) (l' : Ledger) → l.entries key ≡ Some e → If t (ReadsOpen moment key e) Nothing l hs l' → Goes true moment l hs l'
  reads_if true key e l hs l' there (answer, segment, it) = reads_as key e answer l hs l' there it
  reads_if false key e l hs l' there it = nothing_in true moment l hs l' it

  reads_at : (key : ℕ) (o : Option Entry) (l : Ledger) (hs : List Happening) (l' : Ledger) → l.entries key ≡ o → ReadsAt moment key o l hs l' → Goes true moment l hs l'
  reads_at key None l hs l' there it = nothing_in true moment l hs l' it
  reads_at key (Some e) l hs l' there it = reads_if (is_read e) key e l hs l' there it

  reads_in : (key : ℕ) → Within true moment (ReadsOne moment key)
  reads_in key l hs l' it = reads_at key (l.entries key) l hs l' refl it

  writes_as : (key : ℕ) (e : Entry) (offered : List ℕ) (answer : WireAnswer ℕ) (l : Ledger) (hs : List Happening) (l' : Ledger) → l.entries key ≡ Some e → WritesAs moment key e offered answer l hs l' → Goes true moment l hs l'
  writes_as key e offered (wire.Done n) l hs l' there it =
      polled_sets (Writes e.id offered (wire.Done n)) key e (record e { taken = e.taken ++ take n offered }) l hs l' there (grows_as e (record e { taken = e.taken ++ take n offered }) refl refl (λ is. is)) it
  writes_as key e offered wire.Waiting l hs l' there it = polls_in true moment (Writes e.id offered wire.Waiting) l hs l' it
  writes_as key e offered wire.End l hs l' there it = then_in true moment (polls_in true moment (Writes e.id offered wire.End)) (fails_in key) l hs l' it
  writes_as key e offered wire.Fault l hs l' there it = then_in true moment (polls_in true moment (Writes e.id offered wire.Fault)) (fails_in key) l hs l' it

  writes_if : (t : Bool) (key : ℕ) (e : Entry) (l : Ledger) (hs : List Happening) (l' : Ledger) → l.entries key ≡ Some e → If t (WritesOpen moment key e) Nothing l hs l' → Goes true moment l hs l'
  writes_if true key e l hs l' there (offered, is, answer, it) = writes_as key e offered answer l hs l' there it
  writes_if false key e l hs l' there it = nothing_in true moment l hs l' it

  writes_at : (key : ℕ) (o : Option Entry) (l : Ledger) (hs : List Happening) (l' : Ledger) → l.entries key ≡ o → WritesAt moment key o l hs l' → Goes true moment l hs l'
  writes_at key None l hs l' there it = nothing_in true moment l hs l' it
  writes_at key (Some e) l hs l' there it = writes_if (nat_lt 0 (length (waiting e))) key e l hs l' there it

  writes_in : (key : ℕ) → Within true moment (WritesOne moment key)
  writes_in key l hs l' it = writes_at key (l.entries key) l hs l' refl it

  ends_if : (t : Bool) (key : ℕ) (e : Entry) (l : Ledger) (hs : List Happening) (l' : Ledger) → l.entries key ≡ Some e → If t (Then (ClosesAs moment Drained key e) (ClosesBroken moment)) Nothing l hs l' → Goes true moment l hs l'
  ends_if true key e l hs l' there it = goes_then true moment l it.prefix it.mid it.back l' hs it.whole (closes_at moment Drained key e l it.prefix it.mid there it.first) (closes_broken_in moment it.mid it.back l' it.second)
  ends_if false key e l hs l' there it = nothing_in true moment l hs l' it

  ends_at : (key : ℕ) (o : Option Entry) (l : Ledger) (hs : List Happening) (l' : Ledger) → l.entries key ≡ o → EndsAt moment key o l hs l' → Goes true moment l hs l'
  ends_at key None l hs l' there it = nothing_in true moment l hs l' it
  ends_at key (Some e) l hs l' there it = ends_if (is_done e) key e l hs l' there it

  ends_in : (key : ℕ) → Within true moment (EndsOne moment key)
  ends_in key l hs l' it = ends_at key (l.entries key) l hs l' refl it

  opening_new : (door : Door) (id : ℕ) → IsNew (opening_entry door id)
  opening_new Ipp id = record { nameless = refl; fresh = λ reports progress unbroken. cc; read = none_read (opening_entry Ipp id) refl }
  opening_new Lpd id = record { nameless = refl; fresh = λ reports progress unbroken. cc; read = none_read (opening_entry Lpd id) refl }
  opening_new Devices id = record { nameless = refl; fresh = λ reports progress unbroken. cc; read = none_read (opening_entry Devices id) refl }

  opens_in : (door : Door) (id : ℕ) → Within true moment (Opens door id)
  opens_in door id l hs l' (inl (key, free, is, after)) =
      goes_calm true moment l hs l' (record {
        core = ap (λ (x : Ledger). x.core) after;
        notes = ap core_notes is;
        kept = record {
          closed = ap (λ (x : Ledger). x.closed) after;
          each = λ k. subst (λ (entries : ℕ → Option Entry). Kept (l.entries k) (entries k)) (sym (ap (λ (x : Ledger). x.entries) after)) (at k);
        };
      })
    where
      at : (k : ℕ) → Kept (l.entries k) (at_key key (Some (opening_entry door id)) l.entries k)
      at k =
          by_key k key
          (λ same.
          subst (λ (o : Option Entry). Kept (l.entries k) o) (sym (here key (Some (opening_entry door id)) l.entries k same))
          (subst (λ (o : Option Entry). Kept o (Some (opening_entry door id))) (sym (ap l.entries same ∙ free)) (inr (opening_entry door id, refl, opening_new door id))))
          (λ apart. subst (λ (o : Option Entry). Kept (l.entries k) o) (sym (aside key (Some (opening_entry door id)) l.entries k apart)) (kept_same (l.entries k)))
  opens_in door id l hs l' (inr it) = goes_calm true moment l hs l' (calm_still l hs l' (ap core_notes it.0) it.1)

  accepts_as : (door : Door) (answer : WireAnswer ℕ) → Within true moment (AcceptsAs door answer)
  accepts_as door (wire.Done id) = then_in true moment (polls_in true moment (Accepts door (wire.Done id))) (opens_in door id)
  accepts_as door wire.Waiting = polls_in true moment (Accepts door wire.Waiting)
  accepts_as door wire.End = polls_in true moment (Accepts door wire.End)
  accepts_as door wire.Fault = polls_in true moment (Accepts door wire.Fault)

  accepts_in : (door : Door) → Within true moment (AcceptsAt door)
  accepts_in door l hs l' it = if_in true moment (nat_lt l.count CONNECTIONS) (AcceptsOne door) Nothing (λ a ks b (answer, is). accepts_as door answer a ks b is) (nothing_in true moment) l hs l' it

  tick_due_in : Within true moment (TicksIfDue moment)
  tick_due_in l hs l' it = if_in true moment (is_tick_due moment l) (Then (Ticks moment) (ClosesBroken moment)) Nothing (then_in true moment (ticks_in true moment) (closes_broken_in moment)) (nothing_in true moment) l hs l' it

  round_in : Within true moment (Round moment)
  round_in l hs l' (n, it) =
      then_in true moment {R = Covers n} (λ a ks b is. chooses_in true moment (Looked n) a ks b is.1)
      (then_in true moment (each_in true moment n (ReadsOne moment) reads_in) (then_in true moment (each_in true moment n (WritesOne moment) writes_in) (each_in true moment n (EndsOne moment) ends_in)))
      l hs l' it

  turn_in : Within true moment (Turn moment)
  turn_in = then_in true moment (closes_broken_in moment) (then_in true moment tick_due_in (then_in true moment (accepts_in Ipp) (then_in true moment (accepts_in Lpd) (then_in true moment (accepts_in Devices) round_in))))

  -- ---- calls between turns

  body_in : (it : ParsedRequest) (served : Between.Outcome) → Within false moment (BodyAsks moment it served)
  body_in asked.TooShort served l hs l' (is, it) = nothing_in false moment l hs l' it
  body_in (asked.Refused status request) served l hs l' (is, it) = or_in false moment (chooses_in false moment Found) (calmly_in false moment (calms_notifies (Refused At.Reply None) refl)) l hs l' it
  body_in (asked.Event request event) served l hs l' (bytes, is, (outcome, it)) =
      then_in false moment {R = Happens moment event outcome} (goes_event false moment event outcome (λ device. refl)) (calmly_in false moment (body_answers request (effects_of outcome) bytes)) l hs l' it

  body_comes_in : (body : List ℕ) (served : Between.Outcome) → Within false moment (BodyComes moment body served)
  body_comes_in body served l hs l' (inl (it, asks, comes)) = then_in false moment (chooses_in false moment Found) (body_in it served) l hs l' comes
  body_comes_in body served l hs l' (inr it) = calmly_in false moment (calms_notifies (Refused At.Event None) refl) l hs l' it

goes_action : (action : Action) (l l' : Ledger) → DoesAction action l l' → Goes (is_turn action) (moment_of action) l (happenings_of action) l'
goes_action (Turned moment hs) l l' it = turn_in moment l hs l' it
goes_action (Served_body moment body answer hs) l l' (served, same, it) = body_comes_in moment body served l hs l' it
goes_action (Reported moment device parsed hs) l l' (what, same, (outcome, it)) = goes_event false moment (Is.Report device what) outcome (λ of. refl) l hs l' it
goes_action (Ticked moment hs) l l' it = ticks_in false moment l hs l' it

-- ---- a trace

record GoesOn (trace : Trace) (l l' : Ledger) : Type 1 where
  came : List Came
  timed : ComeOf trace came
  run : AreRun l.core came l'.core
  notified : core_notes (happenings_in trace) ≡ flat_map (λ (it : Came). it.notes) came
  sound : Sound l → Sound l'
  reported : Sound l → (device : ℕ) (before : List ReportRecord) → IsReported device before l → IsReported device (before ++ reports_by device came) l'
  greeted : (Name : List ℕ → ℕ → Type 0) → AreNames Name l.core came → Sound l → AllGreeted Name l → AllGreeted Name l'

goes_on : (trace : Trace) (l l' : Ledger) → Runs trace l l' → GoesOn trace l l'
goes_on [] l l' same = record {
  came = [];
  timed = refl;
  run = ap (λ (x : Ledger). x.core) same;
  notified = refl;
  sound = λ s. subst Sound (sym same) s;
  reported = λ s device before r. reported_as device before (before ++ []) l' (sym (append-nil before)) (subst (λ (x : Ledger). IsReported device before x) (sym same) r);
  greeted = λ Name names s all. subst (AllGreeted Name) (sym same) all;
}
goes_on (action ∷ actions) l l' (mid, does, runs) =
    let first = goes_action action l mid does in
    let later = goes_on actions mid l' runs in
    record {
      came = first.came ++ later.came;
      timed = (first.came, later.came, refl, first.timed, later.timed);
      run = run_then l.core mid.core l'.core first.came later.came first.run later.run;
      notified = notified_then (happenings_of action ++ happenings_in actions) (happenings_of action) (happenings_in actions) first.came later.came refl first.notified later.notified;
      sound = λ s. later.sound (first.sound s);
      reported = λ s device before r.
          reported_as device ((before ++ reports_by device first.came) ++ reports_by device later.came) (before ++ reports_by device (first.came ++ later.came)) l' (reports_then device before first.came later.came)
          (later.reported (first.sound s) device (before ++ reports_by device first.came) (first.reported s device before r));
      greeted = λ Name names s all.
          later.greeted Name (λ state name device is. names state name device (state_later state l.core mid.core first.came later.came first.run is)) (first.sound s)
          (first.greeted Name (λ state name device is. names state name device (state_more state l.core first.came later.came is)) s all);
    }

-- ---- the law

opening_sound : (opening : State) → Sound (opening_ledger opening)
opening_sound opening = record { each = λ key. tt; closed = All-nil (λ (it : Entry × Fate). IsRead it.0) }

nothing_notified : (device : ℕ) (opening : State) → IsReported device [] (opening_ledger opening)
nothing_notified device opening = record { past = []; now = []; whole = refl; closed = refl; superseded_entry = All-nil _; is_now = inl (λ key is. is, refl) }

pub are_delivered : (opening : State) (trace : Trace) (l : Ledger) → Runs trace (opening_ledger opening) l → ((key : ℕ) (e : Entry) → l.entries key ≡ Some e → IsActedOn e) → All (λ (it : Entry × Fate). IsActedOn it.0) l.closed → AreDelivered opening trace l
are_delivered opening trace l runs acted_on ended =
    let all = goes_on trace (opening_ledger opening) l runs in
    let sound = all.sound (opening_sound opening) in
    let names = all.greeted (IsNameIn opening all.came) (λ state name device is place. (state, is, place)) (opening_sound opening) (record { each = λ key e there. cc; closed = All-nil (λ (it : Entry × Fate). IsGreeted (IsNameIn opening all.came) it.0) }) in
    record {
      came = all.came;
      timed = all.timed;
      run = all.run;
      notified = all.notified;
      reported = λ device. all.reported (opening_sound opening) device [] (nothing_notified device opening);
      greeted = names.each;
      closed_greeted = names.closed;
      read = λ key e there. (subst SoundAt there (sound.each key)).1;
      closed_read = sound.closed;
      acted_on = acted_on;
      closed_acted_on = ended;
    }
