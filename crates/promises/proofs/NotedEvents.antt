-- The observer has notes of each event of a trace, also of a dropped event.
use Rattle.std.proofs.Common.{◌≡◌, ℕ, Bool, true, false, List, [], ◌∷◌, ◌++◌, map, refl, sym, ◌∙◌, ap, subst, Option, Some, None, inl, inr}
use Rattle.std.specs.Prelude.{◌||◌, All, nat_lt, length, take}
use Rattle.std.proofs.lemmas.List.{append-nil, append_assoc, map-append}
use Rattle.std.proofs.lemmas.List.Elements.{All-append, All-cons, All-nil}
use Rattle.base_types.specs.declared.limits.TheConstants.Limits.{CONNECTIONS}
use Rattle.base_types.specs.declared.report.Report.{Report}
use Rattle.base_types.specs.declared.report.Report.TheVariants as reported
use Rattle.base_types.specs.Report.{ReportRecord}
use Rattle.device_link.specs.Orders.{cancel_line}
use Rattle.print_room.specs.declared.started.Started.{Started}
use Rattle.print_room.specs.State.{State}
use Rattle.events.specs.declared.event.Event.{Event}
use Rattle.events.specs.declared.event.Event.TheVariants as Is
use Rattle.events.specs.declared.effects.Effects.{Effects}
use Rattle.events.specs.declared.effects.Cancel.{Cancel}
use Rattle.events.specs.declared.effects.Response.{Response}
use Rattle.events.specs.declared.effects.Response.TheVariants as answered
use Rattle.events.specs.declared.effects.LpdResponse.{LpdResponse}
use Rattle.events.specs.declared.effects.LpdResponse.TheVariants as shown
use Rattle.events.specs.declared.status.Status.{Status}
use Rattle.events.specs.declared.status.Status.TheVariants.{TemporaryError}
use Rattle.events.specs.Event.{is_query}
use Rattle.dispatcher.specs.declared.observer.DeviceRefusal.{DeviceRefusal}
use Rattle.dispatcher.specs.declared.observer.DeviceRefusal.TheVariants as why
use Rattle.dispatcher.specs.declared.observer.AllocationSite.{AllocationSite}
use Rattle.dispatcher.specs.declared.observer.AllocationSite.TheVariants as At
use Rattle.dispatcher.specs.declared.run.Timed.{Timed}
use Rattle.dispatcher.specs.Notes.{Note, Planned, Canceled, DeviceRefused, Refused, Notifies as Leads}
use Rattle.dispatcher.specs.declared.handled.Dispatch.{Dispatch}
use Rattle.dispatcher.specs.declared.handled.Dispatch.TheVariants as dispatch
use Rattle.dispatcher.specs.Following.{Follows}
use Rattle.dispatcher.specs.Run.{Outcome, effects_of, cancel_notes, Handles, Run}
use Rattle.dispatcher.specs.Step.{TakesNoMemory}
use Rattle.ipp_operations.specs.declared.parsed_request.ParsedRequest.{ParsedRequest}
use Rattle.ipp_operations.specs.declared.parsed_request.ParsedRequest.TheVariants as asks
use Rattle.ipp_operations.specs.QueueText.{ack_of, text_of}
use Rattle.connections.specs.Reply.{http_reply}
use Rattle.wires.specs.Poll.{Poll, Accepts, Reads, Writes}
use Rattle.wires.specs.declared.wire.Progress.TheVariants as wire
use Rattle.wires.specs.declared.wire.Progress.{Progress}
use Rattle.wires.specs.declared.wire.Door.{Door}
use Rattle.wires.specs.declared.wire.Door.TheVariants.{Ipp, Lpd, Devices}
use Rattle.connections.specs.declared.ask.Ask.{Ask}
use Rattle.connections.specs.declared.ask.Ask.TheVariants as ask
use Rattle.connections.specs.declared.ask.Client.{Client}
use Rattle.connections.specs.declared.ask.Client.TheVariants as client
use Rattle.connections.specs.declared.ask.AllocFailure.{AllocFailure}
use Rattle.connections.specs.declared.ask.AllocFailure.TheVariants as growth
use Rattle.connections.specs.declared.ask.Part.{Part}
use Rattle.connections.specs.declared.ask.Part.TheVariants as part
use Rattle.connections.specs.Entry.{Entry, device_of, closes_of, superseded_entry, broken, owing, needs_memory, reading, waiting}
use Rattle.connections.specs.Steps.{http_status}
use Rattle.connections.specs.Choice.{part_of, lost_of}
use Rattle.server.specs.Polls.{Happening, Polled, Notified, Choice, Found, Asked, Rested, Looked, Chosen}
use Rattle.server.specs.Ledger.{Ledger, Fate, Drained, Broken, with_entry, job_bytes}
use Rattle.server.specs.Rel.{Rel, Nothing, Polls, Notifies, Chooses, Then, If, Or, Many, Each, EachOf}
use Rattle.server.specs.Enqueuing.{Sets, BreaksAt, Breaks, Drops, EnqueuesOpen, EnqueuesAt, EnqueuesWhere, Enqueues, EnqueuesOn, EnqueuesReplyAt, EnqueuesResponse, EnqueuesStatus}
use Rattle.server.specs.Happening.{found_by, Sends, SendsAll, Starts, StartsAll, StartsBy, Orders, Happens, Unanswered}
use Rattle.server.specs.Closing as Closing
use Rattle.server.specs.Closing.{Leaves, ClosesAs, ClosesFirst, ClosesBroken}
use Rattle.server.specs.Answering as Answering
use Rattle.server.specs.Hello as Hello
use Rattle.server.specs.Acting as Acting
use Rattle.server.specs.Polling.{Opens, AcceptsAs, AcceptsOne, AcceptsAt, Acts, Serves, FedWhole, FedOpen, FeedsAt, FeedsOne, Fails, ReadsAs, ReadsOpen, ReadsAt, is_read, ReadsOne, WritesAs, WritesOpen, WritesAt, WritesOne, is_done, EndsAt, EndsOne}
use Rattle.server.specs.Turn as Between
use Rattle.server.specs.Turn.{Ticks, is_tick_due, TicksIfDue, Covers, Round, Turn, has_refusal, Action, Turned, Served_body, Reported, Ticked, DoesAction, Trace, Runs}
use Rattle.server.specs.Law.{core_note, core_notes, Collects, moment_of, happenings_of, happenings_in, AreAt, AreEventsOf, IsWhole}
use Rattle.server.proofs.Steps.{refusals_append}
use Rattle.server.proofs.DeviceOrders.{refused_of}
use Rattle.server.proofs.LaterNotes.{notes_append, never, none_before, none_after}
use Rattle.promises.specs.Dropped.{brings_event, event_note, event_notes, begins_event, events_notified, IsNotifiedOf, AreNotifiedOf, NotifiesDropped}
use Rattle.promises.proofs.EventNotes.{notified_all}
use Rattle.promises.proofs.CombinedParts.{or_within, if_within, many_within, each_within}

-- ---- the notes of events

-- whether an event may come after these happenings; the argument says whether it may come before them
abbrev after : Bool → List Happening → Bool
after came [] = came
after came (h ∷ hs) = after (brings_event h) hs

notes_then : (came : Bool) (hs ks : List Happening) → event_notes came (hs ++ ks) ≡ event_notes came hs ++ event_notes (after came hs) ks
notes_then came [] ks = refl
notes_then came (h ∷ hs) ks =
    ap (λ (ns : List Note). event_note came h ++ ns) (notes_then (brings_event h) hs ks) ∙ sym (append_assoc (event_note came h) (event_notes (brings_event h) hs) (event_notes (after (brings_event h) hs) ks))

-- these happenings have no note of an event, whether or not an event came before
abbrev Silent : List Happening → Type 0
Silent hs = (came : Bool) → event_notes came hs ≡ []

silent_then : (hs ks : List Happening) → Silent hs → Silent ks → Silent (hs ++ ks)
silent_then hs ks p q came = notes_then came hs ks ∙ (ap (λ (ns : List Note). ns ++ event_notes (after came hs) ks) (p came) ∙ q (after came hs))

-- silent happenings add no note
notes_before : (came : Bool) (hs ks : List Happening) (notes : List Note) → event_notes came hs ≡ notes → Silent ks → event_notes came (hs ++ ks) ≡ notes
notes_before came hs ks notes is silent =
    notes_then came hs ks ∙ (ap (λ (ns : List Note). event_notes came hs ++ ns) (silent (after came hs)) ∙ (append-nil (event_notes came hs) ∙ is))

-- ---- parts that don't change the core

record Quiet (l : Ledger) (hs : List Happening) (l' : Ledger) : Type 0 where
  core : l'.core ≡ l.core
  silent : Silent hs

abbrev Quietly : Rel → Type 0
Quietly R = (l : Ledger) (hs : List Happening) (l' : Ledger) → R l hs l' → Quiet l hs l'

quiet_by : (ks : List Happening) (m l : Ledger) (hs : List Happening) (l' : Ledger) → Silent ks → m.core ≡ l.core → (hs ≡ ks) × (l' ≡ m) → Quiet l hs l'
quiet_by ks m l hs l' silent core (is, same) = record { core = ap (λ (x : Ledger). x.core) same ∙ core; silent = subst Silent (sym is) silent }

quiet_nothing : Quietly Nothing
quiet_nothing l hs l' it = quiet_by [] l l hs l' (λ came. refl) refl it

quiet_then : {R S : Rel} → Quietly R → Quietly S → Quietly (Then R S)
quiet_then {R} {S} f g l hs l' it =
    let p = f l it.prefix it.mid it.first in
    let q = g it.mid it.back l' it.second in
    record { core = q.core ∙ p.core; silent = subst Silent (sym it.whole) (silent_then it.prefix it.back p.silent q.silent) }

quiet_or : {R S : Rel} → Quietly R → Quietly S → Quietly (Or R S)
quiet_or f g l hs l' (inl it) = f l hs l' it
quiet_or f g l hs l' (inr it) = g l hs l' it

quiet_if : (test : Bool) (R S : Rel) → Quietly R → Quietly S → Quietly (If test R S)
quiet_if true R S f g l hs l' it = f l hs l' it
quiet_if false R S f g l hs l' it = g l hs l' it

quiet_notifies : (note : Note) → Silent (Notified note ∷ []) → Quietly (Notifies note)
quiet_notifies note silent l hs l' it = quiet_by (Notified note ∷ []) l l hs l' silent refl it

quiet_polls : (poll : Poll) → Quietly (Polls poll)
quiet_polls poll l hs l' it = quiet_by (Polled poll ∷ []) l l hs l' (λ came. refl) refl it

quiet_choice : (choice : Choice) → Quietly (Chooses choice)
quiet_choice choice l hs l' it = quiet_by (Chosen choice ∷ []) l l hs l' (λ came. refl) refl it

quiet_sets : (key : ℕ) (e : Entry) → Quietly (Sets key e)
quiet_sets key e l hs l' it = quiet_by [] (with_entry key e l) l hs l' (λ came. refl) refl it

quiet_drops : (place : AllocationSite) (key : ℕ) (e : Entry) → Silent (Notified (Refused place (Some e.id)) ∷ []) → Quietly (Drops place key e)
quiet_drops place key e silent l hs l' it = quiet_by (Notified (Refused place (Some e.id)) ∷ []) (with_entry key (broken e) l) l hs l' silent refl it

breaks_at : (key : ℕ) (o : Option Entry) → Quietly (BreaksAt key o)
breaks_at key None = quiet_nothing
breaks_at key (Some e) = quiet_sets key (broken e)

quiet_breaks : (key : ℕ) → Quietly (Breaks key)
quiet_breaks key l hs l' it = breaks_at key (l.entries key) l hs l' it

enqueues_open : (grows : Bool) (key : ℕ) (bytes : List ℕ) (e : Entry) → Quietly (EnqueuesOpen grows key bytes e)
enqueues_open grows key bytes e =
    quiet_if grows (Or (Then (Chooses Found) (Sets key (owing bytes e))) (Drops At.Enqueue key e)) (Sets key (owing bytes e))
    (quiet_or (quiet_then (quiet_choice Found) (quiet_sets key (owing bytes e))) (quiet_drops At.Enqueue key e (λ came. refl))) (quiet_sets key (owing bytes e))

enqueues_at : (grows : Entry → Bool) (key : ℕ) (bytes : List ℕ) (o : Option Entry) → Quietly (EnqueuesAt grows key bytes o)
enqueues_at grows key bytes None = quiet_nothing
enqueues_at grows key bytes (Some e) = quiet_if e.broken Nothing (EnqueuesOpen (grows e) key bytes e) quiet_nothing (enqueues_open (grows e) key bytes e)

quiet_where : (grows : Entry → Bool) (key : ℕ) (bytes : List ℕ) → Quietly (EnqueuesWhere grows key bytes)
quiet_where grows key bytes l hs l' it = enqueues_at grows key bytes (l.entries key) l hs l' it

quiet_enqueues : (key : ℕ) (bytes : List ℕ) → Quietly (Enqueues key bytes)
quiet_enqueues key bytes = quiet_where (needs_memory bytes) key bytes

enqueues_on : (grows : Entry → Bool) (device : ℕ) (bytes : List ℕ) → Quietly (EnqueuesOn grows device bytes)
enqueues_on grows device bytes l hs l' (inl (key, is, it)) = quiet_where grows key bytes l hs l' it
enqueues_on grows device bytes l hs l' (inr (none, it)) = quiet_nothing l hs l' it

reply_at : (bytes : Bool → List ℕ) (key : ℕ) (o : Option Entry) → Quietly (EnqueuesReplyAt bytes key o)
reply_at bytes key None = quiet_nothing
reply_at bytes key (Some e) = quiet_enqueues key (bytes (closes_of e.progress))

quiet_reply : (key : ℕ) (bytes : List ℕ) → Quietly (EnqueuesResponse key bytes)
quiet_reply key bytes l hs l' it = reply_at (λ closes. http_reply closes bytes) key (l.entries key) l hs l' it

quiet_status : (key : ℕ) (status : Status) (request : ℕ) → Quietly (EnqueuesStatus key status request)
quiet_status key status request l hs l' it = reply_at (λ closes. http_status closes status request) key (l.entries key) l hs l' it

-- ---- the notes about devices

each_sent : (cancels : List Cancel) → Quietly (EachOf cancels Sends)
each_sent [] = quiet_nothing
each_sent (cancel ∷ cancels) = quiet_then (enqueues_on (needs_memory (cancel_line cancel.job)) cancel.device (cancel_line cancel.job)) (each_sent cancels)

starts : (start : Started) → Quietly (Starts start)
starts start l hs l' it = enqueues_on (λ e. true) start.device (job_bytes l.core start.job) l hs l' it

each_started : (started : List Started) → Quietly (EachOf started Starts)
each_started [] = quiet_nothing
each_started (start ∷ started) = quiet_then (starts start) (each_started started)

all_started : Quietly StartsAll
all_started l hs l' it = each_started l.core.begun l hs l' it

quiet_starts : (made : Dispatch) → Quietly (StartsBy made)
quiet_starts dispatch.Query = quiet_nothing
quiet_starts dispatch.OutOfMemory = quiet_nothing
quiet_starts dispatch.Idle = quiet_nothing
quiet_starts dispatch.Planned = all_started

quiet_orders : (outcome : Outcome) → Quietly (Orders outcome)
quiet_orders (Some handled) = quiet_then {R = SendsAll handled.effects} {S = StartsBy handled.dispatch} (each_sent handled.effects.cancels.items) (quiet_starts handled.dispatch)
quiet_orders None = quiet_nothing

-- ---- answers to events that weren't dropped

loses_reply : (key id request : ℕ) (query : Bool) → Quietly (Answering.LosesReply key id request query)
loses_reply key id request query =
    quiet_then (quiet_notifies (Refused At.Reply (Some id)) (λ came. refl)) (quiet_if query (EnqueuesStatus key TemporaryError request) (Breaks key) (quiet_status key TemporaryError request) (quiet_breaks key))

replies_with : (key id request : ℕ) (query : Bool) (answer : Response) → Quietly (Answering.RepliesWith key id request query answer)
replies_with key id request query (answered.Ipp answer) l hs l' (inl (bytes, are, it)) = quiet_then (quiet_choice Found) (quiet_reply key bytes) l hs l' it
replies_with key id request query (answered.Ipp answer) l hs l' (inr it) = loses_reply key id request query l hs l' it
replies_with key id request query (answered.Lpd answer) l hs l' it = quiet_nothing l hs l' it
replies_with key id request query answered.Nothing l hs l' it = quiet_nothing l hs l' it

quiet_shows : (key id : ℕ) (text : List ℕ) → Quietly (Answering.Shows key id text)
quiet_shows key id text = quiet_or (quiet_then (quiet_choice Found) (quiet_enqueues key text)) (quiet_then (quiet_notifies (Refused At.Reply (Some id)) (λ came. refl)) (quiet_breaks key))

is_notified : (key id : ℕ) (answer : LpdResponse) → Quietly (Answering.SendsLpd key id answer)
is_notified key id (shown.Taken taken) = quiet_enqueues key (ack_of (shown.Taken taken) ∷ [])
is_notified key id (shown.Queue listing) = quiet_shows key id (text_of (shown.Queue listing))
is_notified key id shown.NoQueue = quiet_shows key id (text_of shown.NoQueue)

is_shown : (key id : ℕ) (answer : Response) → Quietly (Answering.IsShown key id answer)
is_shown key id (answered.Lpd answer) = is_notified key id answer
is_shown key id (answered.Ipp answer) = quiet_nothing
is_shown key id answered.Nothing = quiet_nothing

client_notified : (key id : ℕ) (who : Client) (query : Bool) (reply : Effects) → Quietly (Answering.Answers key id who query (Some reply))
client_notified key id (client.Ipp request) query reply = replies_with key id request query reply.response
client_notified key id client.LpdJob query reply = is_shown key id reply.response
client_notified key id client.LpdCommand query reply = is_shown key id reply.response

body_notified : (request : ℕ) (bytes : List ℕ) (reply : Effects) → Quietly (Between.Answers request (Some reply) bytes)
body_notified request bytes reply l hs l' (inl (are, it)) = quiet_choice Found l hs l' it
body_notified request bytes reply l hs l' (inr it) = quiet_notifies (Refused At.Reply None) (λ came. refl) l hs l' it

-- ---- memory for an event is refused

-- the refusal is notified first, and no further note of events
record Refuses (l : Ledger) (hs : List Happening) (l' : Ledger) : Type 0 where
  core : l'.core ≡ l.core
  id : Option ℕ
  later : List Happening
  whole : hs ≡ Notified (Refused At.Event id) ∷ later
  silent : Silent later

refuses_then : (id : Option ℕ) (Q : Rel) → Quietly Q → (l : Ledger) (hs : List Happening) (l' : Ledger) → Then (Notifies (Refused At.Event id)) Q l hs l' → Refuses l hs l'
refuses_then id Q quiet l hs l' it =
    let rest = quiet it.mid it.back l' it.second in
    record {
      core = rest.core ∙ ap (λ (x : Ledger). x.core) it.first.1;
      id = id;
      later = it.back;
      whole = it.whole ∙ ap (λ (ks : List Happening). ks ++ it.back) it.first.0;
      silent = rest.silent;
    }

refuses_alone : (id : Option ℕ) (l : Ledger) (hs : List Happening) (l' : Ledger) → Notifies (Refused At.Event id) l hs l' → Refuses l hs l'
refuses_alone id l hs l' it = record { core = ap (λ (x : Ledger). x.core) it.1; id = id; later = []; whole = it.0; silent = λ came. refl }

-- a client's event was dropped
client_refused : (key id : ℕ) (who : Client) (query : Bool) (l : Ledger) (hs : List Happening) (l' : Ledger) → Answering.Answers key id who query None l hs l' → Refuses l hs l'
client_refused key id (client.Ipp request) query = refuses_then (Some id) (EnqueuesStatus key TemporaryError request) (quiet_status key TemporaryError request)
client_refused key id client.LpdJob query = refuses_then (Some id) (Enqueues key (1 ∷ [])) (quiet_enqueues key (1 ∷ []))
client_refused key id client.LpdCommand query = refuses_then (Some id) (Breaks key) (quiet_breaks key)

-- ---- runs

-- two runs, one after the other
run_then : (old mid new : State) (events later : List Timed) (outcomes others : List Outcome) (notified more : List Note) → AreNotifiedOf old events outcomes notified mid → AreNotifiedOf mid later others more new → AreNotifiedOf old (events ++ later) (outcomes ++ others) (notified ++ more) new
run_then old mid new [] later [] others notified more (same, none) q =
    subst (λ (ns : List Note). AreNotifiedOf old later others (ns ++ more) new) (sym none) (subst (λ (s : State). AreNotifiedOf s later others more new) same q)
run_then old mid new (timed ∷ events) later (outcome ∷ outcomes) others notified more (next, first, tail, is, comes, rest) q =
    (next, first, tail ++ more, ap (λ (ns : List Note). ns ++ more) is ∙ append_assoc first tail more, comes, run_then next mid new events later outcomes others tail more rest q)
run_then old mid new [] later (outcome ∷ outcomes) others notified more none q = absurd none
run_then old mid new (timed ∷ events) later [] others notified more none q = absurd none

one_notified : (timed : Timed) (outcome : Outcome) (notified : List Note) (old new : State) → IsNotifiedOf timed old outcome notified new → AreNotifiedOf old (timed ∷ []) (outcome ∷ []) notified new
one_notified timed outcome notified old new it = (new, notified, [], sym (append-nil notified), it, (refl, refl))

-- the happenings are a run of events at one moment, with these notes; `came` says whether an event came before
record NotifiedFrom (came : Bool) (moment : ℕ) (l : Ledger) (hs : List Happening) (l' : Ledger) : Type 0 where
  events : List Timed
  outcomes : List Outcome
  timed : AreAt moment events
  notified : AreNotifiedOf l.core events outcomes (event_notes came hs) l'.core

no_event : (came : Bool) (moment : ℕ) (l : Ledger) (hs : List Happening) (l' : Ledger) → l'.core ≡ l.core → event_notes came hs ≡ [] → NotifiedFrom came moment l hs l'
no_event came moment l hs l' same none = record { events = []; outcomes = []; timed = All-nil (λ (timed : Timed). timed.moment ≡ moment); notified = (same, none) }

one_event : (came : Bool) (moment : ℕ) (event : Event) (outcome : Outcome) (l : Ledger) (hs : List Happening) (l' : Ledger)
    → (notified : List Note) → event_notes came hs ≡ notified → IsNotifiedOf (record { event = event; moment = moment }) l.core outcome notified l'.core → NotifiedFrom came moment l hs l'
one_event came moment event outcome l hs l' notified is it =
    let timed : Timed = record { event = event; moment = moment } in
    record {
      events = timed ∷ [];
      outcomes = outcome ∷ [];
      timed = All-cons (λ (t : Timed). t.moment ≡ moment) timed [] refl (All-nil (λ (t : Timed). t.moment ≡ moment));
      notified = subst (λ (ns : List Note). AreNotifiedOf l.core (timed ∷ []) (outcome ∷ []) ns l'.core) (sym is) (one_notified timed outcome notified l.core l'.core it);
    }

from_then : (came : Bool) (moment : ℕ) (l : Ledger) (prefix : List Happening) (mid : Ledger) (back : List Happening) (l' : Ledger) → NotifiedFrom came moment l prefix mid → NotifiedFrom (after came prefix) moment mid back l' → NotifiedFrom came moment l (prefix ++ back) l'
from_then came moment l prefix mid back l' p q = record {
  events = p.events ++ q.events;
  outcomes = p.outcomes ++ q.outcomes;
  timed = All-append (λ (timed : Timed). timed.moment ≡ moment) p.events q.events p.timed q.timed;
  notified = subst (λ (ns : List Note). AreNotifiedOf l.core (p.events ++ q.events) (p.outcomes ++ q.outcomes) ns l'.core) (sym (notes_then came prefix back))
      (run_then l.core mid.core l'.core p.events q.events p.outcomes q.outcomes (event_notes came prefix) (event_notes (after came prefix) back) p.notified q.notified);
}

-- ---- an event

abbrev IsRead : List Note → Type 0
IsRead notes = (came : Bool) → event_notes came (map Notified notes) ≡ notes

notified_last : (cancels : List Cancel) (last : List Note) → IsRead last → IsRead (map Canceled cancels ++ last)
notified_last [] last is came = is came
notified_last (cancel ∷ cancels) last is came = ap (λ (ns : List Note). Canceled cancel ∷ ns) (notified_last cancels last is true)

notified_by : (notes : List Note) (reply : Effects) (last : List Note) → notes ≡ cancel_notes reply ++ last → IsRead last → IsRead notes
notified_by notes reply last is notified = subst IsRead (sym is) (notified_last reply.cancels.items last notified)

follows_read : (query : Bool) (now : ℕ) (old : State) (made : Dispatch) (notes : List Note) (new : State) → Follows query now old made notes new → IsRead notes
follows_read query now old dispatch.Query notes new (is, same, none) = subst IsRead (sym none) (λ came. refl)
follows_read query now old dispatch.OutOfMemory notes new (is, ready, same, one) = subst IsRead (sym one) (λ came. refl)
follows_read query now old dispatch.Idle notes new (is, made, one) = subst IsRead (sym one) (λ came. refl)
follows_read query now old dispatch.Planned notes new (is, plan, made, one) = subst IsRead (sym one) (λ came. refl)

-- all notes of the core are notes of its event
notified_back : (moment : ℕ) (event : Event) (old : State) (outcome : Outcome) (notes : List Note) (new : State) → Handles moment event old outcome notes new → IsRead notes
notified_back moment event old (Some handled) notes new it = notified_by notes handled.effects it.later it.notes_are (follows_read (is_query event) _ it.mid handled.dispatch it.later new it.follows)
notified_back moment event old None notes new (same, none, heavy) = subst IsRead (sym none) (λ came. refl)

-- the event wasn't dropped
abbrev IsKept : Outcome → Type 0
IsKept (Some handled) = Unit {0}
IsKept None = ⊥

found_notes : (outcome : Outcome) (came : Bool) (notes : List Note) → IsKept outcome → IsRead notes → event_notes came (found_by outcome ++ map Notified notes) ≡ notes
found_notes (Some handled) came notes kept is = is true
found_notes None came notes kept is = absurd kept

kept_notified : (timed : Timed) (old : State) (outcome : Outcome) (notes : List Note) (new : State) → IsKept outcome → Handles timed.moment timed.event old outcome notes new → IsNotifiedOf timed old outcome notes new
kept_notified timed old (Some handled) notes new kept it = it
kept_notified timed old None notes new kept it = absurd kept

-- an event that wasn't dropped, and the part after it
kept_then : (came : Bool) (moment : ℕ) (event : Event) (outcome : Outcome) (Q : Rel) → IsKept outcome → Quietly Q → (l : Ledger) (hs : List Happening) (l' : Ledger) → Then (Happens moment event outcome) Q l hs l' → NotifiedFrom came moment l hs l'
kept_then came moment event outcome Q kept quiet l hs l' it =
    let made = it.first.first in
    let sent = quiet_orders outcome it.first.mid it.first.back it.mid it.first.second in
    let rest = quiet it.mid it.back l' it.second in
    let core : l'.core ≡ made.state = rest.core ∙ (sent.core ∙ ap (λ (x : Ledger). x.core) made.after) in
    let first : event_notes came it.first.prefix ≡ made.notes =
    ap (event_notes came) made.notified ∙ found_notes outcome came made.notes kept (notified_back moment event l.core outcome made.notes made.state made.handles) in
    let happened : event_notes came it.prefix ≡ made.notes = ap (event_notes came) it.first.whole ∙ notes_before came it.first.prefix it.first.back made.notes first sent.silent in
    one_event came moment event outcome l hs l' made.notes
    (ap (event_notes came) it.whole ∙ notes_before came it.prefix it.back made.notes happened rest.silent)
    (kept_notified (record { event = event; moment = moment }) l.core outcome made.notes l'.core kept
    (subst (λ (s : State). Handles moment event l.core outcome made.notes s) (sym core) made.handles))

-- a dropped event changes nothing
dropped_nothing : (moment : ℕ) (event : Event) (l : Ledger) (hs : List Happening) (l' : Ledger) → Happens moment event None l hs l' → (hs ≡ []) × (l'.core ≡ l.core)
dropped_nothing moment event l hs l' it =
    let none : it.prefix ≡ [] = it.first.notified ∙ ap (λ (ns : List Note). map Notified ns) it.first.handles.1 in (
      it.whole ∙ (ap (λ (ks : List Happening). ks ++ it.back) none ∙ it.second.0),
      ap (λ (x : Ledger). x.core) it.second.1 ∙ (ap (λ (x : Ledger). x.core) it.first.after ∙ it.first.handles.0),
    )

-- the refusal of a dropped event is notified after it
dropped_then : (moment : ℕ) (event : Event) (Q : Rel) → ((l : Ledger) (hs : List Happening) (l' : Ledger) → Q l hs l' → Refuses l hs l')
    → (l : Ledger) (hs : List Happening) (l' : Ledger) → Then (Happens moment event None) Q l hs l' → NotifiedFrom true moment l hs l'
dropped_then moment event Q refuses l hs l' it =
    let none = dropped_nothing moment event l it.prefix it.mid it.first in
    let rest = refuses it.mid it.back l' it.second in
    let whole : hs ≡ Notified (Refused At.Event rest.id) ∷ rest.later = it.whole ∙ (ap (λ (ks : List Happening). ks ++ it.back) none.0 ∙ rest.whole) in
    one_event true moment event None l hs l' (Refused At.Event rest.id ∷ [])
    (ap (event_notes true) whole ∙ ap (λ (ns : List Note). Refused At.Event rest.id ∷ ns) (rest.silent true))
    (rest.id, refl, (rest.core ∙ none.1, refl, it.first.first.handles.2))

answered_then : (moment : ℕ) (event : Event) (Q : Option Effects → Rel) → ((reply : Effects) → Quietly (Q (Some reply))) → ((l : Ledger) (hs : List Happening) (l' : Ledger) → Q None l hs l' → Refuses l hs l')
    → (outcome : Outcome) (l : Ledger) (hs : List Happening) (l' : Ledger) → Then (Happens moment event outcome) (Q (effects_of outcome)) l hs l' → NotifiedFrom true moment l hs l'
answered_then moment event Q quiet refuses (Some handled) l hs l' it = kept_then true moment event (Some handled) (Q (Some handled.effects)) tt (quiet handled.effects) l hs l' it
answered_then moment event Q quiet refuses None l hs l' it = dropped_then moment event (Q None) refuses l hs l' it

-- an event that takes no memory isn't dropped
light_kept : (moment : ℕ) (event : Event) (outcome : Outcome) (l : Ledger) (hs : List Happening) (l' : Ledger) → TakesNoMemory event moment l.core → Happens moment event outcome l hs l' → IsKept outcome
light_kept moment event (Some handled) l hs l' light it = tt
light_kept moment event None l hs l' light it = it.first.handles.2 light

nothing_after : (R : Rel) (l : Ledger) (hs : List Happening) (l' : Ledger) → R l hs l' → Then R Nothing l hs l'
nothing_after R l hs l' it = record { mid = l'; prefix = hs; back = []; whole = sym (append-nil hs); first = it; second = (refl, refl) }

light_from : (came : Bool) (moment : ℕ) (event : Event) → ((s : State) → TakesNoMemory event moment s) → (l : Ledger) (hs : List Happening) (l' : Ledger) → Unanswered moment event l hs l' → NotifiedFrom came moment l hs l'
light_from came moment event light l hs l' (outcome, it) =
    kept_then came moment event outcome Nothing (light_kept moment event outcome l hs l' (light l.core) it) quiet_nothing l hs l' (nothing_after (Happens moment event outcome) l hs l' it)

-- ---- parts of an action

module _ (moment : ℕ) where
  -- whatever came before
  abbrev Within : Rel → Type 0
  Within R = (l : Ledger) (hs : List Happening) (l' : Ledger) → R l hs l' → (came : Bool) → NotifiedFrom came moment l hs l'

  quietly_in : {R : Rel} → Quietly R → Within R
  quietly_in quiet l hs l' it came = let stays = quiet l hs l' it in no_event came moment l hs l' stays.core (stays.silent came)

  then_in : {R S : Rel} → Within R → Within S → Within (Then R S)
  then_in f g l hs l' it came =
      subst (λ (ks : List Happening). NotifiedFrom came moment l ks l') (sym it.whole) (from_then came moment l it.prefix it.mid it.back l' (f l it.prefix it.mid it.first came) (g it.mid it.back l' it.second (after came it.prefix)))

  abbrev IsParsed : Ledger → List Happening → Ledger → Type 0
  IsParsed l hs l' = (came : Bool) → NotifiedFrom came moment l hs l'

  or_in : {R S : Rel} → Within R → Within S → Within (Or R S)
  or_in {R} {S} = or_within IsParsed R S

  if_in : (test : Bool) (R S : Rel) → Within R → Within S → Within (If test R S)
  if_in = if_within IsParsed

  nothing_in : Within Nothing
  nothing_in = quietly_in quiet_nothing

  joins_in : (R S : Rel) → Within R → Within S → Within (Then R S)
  joins_in R S = then_in {R = R} {S = S}

  many_in : (R : Rel) → Within R → Within (Many R)
  many_in = many_within IsParsed nothing_in joins_in

  each_in : (n : ℕ) (R : ℕ → Rel) → ((i : ℕ) → Within (R i)) → Within (Each n R)
  each_in = each_within IsParsed nothing_in joins_in

  polls_in : (poll : Poll) → Within (Polls poll)
  polls_in poll = quietly_in (quiet_polls poll)

  chooses_in : (choice : Choice) → Within (Chooses choice)
  chooses_in choice = quietly_in (quiet_choice choice)

  sets_in : (key : ℕ) (e : Entry) → Within (Sets key e)
  sets_in key e = quietly_in (quiet_sets key e)

  -- ---- events that take no memory

  reported_in : (device : ℕ) (report : Report) → Within (Unanswered moment (Is.Report device report))
  reported_in device report l hs l' it came = light_from came moment (Is.Report device report) (λ s. tt) l hs l' it

  tick_in : Within (Unanswered moment Is.Tick)
  tick_in l hs l' it came = light_from came moment Is.Tick (λ s. tt) l hs l' it

  notes_in : (now : ℕ) → Within (Between.Notes now)
  notes_in now l hs l' it = quietly_in {R = Between.Notes now} (λ a ks b is. quiet_by [] (record a { ticked = Some now }) a ks b (λ came. refl) refl is) l hs l' it

  ticks_in : Within (Ticks moment)
  ticks_in l hs l' it = then_in (notes_in _) tick_in l hs l' it

  -- ---- closings

  gone_in : (device : Option ℕ) → Within (Closing.IsGone moment device)
  gone_in None = nothing_in
  gone_in (Some device) = reported_in device reported.Gone

  leaves_in : (fate : Fate) (key : ℕ) (e : Entry) → Within (Leaves fate key e)
  leaves_in fate key e l hs l' it came = no_event came moment l hs l' (ap (λ (x : Ledger). x.core) it.2) (ap (event_notes came) it.0)

  closes_in : (fate : Fate) (key : ℕ) (e : Entry) → Within (ClosesAs moment fate key e)
  closes_in fate key e = then_in (leaves_in fate key e) (gone_in (device_of e.progress))

  closes_first_in : Within (ClosesFirst moment)
  closes_first_in l hs l' it = closes_in Broken it.key it.entry l hs l' it.closes

  closes_broken_in : Within (ClosesBroken moment)
  closes_broken_in l hs l' it = many_in (ClosesFirst moment) closes_first_in l hs l' it.0

  fails_in : (key : ℕ) → Within (Fails moment key)
  fails_in key = then_in (quietly_in (quiet_breaks key)) closes_broken_in

  -- ---- devices that say their names

  notifies_in : (device : ℕ) (parsed : ReportRecord) → Within (Hello.ReportComes moment device parsed)
  notifies_in device parsed l hs l' (report, is, it) = reported_in device report l hs l' it

  gives_way_at_in : (key : ℕ) (o : Option Entry) → Within (Hello.IsSupersededAt key o)
  gives_way_at_in key None = nothing_in
  gives_way_at_in key (Some e) = sets_in key (superseded_entry e)

  gives_way_in : (key : ℕ) → Within (Hello.IsSuperseded key)
  gives_way_in key l hs l' it = gives_way_at_in key (l.entries key) l hs l' it

  turned_away_in : (id : ℕ) (reason : DeviceRefusal) → Within (Notifies (DeviceRefused id reason))
  turned_away_in id reason = quietly_in (quiet_notifies (DeviceRefused id reason) (λ came. refl))

  greets_in : (key id device : ℕ) (name : List ℕ) → Within (Hello.HandlesHello moment key id device name)
  greets_in key id device name l hs l' (inl (absent, it)) = reported_in device (reported.Hello name) l hs l' it
  greets_in key id device name l hs l' (inr (inl (other, ended, it))) = then_in (gives_way_in other) (then_in (gone_in (Some device)) (reported_in device (reported.Hello name))) l hs l' it
  greets_in key id device name l hs l' (inr (inr (other, is, it))) = then_in (gives_way_in key) (turned_away_in id (why.Connected device)) l hs l' it

  -- ---- the asks of a connection

  -- a request that could not be read is no event, though its refusal is notified as an event's refusal is
  unread_from : (l : Ledger) (hs : List Happening) (l' : Ledger) → Refuses l hs l' → NotifiedFrom false moment l hs l'
  unread_from l hs l' it = no_event false moment l hs l' it.core (ap (event_notes false) it.whole ∙ it.silent true)

  lost_from : (part : Part) (key id : ℕ) (taken : Option ℕ) (l : Ledger) (hs : List Happening) (l' : Ledger) → Answering.Declines (Acting.place_of_part part) key id l hs l' → NotifiedFrom (brings_event (Chosen (Asked taken (lost_of (ask.Lost part))))) moment l hs l'
  lost_from part.File key id taken l hs l' it = quietly_in (quiet_then (quiet_notifies (Refused At.File (Some id)) (λ came. refl)) (quiet_enqueues key (1 ∷ []))) l hs l' it true
  lost_from part.Job key id taken l hs l' it = unread_from l hs l' (refuses_then (Some id) (Enqueues key (1 ∷ [])) (quiet_enqueues key (1 ∷ [])) l hs l' it)

  broke_in : (growth : AllocFailure) (id : ℕ) → Within (Notifies (Refused (Acting.place_of growth) (Some id)))
  broke_in growth.Input id = quietly_in (quiet_notifies (Refused At.Feed (Some id)) (λ came. refl))
  broke_in growth.Output id = quietly_in (quiet_notifies (Refused At.Enqueue (Some id)) (λ came. refl))

  client_from : (key id : ℕ) (who : Client) (event : Event) (l : Ledger) (hs : List Happening) (l' : Ledger) → Answering.IsAnswered moment key id who event l hs l' → NotifiedFrom true moment l hs l'
  client_from key id who event l hs l' (outcome, it) = answered_then moment event (Answering.Answers key id who (is_query event)) (client_notified key id who (is_query event)) (client_refused key id who (is_query event)) outcome l hs l' it

  -- the mark of an ask says whether an event may come of it
  acts_from : (key id : ℕ) (what : Ask) (taken : Option ℕ) (l : Ledger) (hs : List Happening) (l' : Ledger) → Acting.ActsOn moment key id what l hs l' → NotifiedFrom (brings_event (Chosen (Asked taken (lost_of what)))) moment l hs l'
  acts_from key id ask.Nothing taken l hs l' it = nothing_in l hs l' it true
  acts_from key id (ask.Broke growth) taken l hs l' it = broke_in growth id l hs l' it true
  acts_from key id (ask.Event who event) taken l hs l' it = client_from key id who event l hs l' it
  acts_from key id (ask.Unread request) taken l hs l' it = unread_from l hs l' (refuses_then (Some id) (EnqueuesStatus key TemporaryError request) (quiet_status key TemporaryError request) l hs l' it)
  acts_from key id (ask.Lost part) taken l hs l' it = lost_from part key id taken l hs l' it
  acts_from key id (ask.Hello device name) taken l hs l' it = greets_in key id device name l hs l' it true
  acts_from key id (ask.Report device report) taken l hs l' it = reported_in device report l hs l' it true
  acts_from key id (ask.UnknownDevice name) taken l hs l' it = turned_away_in id (why.UnknownName name) l hs l' it true
  acts_from key id (ask.Fault device) taken l hs l' it = turned_away_in id (why.Fault device) l hs l' it true

  acts_next_in : (key : ℕ) → Within (Acting.ActsNext moment key)
  acts_next_in key l hs l' (id, what, it) came =
      let mark : Happening = Chosen (Asked (part_of it.first.asks) (lost_of what)) in
      let whole : hs ≡ (mark ∷ []) ++ it.back = it.whole ∙ ap (λ (ks : List Happening). ks ++ it.back) it.first.chosen in
      let asked : NotifiedFrom came moment l (mark ∷ []) it.mid = no_event came moment l (mark ∷ []) it.mid (ap (λ (x : Ledger). x.core) it.first.after) refl in
      subst (λ (ks : List Happening). NotifiedFrom came moment l ks l') (sym whole)
      (from_then came moment l (mark ∷ []) it.mid it.back l' asked (acts_from key id what (part_of it.first.asks) it.mid it.back l' it.second))

  -- ---- reads

  serves_in : (key : ℕ) → Within (Serves moment key)
  serves_in key l hs l' it = then_in (many_in (Acts moment key) (then_in (acts_next_in key) closes_broken_in)) (chooses_in Rested) l hs l' it.0

  fed_whole_in : (key : ℕ) (e : Entry) (bytes : List ℕ) → Within (FedWhole moment key e bytes)
  fed_whole_in key e bytes = or_in (then_in (sets_in key (reading bytes e)) (serves_in key)) (then_in (quietly_in (quiet_drops At.Feed key e (λ came. refl))) closes_broken_in)

  fed_in : (key : ℕ) (e : Entry) (bytes : List ℕ) → Within (FedOpen moment key e bytes)
  fed_in key e bytes = if_in e.draining (Sets key e) (FedWhole moment key e bytes) (sets_in key e) (fed_whole_in key e bytes)

  feeds_at_in : (key : ℕ) (bytes : List ℕ) (o : Option Entry) → Within (FeedsAt moment key bytes o)
  feeds_at_in key bytes None = nothing_in
  feeds_at_in key bytes (Some e) = fed_in key e bytes

  feeds_one_in : (key : ℕ) (bytes : List ℕ) → Within (FeedsOne moment key bytes)
  feeds_one_in key bytes l hs l' it = feeds_at_in key bytes (l.entries key) l hs l' it

  reads_as_in : (key : ℕ) (e : Entry) (answer : Progress (List ℕ)) → Within (ReadsAs moment key e answer)
  reads_as_in key e (wire.Done bytes) = then_in (polls_in (Reads e.id (wire.Done bytes))) (feeds_one_in key bytes)
  reads_as_in key e wire.Waiting = polls_in (Reads e.id wire.Waiting)
  reads_as_in key e wire.End = then_in (polls_in (Reads e.id wire.End)) (sets_in key (record e { ended = true }))
  reads_as_in key e wire.Fault = then_in (polls_in (Reads e.id wire.Fault)) (fails_in key)

  reads_at_in : (key : ℕ) (o : Option Entry) → Within (ReadsAt moment key o)
  reads_at_in key None = nothing_in
  reads_at_in key (Some e) = if_in (is_read e) (ReadsOpen moment key e) Nothing (λ l hs l' it. reads_as_in key e it.0 l hs l' it.2) nothing_in

  reads_one_in : (key : ℕ) → Within (ReadsOne moment key)
  reads_one_in key l hs l' it = reads_at_in key (l.entries key) l hs l' it

  -- ---- writes

  writes_as_in : (key : ℕ) (e : Entry) (offered : List ℕ) (answer : Progress ℕ) → Within (WritesAs moment key e offered answer)
  writes_as_in key e offered (wire.Done n) = then_in (polls_in (Writes e.id offered (wire.Done n))) (sets_in key (record e { taken = e.taken ++ take n offered }))
  writes_as_in key e offered wire.Waiting = polls_in (Writes e.id offered wire.Waiting)
  writes_as_in key e offered wire.End = then_in (polls_in (Writes e.id offered wire.End)) (fails_in key)
  writes_as_in key e offered wire.Fault = then_in (polls_in (Writes e.id offered wire.Fault)) (fails_in key)

  writes_at_in : (key : ℕ) (o : Option Entry) → Within (WritesAt moment key o)
  writes_at_in key None = nothing_in
  writes_at_in key (Some e) = if_in (nat_lt 0 (length (waiting e))) (WritesOpen moment key e) Nothing (λ l hs l' (offered, is, answer, it). writes_as_in key e offered answer l hs l' it) nothing_in

  writes_one_in : (key : ℕ) → Within (WritesOne moment key)
  writes_one_in key l hs l' it = writes_at_in key (l.entries key) l hs l' it

  -- ---- the other parts of a turn

  ends_at_in : (key : ℕ) (o : Option Entry) → Within (EndsAt moment key o)
  ends_at_in key None = nothing_in
  ends_at_in key (Some e) = if_in (is_done e) (Then (ClosesAs moment Drained key e) (ClosesBroken moment)) Nothing (then_in (closes_in Drained key e) closes_broken_in) nothing_in

  ends_one_in : (key : ℕ) → Within (EndsOne moment key)
  ends_one_in key l hs l' it = ends_at_in key (l.entries key) l hs l' it

  opens_in : (door : Door) (id : ℕ) → Within (Opens door id)
  opens_in door id l hs l' (inl (key, free, none, same)) came = no_event came moment l hs l' (ap (λ (x : Ledger). x.core) same) (ap (event_notes came) none)
  opens_in door id l hs l' (inr it) came = no_event came moment l hs l' (ap (λ (x : Ledger). x.core) it.1) (ap (event_notes came) it.0)

  accepts_as_in : (door : Door) (answer : Progress ℕ) → Within (AcceptsAs door answer)
  accepts_as_in door (wire.Done id) = then_in (polls_in (Accepts door (wire.Done id))) (opens_in door id)
  accepts_as_in door wire.Waiting = polls_in (Accepts door wire.Waiting)
  accepts_as_in door wire.End = polls_in (Accepts door wire.End)
  accepts_as_in door wire.Fault = polls_in (Accepts door wire.Fault)

  accepts_in : (door : Door) → Within (AcceptsAt door)
  accepts_in door l hs l' it = if_in (nat_lt l.count CONNECTIONS) (AcceptsOne door) Nothing (λ a ks b (answer, is). accepts_as_in door answer a ks b is) nothing_in l hs l' it

  tick_due_in : Within (TicksIfDue moment)
  tick_due_in l hs l' it = if_in (is_tick_due moment l) (Then (Ticks moment) (ClosesBroken moment)) Nothing (then_in ticks_in closes_broken_in) nothing_in l hs l' it

  round_in : Within (Round moment)
  round_in l hs l' (n, it) =
      then_in {R = Covers n} (λ a ks b is. chooses_in (Looked n) a ks b is.1)
      (then_in (each_in n (ReadsOne moment) reads_one_in) (then_in (each_in n (WritesOne moment) writes_one_in) (each_in n (EndsOne moment) ends_one_in)))
      l hs l' it

  turn_in : Within (Turn moment)
  turn_in = then_in closes_broken_in (then_in tick_due_in (then_in (accepts_in Ipp) (then_in (accepts_in Lpd) (then_in (accepts_in Devices) round_in))))

  -- ---- calls between turns

  body_from : (asked : ParsedRequest) (served : Between.Outcome) (l : Ledger) (hs : List Happening) (l' : Ledger) → Between.BodyAsks moment asked served l hs l' → NotifiedFrom true moment l hs l'
  body_from asks.TooShort served l hs l' (is, it) = nothing_in l hs l' it true
  body_from (asks.Refused status request) served l hs l' (is, it) = or_in (chooses_in Found) (quietly_in (quiet_notifies (Refused At.Reply None) (λ came. refl))) l hs l' it true
  body_from (asks.Event request event) served l hs l' (bytes, is, (outcome, it)) =
      answered_then moment event (λ reply. Between.Answers request reply bytes) (body_notified request bytes) (λ a ks b notified. refuses_alone None a ks b notified) outcome l hs l' it

  body_comes : (body : List ℕ) (served : Between.Outcome) (l : Ledger) (hs : List Happening) (l' : Ledger) → Between.BodyComes moment body served l hs l' → NotifiedFrom false moment l hs l'
  body_comes body served l hs l' (inl (asked, is, it)) =
      let mark : Happening = Chosen Found in
      let whole : hs ≡ (mark ∷ []) ++ it.back = it.whole ∙ ap (λ (ks : List Happening). ks ++ it.back) it.first.0 in
      let found : NotifiedFrom false moment l (mark ∷ []) it.mid = no_event false moment l (mark ∷ []) it.mid (ap (λ (x : Ledger). x.core) it.first.1) refl in
      subst (λ (ks : List Happening). NotifiedFrom false moment l ks l') (sym whole)
      (from_then false moment l (mark ∷ []) it.mid it.back l' found (body_from asked served it.mid it.back l' it.second))
  body_comes body served l hs l' (inr it) = unread_from l hs l' (refuses_alone None l hs l' it)

-- an action is a run of events, of which it notifies
action_notified : (action : Action) (l l' : Ledger) → DoesAction action l l' → NotifiedFrom (begins_event action) (moment_of action) l (happenings_of action) l'
action_notified (Turned moment hs) l l' it = turn_in moment l hs l' it true
action_notified (Served_body moment body answer hs) l l' (served, is, it) = body_comes moment body served l hs l' it
action_notified (Reported moment device parsed hs) l l' it = notifies_in moment device parsed l hs l' it true
action_notified (Ticked moment hs) l l' it = ticks_in moment l hs l' it true

-- ---- a trace

record TraceNotified (trace : Trace) (old new : State) : Type 0 where
  events : List Timed
  outcomes : List Outcome
  timed : AreEventsOf trace events
  notified : AreNotifiedOf old events outcomes (events_notified trace) new

trace_notified : (trace : Trace) (old new : Ledger) → Runs trace old new → TraceNotified trace old.core new.core
trace_notified [] old new same = record { events = []; outcomes = []; timed = refl; notified = (ap (λ (x : Ledger). x.core) same, refl) }
trace_notified (action ∷ actions) old new (mid, does, runs) =
    let first = action_notified action old mid does in
    let later = trace_notified actions mid new runs in
    record {
      events = first.events ++ later.events;
      outcomes = first.outcomes ++ later.outcomes;
      timed = (first.events, later.events, refl, first.timed, later.timed);
      notified = run_then old.core mid.core new.core first.events later.events first.outcomes later.outcomes (event_notes (begins_event action) (happenings_of action)) (events_notified actions) first.notified later.notified;
    }

-- ---- that is the one run of the core

-- the core's note of a happening is a note of an event
note_core : (came : Bool) (h : Happening) → core_notes (map Notified (event_note came h)) ≡ core_note h
note_core came (Notified (Planned plan started)) = refl
note_core came (Notified (Canceled cancel)) = refl
note_core came (Notified (DeviceRefused id reason)) = refl
note_core true (Notified (Refused At.Event id)) = refl
note_core false (Notified (Refused At.Event id)) = refl
note_core came (Notified (Refused At.Accept id)) = refl
note_core came (Notified (Refused At.Feed id)) = refl
note_core came (Notified (Refused At.File id)) = refl
note_core came (Notified (Refused At.Dispatch id)) = refl
note_core came (Notified (Refused At.Reply id)) = refl
note_core came (Notified (Refused At.Enqueue id)) = refl
note_core came (Polled poll) = refl
note_core came (Chosen choice) = refl

notified_append : (ms ns : List Note) → core_notes (map Notified (ms ++ ns)) ≡ core_notes (map Notified ms) ++ core_notes (map Notified ns)
notified_append ms ns = ap core_notes (map-append Notified ms ns) ∙ notes_append (map Notified ms) (map Notified ns)

both_parts : (a b c d : List Note) → a ≡ c → b ≡ d → a ++ b ≡ c ++ d
both_parts a b c d p q = ap (λ (ns : List Note). ns ++ b) p ∙ ap (λ (ns : List Note). c ++ ns) q

notes_core : (came : Bool) (hs : List Happening) → core_notes (map Notified (event_notes came hs)) ≡ core_notes hs
notes_core came [] = refl
notes_core came (h ∷ hs) =
    notified_append (event_note came h) (event_notes (brings_event h) hs)
    ∙ both_parts (core_notes (map Notified (event_note came h))) (core_notes (map Notified (event_notes (brings_event h) hs))) (core_note h) (core_notes hs) (note_core came h) (notes_core (brings_event h) hs)

trace_core : (trace : Trace) → core_notes (map Notified (events_notified trace)) ≡ core_notes (happenings_in trace)
trace_core [] = refl
trace_core (action ∷ actions) =
    notified_append (event_notes (begins_event action) (happenings_of action)) (events_notified actions)
    ∙ (both_parts (core_notes (map Notified (event_notes (begins_event action) (happenings_of action)))) (core_notes (map Notified (events_notified actions))) (core_notes (happenings_of action)) (core_notes (happenings_in actions)) (notes_core (begins_event action) (happenings_of action)) (trace_core actions)
    ∙ sym (notes_append (happenings_of action) (happenings_in actions)))

-- of one event
handled_core : (timed : Timed) (old : State) (outcome : Outcome) (notified : List Note) (new : State) → IsNotifiedOf timed old outcome notified new → Handles timed.moment timed.event old outcome (core_notes (map Notified notified)) new
handled_core timed old (Some handled) notified new it =
    subst (λ (ns : List Note). Handles timed.moment timed.event old (Some handled) ns new)
    (sym (notified_all core_note (λ cancel. refl) (λ plan started. refl) refl timed.moment timed.event old (Some handled) notified new it)) it
handled_core timed old None notified new (id, is, it) = subst (λ (ns : List Note). Handles timed.moment timed.event old None ns new) (sym (ap (λ (ns : List Note). core_notes (map Notified ns)) is)) it

collected : (before notes : List Note) → Leads Collects before notes (before ++ notes)
collected before [] = append-nil before
collected before (note ∷ notes) = (before ++ note ∷ [], refl, subst (λ (ns : List Note). Leads Collects (before ++ note ∷ []) notes ns) (append_assoc before (note ∷ []) notes) (collected (before ++ note ∷ []) notes))

runs_core : (before : List Note) (old : State) (events : List Timed) (outcomes : List Outcome) (notified : List Note) (new : State) → AreNotifiedOf old events outcomes notified new → Run Collects old before events outcomes new (before ++ core_notes (map Notified notified))
runs_core before old [] [] notified new (same, none) = (same, ap (λ (ns : List Note). before ++ core_notes (map Notified ns)) none ∙ append-nil before)
runs_core before old (timed ∷ events) (outcome ∷ outcomes) notified new (mid, first, later, is, comes, rest) =
    let here : List Note = core_notes (map Notified first) in
    let there : List Note = core_notes (map Notified later) in
    let whole : (before ++ here) ++ there ≡ before ++ core_notes (map Notified notified) =
    append_assoc before here there ∙ ap (λ (ns : List Note). before ++ ns) (sym (ap (λ (ns : List Note). core_notes (map Notified ns)) is ∙ notified_append first later)) in (
      mid,
      before ++ here,
      (here, handled_core timed old outcome first mid comes, collected before here),
      subst (λ (ns : List Note). Run Collects mid (before ++ here) events outcomes new ns) whole (runs_core (before ++ here) mid events outcomes later new rest),
    )
runs_core before old [] (outcome ∷ outcomes) notified new none = absurd none
runs_core before old (timed ∷ events) [] notified new none = absurd none

-- ---- where no growth was refused

one_refusal : (came : Bool) (h : Happening) (hs : List Happening) (rest : List Note) → has_refusal (h ∷ hs) ≡ false → has_refusal (map Notified rest) ≡ false → has_refusal (map Notified (event_note came h ++ rest)) ≡ false
one_refusal came (Notified (Planned plan started)) hs rest none is = is
one_refusal came (Notified (Canceled cancel)) hs rest none is = is
one_refusal came (Notified (DeviceRefused id reason)) hs rest none is = is
one_refusal came (Notified (Refused place id)) hs rest none is = let both : true ≡ false = none in absurd (cc)
one_refusal came (Polled poll) hs rest none is = is
one_refusal came (Chosen choice) hs rest none is = is

notes_free : (came : Bool) (hs : List Happening) → has_refusal hs ≡ false → has_refusal (map Notified (event_notes came hs)) ≡ false
notes_free came [] none = refl
notes_free came (h ∷ hs) none = one_refusal came h hs (event_notes (brings_event h) hs) none (notes_free (brings_event h) hs (none_after (h ∷ hs) (h ∷ []) hs refl none))

free_append : (ms ns : List Note) → has_refusal (map Notified ms) ≡ false → has_refusal (map Notified ns) ≡ false → has_refusal (map Notified (ms ++ ns)) ≡ false
free_append ms ns p q =
    ap has_refusal (map-append Notified ms ns) ∙ (refusals_append (map Notified ms) (map Notified ns) ∙ (ap (λ (t : Bool). t || has_refusal (map Notified ns)) p ∙ q))

trace_free : (trace : Trace) → has_refusal (happenings_in trace) ≡ false → has_refusal (map Notified (events_notified trace)) ≡ false
trace_free [] none = refl
trace_free (action ∷ actions) none =
    free_append (event_notes (begins_event action) (happenings_of action)) (events_notified actions)
    (notes_free (begins_event action) (happenings_of action) (none_before (happenings_of action ++ happenings_in actions) (happenings_of action) (happenings_in actions) refl none))
    (trace_free actions (none_after (happenings_of action ++ happenings_in actions) (happenings_of action) (happenings_in actions) refl none))

event_whole : (timed : Timed) (old : State) (outcome : Outcome) (notified : List Note) (new : State) → IsNotifiedOf timed old outcome notified new → has_refusal (map Notified notified) ≡ false → IsWhole outcome
event_whole timed old (Some handled) notified new it none = sym (refused_of timed.moment timed.event old (Some handled) notified new it) ∙ none
event_whole timed old None notified new (id, is, it) none = never (has_refusal (map Notified notified)) (ap (λ (ns : List Note). has_refusal (map Notified ns)) is) none

runs_whole : (old : State) (events : List Timed) (outcomes : List Outcome) (notified : List Note) (new : State) → AreNotifiedOf old events outcomes notified new → has_refusal (map Notified notified) ≡ false → All IsWhole outcomes
runs_whole old [] [] notified new it none = All-nil IsWhole
runs_whole old (timed ∷ events) (outcome ∷ outcomes) notified new (mid, first, later, is, comes, rest) none =
    let whole : map Notified notified ≡ map Notified first ++ map Notified later = ap (λ (ns : List Note). map Notified ns) is ∙ map-append Notified first later in
    All-cons IsWhole outcome outcomes (event_whole timed old outcome first mid comes (none_before (map Notified notified) (map Notified first) (map Notified later) whole none))
    (runs_whole mid events outcomes later new rest (none_after (map Notified notified) (map Notified first) (map Notified later) whole none))
runs_whole old [] (outcome ∷ outcomes) notified new it none = absurd it
runs_whole old (timed ∷ events) [] notified new it none = absurd it

-- ---- the law

pub notifies_dropped : (trace : Trace) (old new : Ledger) → Runs trace old new → NotifiesDropped trace old.core new.core
notifies_dropped trace old new runs =
    let it = trace_notified trace old new runs in
    record {
      one = record {
        events = it.events;
        outcomes = it.outcomes;
        timed = it.timed;
        run = subst (λ (ns : List Note). Run Collects old.core [] it.events it.outcomes new.core ns) (trace_core trace) (runs_core [] old.core it.events it.outcomes (events_notified trace) new.core it.notified);
        whole = λ none. runs_whole old.core it.events it.outcomes (events_notified trace) new.core it.notified (trace_free trace none);
      };
      notified = it.notified;
    }
