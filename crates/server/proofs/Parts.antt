-- The parts of actions: events, closings, and calm parts, which change neither the core nor the closed connections.
use Rattle.std.proofs.Common.{◌≡◌, ℕ, zero, suc, Bool, true, false, List, [], ◌∷◌, ◌++◌, refl, sym, ◌∙◌, ap, subst, Option, Some, None, inl, inr}
use Rattle.std.specs.Prelude.{nat_lt, length, take}
use Rattle.base_types.specs.declared.limits.TheConstants.Limits.{CONNECTIONS}
use Rattle.base_types.specs.declared.report.Report.{Report}
use Rattle.base_types.specs.declared.report.Report.TheVariants as reported
use Rattle.base_types.specs.Report.{ReportRecord}
use Rattle.print_room.specs.State.{State}
use Rattle.events.specs.declared.event.Event.{Event}
use Rattle.events.specs.declared.event.Event.TheVariants as Is
use Rattle.events.specs.declared.effects.Response.{Response}
use Rattle.events.specs.declared.effects.Response.TheVariants as answered
use Rattle.events.specs.declared.effects.LpdResponse.{LpdResponse}
use Rattle.events.specs.declared.effects.LpdResponse.TheVariants as shown
use Rattle.events.specs.declared.effects.Effects.{Effects}
use Rattle.events.specs.declared.status.Status.{Status}
use Rattle.events.specs.declared.status.Status.TheVariants.{TemporaryError}
use Rattle.events.specs.Event.{is_query}
use Rattle.dispatcher.specs.declared.observer.DeviceRefusal.{DeviceRefusal}
use Rattle.dispatcher.specs.declared.observer.DeviceRefusal.TheVariants as why
use Rattle.dispatcher.specs.declared.observer.AllocationSite.{AllocationSite}
use Rattle.dispatcher.specs.declared.observer.AllocationSite.TheVariants as At
use Rattle.dispatcher.specs.Notes.{Note, DeviceRefused, Refused}
use Rattle.dispatcher.specs.Run.{Outcome, effects_of, Handles}
use Rattle.ipp_operations.specs.declared.parsed_request.ParsedRequest.{ParsedRequest}
use Rattle.ipp_operations.specs.declared.parsed_request.ParsedRequest.TheVariants as asks
use Rattle.ipp_operations.specs.QueueText.{ack_of, text_of}
use Rattle.connections.specs.Reply.{http_reply}
use Rattle.wires.specs.Poll.{Poll, Accepts, Reads, Writes, Closes}
use Rattle.wires.specs.declared.wire.Progress.TheVariants as wire
use Rattle.wires.specs.declared.wire.Progress.{Progress as WireAnswer}
use Rattle.wires.specs.declared.wire.Door.{Door}
use Rattle.wires.specs.declared.wire.Door.TheVariants.{Ipp, Lpd, Devices}
use Rattle.connections.specs.declared.ask.Ask.{Ask}
use Rattle.connections.specs.declared.ask.Ask.TheVariants as ask
use Rattle.connections.specs.declared.ask.Client.{Client}
use Rattle.connections.specs.declared.ask.Client.TheVariants as client
use Rattle.connections.specs.declared.ask.AllocFailure.{AllocFailure}
use Rattle.connections.specs.declared.ask.AllocFailure.TheVariants as growth
use Rattle.connections.specs.declared.ask.Part.{Part}
use Rattle.connections.specs.declared.ask.Part.TheVariants as part
use Rattle.connections.specs.Entry.{Entry, opening_entry, device_of, closes_of, superseded_entry, reading, waiting}
use Rattle.connections.specs.Steps.{http_status}
use Rattle.connections.specs.Choice.{part_of, lost_of}
use Rattle.server.specs.Polls.{Happening, Polled, Notified, Choice, Found, Opened, Rested, Looked, Chosen}
use Rattle.server.specs.Polls as As
use Rattle.server.specs.Ledger.{Ledger, Fate, Drained, Broken, with_entry, with_new}
use Rattle.server.specs.Rel.{Rel, Nothing, Polls, Notifies, Chooses, Then, If, Or, Times, Many, Each}
use Rattle.server.specs.Enqueuing.{Sets, Breaks, Enqueues, EnqueuesReplyAt, EnqueuesResponse, EnqueuesStatus}
use Rattle.server.specs.Happening.{Happens, Unanswered}
use Rattle.server.specs.Closing as Closing
use Rattle.server.specs.Closing.{Leaves, ClosesAs, ClosesFirst, ClosesBroken}
use Rattle.server.specs.Answering as Answering
use Rattle.server.specs.Hello as Hello
use Rattle.server.specs.Acting as Acting
use Rattle.server.specs.Polling.{Opens, AcceptsAs, AcceptsOne, AcceptsAt, Acts, Serves, FedWhole, FedOpen, FeedsAt, FeedsOne, Fails, ReadsAs, ReadsOpen, ReadsAt, is_read, ReadsOne, WritesAs, WritesOpen, WritesAt, WritesOne, is_done, EndsAt, EndsOne}
use Rattle.server.specs.Turn as Between
use Rattle.server.specs.Turn.{Ticks, is_tick_due, TicksIfDue, Covers, Round, Turn, has_refusal, Action, Turned, Served_body, Reported, Ticked, DoesAction}
use Rattle.server.specs.Law.{core_notes, IsWhole, moment_of, happenings_of}
use Rattle.server.proofs.LaterNotes.{only_notes, Calmly, calm_nothing, calm_choice, calm_then, calm_if, calm_or, calm_refusal, calm_sets, calm_drops, calm_breaks, calm_enqueues, IsOther, Happened, happened_notes, happened, happened_then, whole_light, whole_notified}

-- the core and the closed connections are unchanged, and there is no note of the core
pub record IsCalm (l : Ledger) (hs : List Happening) (l' : Ledger) : Type 0 where
  pub core : l'.core ≡ l.core
  pub closed : l'.closed ≡ l.closed
  pub notes : core_notes hs ≡ []

-- one event comes
pub record IsEvent (moment : ℕ) (l : Ledger) (hs : List Happening) (l' : Ledger) : Type 0 where
  pub event : Event
  pub outcome : Outcome
  pub handled : Handles moment event l.core outcome (core_notes hs) l'.core
  pub closed : l'.closed ≡ l.closed
  pub whole : has_refusal hs ≡ false → IsWhole outcome

-- P holds for each part of an action, and for parts one after the other
pub record Holds (moment : ℕ) (P : Rel) : Type 0 where
  pub calm : (l : Ledger) (hs : List Happening) (l' : Ledger) → IsCalm l hs l' → P l hs l'
  pub event : (l : Ledger) (hs : List Happening) (l' : Ledger) → IsEvent moment l hs l' → P l hs l'
  pub leaves : (fate : Fate) (key : ℕ) (e : Entry) (l : Ledger) (hs : List Happening) (l' : Ledger) → Leaves fate key e l hs l' → P l hs l'
  pub chain : (l : Ledger) (prefix : List Happening) (mid : Ledger) (back : List Happening) (l' : Ledger) → P l prefix mid → P mid back l' → P l (prefix ++ back) l'

abbrev pub Within : Rel → Rel → Type 0
Within P R = (l : Ledger) (hs : List Happening) (l' : Ledger) → R l hs l' → P l hs l'

calmly : (R : Rel) → Calmly R → Within IsCalm R
calmly R calm l hs l' it = let stays = calm l hs l' it in record { core = stays.core; closed = stays.closed; notes = only_notes hs stays.only }

calm_as : (ks : List Happening) (m l : Ledger) (hs : List Happening) (l' : Ledger) → core_notes ks ≡ [] → m.core ≡ l.core → m.closed ≡ l.closed → (hs ≡ ks) × (l' ≡ m) → IsCalm l hs l'
calm_as ks m l hs l' notes core closed (is, after) = record {
  core = ap (λ (x : Ledger). x.core) after ∙ core;
  closed = ap (λ (x : Ledger). x.closed) after ∙ closed;
  notes = ap core_notes is ∙ notes;
}

event_as : (moment : ℕ) (event : Event) (outcome : Outcome) (l : Ledger) (hs : List Happening) (l' : Ledger) → (has_refusal hs ≡ false → IsWhole outcome) → Happened moment event outcome l hs l' → IsEvent moment l hs l'
event_as moment event outcome l hs l' whole it = record {
  event = event;
  outcome = outcome;
  handled = subst (λ (notes : List Note). Handles moment event l.core outcome notes l'.core) (sym (happened_notes moment event outcome l hs l' it)) it.handled;
  closed = it.closed;
  whole = whole;
}

-- the moment of the last tick is set, and then the event of the tick comes
pub ticked : (moment : ℕ) (l : Ledger) (hs : List Happening) (l' : Ledger) → Ticks moment l hs l' → (outcome : Outcome) × Happened moment Is.Tick outcome l hs l'
ticked moment l hs l' it =
    let came = happened moment Is.Tick it.second.0 it.mid it.back l' it.second.1 in
    let core : it.mid.core ≡ l.core = ap (λ (x : Ledger). x.core) it.first.1 in (
      it.second.0,
      record {
        notes = came.notes;
        later = came.later;
        handled = subst (λ (s : State). Handles moment Is.Tick s it.second.0 came.notes l'.core) core came.handled;
        closed = came.closed ∙ ap (λ (x : Ledger). x.closed) it.first.1;
        whole = it.whole ∙ (ap (λ (ks : List Happening). ks ++ it.back) it.first.0 ∙ came.whole);
        only = came.only;
      },
    )

-- ---- replies

pub calm_answers : (request : ℕ) (reply : Option Effects) (bytes : List ℕ) → Calmly (Between.Answers request reply bytes)
calm_answers request (Some reply) bytes l hs l' (inl (are, it)) = calm_choice Found l hs l' it
calm_answers request (Some reply) bytes l hs l' (inr it) = calm_refusal At.Reply None refl l hs l' it
calm_answers request None bytes l hs l' it = calm_refusal At.Event None refl l hs l' it

calm_reply_at : (bytes : Bool → List ℕ) (key : ℕ) (o : Option Entry) → Calmly (EnqueuesReplyAt bytes key o)
calm_reply_at bytes key None = calm_nothing
calm_reply_at bytes key (Some e) = calm_enqueues key (bytes (closes_of e.progress))

calm_reply : (key : ℕ) (bytes : List ℕ) → Calmly (EnqueuesResponse key bytes)
calm_reply key bytes l hs l' it = calm_reply_at (λ closes. http_reply closes bytes) key (l.entries key) l hs l' it

calm_status : (key : ℕ) (status : Status) (request : ℕ) → Calmly (EnqueuesStatus key status request)
calm_status key status request l hs l' it = calm_reply_at (λ closes. http_status closes status request) key (l.entries key) l hs l' it

calm_dropped : (key id request : ℕ) → Calmly (Answering.Drops key id request)
calm_dropped key id request = calm_then (calm_refusal At.Event (Some id) refl) (calm_status key TemporaryError request)

calm_lost : (key id request : ℕ) (query : Bool) → Calmly (Answering.LosesReply key id request query)
calm_lost key id request query = calm_then (calm_refusal At.Reply (Some id) refl) (calm_if query (EnqueuesStatus key TemporaryError request) (Breaks key) (calm_status key TemporaryError request) (calm_breaks key))

calm_replies : (key id request : ℕ) (query : Bool) (answer : Response) → Calmly (Answering.RepliesWith key id request query answer)
calm_replies key id request query (answered.Ipp answer) l hs l' (inl (bytes, are, it)) = calm_then (calm_choice Found) (calm_reply key bytes) l hs l' it
calm_replies key id request query (answered.Ipp answer) l hs l' (inr it) = calm_lost key id request query l hs l' it
calm_replies key id request query (answered.Lpd answer) l hs l' it = calm_nothing l hs l' it
calm_replies key id request query answered.Nothing l hs l' it = calm_nothing l hs l' it

calm_answer : (key id request : ℕ) (query : Bool) (reply : Option Effects) → Calmly (Answering.Replies key id request query reply)
calm_answer key id request query (Some reply) = calm_replies key id request query reply.response
calm_answer key id request query None = calm_dropped key id request

calm_shows : (key id : ℕ) (text : List ℕ) → Calmly (Answering.Shows key id text)
calm_shows key id text = calm_or (calm_then (calm_choice Found) (calm_enqueues key text)) (calm_then (calm_refusal At.Reply (Some id) refl) (calm_breaks key))

calm_notified : (key id : ℕ) (answer : LpdResponse) → Calmly (Answering.SendsLpd key id answer)
calm_notified key id (shown.Taken taken) = calm_enqueues key (ack_of (shown.Taken taken) ∷ [])
calm_notified key id (shown.Queue listing) = calm_shows key id (text_of (shown.Queue listing))
calm_notified key id shown.NoQueue = calm_shows key id (text_of shown.NoQueue)

calm_answered : (key id : ℕ) (answer : Response) → Calmly (Answering.IsShown key id answer)
calm_answered key id (answered.Lpd answer) = calm_notified key id answer
calm_answered key id (answered.Ipp answer) = calm_nothing
calm_answered key id answered.Nothing = calm_nothing

calm_declines : (place : AllocationSite) (key id : ℕ) → IsOther place (Some id) → Calmly (Answering.Declines place key id)
calm_declines place key id other = calm_then (calm_refusal place (Some id) other) (calm_enqueues key (1 ∷ []))

calm_acknowledges : (key id : ℕ) (reply : Option Effects) → Calmly (Answering.Acknowledges key id reply)
calm_acknowledges key id (Some reply) = calm_answered key id reply.response
calm_acknowledges key id None = calm_declines At.Event key id refl

calm_responds : (key id : ℕ) (reply : Option Effects) → Calmly (Answering.Responds key id reply)
calm_responds key id (Some reply) = calm_answered key id reply.response
calm_responds key id None = calm_then (calm_refusal At.Event (Some id) refl) (calm_breaks key)

other_growth : (growth : AllocFailure) (id : ℕ) → IsOther (Acting.place_of growth) (Some id)
other_growth growth.Input id = refl
other_growth growth.Output id = refl

other_part : (part : Part) (id : ℕ) → IsOther (Acting.place_of_part part) (Some id)
other_part part.File id = refl
other_part part.Job id = refl

-- ---- the observer is notified of an event that was dropped

-- the observer is notified first that memory was refused
refused_first : (place : AllocationSite) (id : Option ℕ) (Q : Rel) (l : Ledger) (hs : List Happening) (l' : Ledger) → Then (Notifies (Refused place id)) Q l hs l' → has_refusal hs ≡ true
refused_first place id Q l hs l' it = ap has_refusal (it.whole ∙ ap (λ (ks : List Happening). ks ++ it.back) it.first.0)

calm_client : (key id : ℕ) (who : Client) (query : Bool) (reply : Option Effects) → Calmly (Answering.Answers key id who query reply)
calm_client key id (client.Ipp request) query reply = calm_answer key id request query reply
calm_client key id client.LpdJob query reply = calm_acknowledges key id reply
calm_client key id client.LpdCommand query reply = calm_responds key id reply

dropped_notified : (key id : ℕ) (who : Client) (query : Bool) (l : Ledger) (hs : List Happening) (l' : Ledger) → Answering.Answers key id who query None l hs l' → has_refusal hs ≡ true
dropped_notified key id (client.Ipp request) query = refused_first At.Event (Some id) (EnqueuesStatus key TemporaryError request)
dropped_notified key id client.LpdJob query = refused_first At.Event (Some id) (Enqueues key (1 ∷ []))
dropped_notified key id client.LpdCommand query = refused_first At.Event (Some id) (Breaks key)

-- ---- actions

module _ (moment : ℕ) (P : Rel) (k : Holds moment P) where
  calmly_in : {R : Rel} → Calmly R → Within P R
  calmly_in {R} calm l hs l' it = k.calm l hs l' (calmly R calm l hs l' it)

  nothing_in : Within P Nothing
  nothing_in = calmly_in calm_nothing

  then_in : {R S : Rel} → Within P R → Within P S → Within P (Then R S)
  then_in f g l hs l' it = subst (λ (x : List Happening). P l x l') (sym it.whole) (k.chain l it.prefix it.mid it.back l' (f l it.prefix it.mid it.first) (g it.mid it.back l' it.second))

  or_in : {R S : Rel} → Within P R → Within P S → Within P (Or R S)
  or_in f g l hs l' (inl it) = f l hs l' it
  or_in f g l hs l' (inr it) = g l hs l' it

  if_in : (test : Bool) (R S : Rel) → Within P R → Within P S → Within P (If test R S)
  if_in true R S f g l hs l' it = f l hs l' it
  if_in false R S f g l hs l' it = g l hs l' it

  times_in : (n : ℕ) (R : Rel) → Within P R → Within P (Times n R)
  times_in zero R f = nothing_in
  times_in (suc n) R f = then_in (times_in n R f) f

  many_in : (R : Rel) → Within P R → Within P (Many R)
  many_in R f l hs l' (n, it) = times_in n R f l hs l' it

  each_in : (n : ℕ) (R : ℕ → Rel) → ((i : ℕ) → Within P (R i)) → Within P (Each n R)
  each_in zero R f = nothing_in
  each_in (suc n) R f = then_in (each_in n R f) (f n)

  -- P holds for happenings that leave the ledger unchanged and have no note of the core
  same_in : (ks : List Happening) → core_notes ks ≡ [] → (l : Ledger) (hs : List Happening) (l' : Ledger) → (hs ≡ ks) × (l' ≡ l) → P l hs l'
  same_in ks notes l hs l' it = k.calm l hs l' (calm_as ks l l hs l' notes refl refl it)

  polls_in : (poll : Poll) → Within P (Polls poll)
  polls_in poll = same_in (Polled poll ∷ []) refl

  chooses_in : (choice : Choice) → Within P (Chooses choice)
  chooses_in choice = calmly_in (calm_choice choice)

  sets_in : (key : ℕ) (e : Entry) → Within P (Sets key e)
  sets_in key e = calmly_in (calm_sets key e)

  -- ---- events

  -- P holds for an event and its reply, if the observer is notified of an event that was dropped
  answered_in : (event : Event) (Q : Option Effects → Rel) → ((reply : Option Effects) → Calmly (Q reply)) → ((l : Ledger) (hs : List Happening) (l' : Ledger) → Q None l hs l' → has_refusal hs ≡ true)
      → (outcome : Outcome) → Within P (Then (Happens moment event outcome) (Q (effects_of outcome)))
  answered_in event Q calm notified outcome l hs l' it =
      let came = happened_then moment event outcome (Q (effects_of outcome)) (calm (effects_of outcome)) l hs l' it in
      k.event l hs l' (event_as moment event outcome l hs l' (λ none. whole_notified moment event outcome Q notified l hs l' it came none) came)

  reported_in : (device : ℕ) (report : Report) → Within P (Unanswered moment (Is.Report device report))
  reported_in device report l hs l' (outcome, it) =
      let came = happened moment (Is.Report device report) outcome l hs l' it in
      k.event l hs l' (event_as moment (Is.Report device report) outcome l hs l' (λ none. whole_light moment (Is.Report device report) outcome l hs l' came tt none) came)

  ticks_in : Within P (Ticks moment)
  ticks_in l hs l' it =
      let tick = ticked moment l hs l' it in
      k.event l hs l' (event_as moment Is.Tick tick.0 l hs l' (λ none. whole_light moment Is.Tick tick.0 l hs l' tick.1 tt none) tick.1)

  -- ---- closings

  gone_in : (device : Option ℕ) → Within P (Closing.IsGone moment device)
  gone_in None = nothing_in
  gone_in (Some device) = reported_in device reported.Gone

  closes_in : (fate : Fate) (key : ℕ) (e : Entry) → Within P (ClosesAs moment fate key e)
  closes_in fate key e = then_in (k.leaves fate key e) (gone_in (device_of e.progress))

  closes_first_in : Within P (ClosesFirst moment)
  closes_first_in l hs l' it = closes_in Broken it.key it.entry l hs l' it.closes

  closes_broken_in : Within P (ClosesBroken moment)
  closes_broken_in l hs l' it = many_in (ClosesFirst moment) closes_first_in l hs l' it.0

  fails_in : (key : ℕ) → Within P (Fails moment key)
  fails_in key = then_in (calmly_in (calm_breaks key)) closes_broken_in

  -- ---- the asks of connections

  answers_in : (key id : ℕ) (who : Client) (event : Event) → Within P (Answering.IsAnswered moment key id who event)
  answers_in key id who event l hs l' (outcome, it) = answered_in event (Answering.Answers key id who (is_query event)) (calm_client key id who (is_query event)) (dropped_notified key id who (is_query event)) outcome l hs l' it

  notifies_in : (device : ℕ) (parsed : ReportRecord) → Within P (Hello.ReportComes moment device parsed)
  notifies_in device parsed l hs l' (report, is, it) = reported_in device report l hs l' it

  gives_way_at_in : (key : ℕ) (o : Option Entry) → Within P (Hello.IsSupersededAt key o)
  gives_way_at_in key None = nothing_in
  gives_way_at_in key (Some e) = sets_in key (superseded_entry e)

  gives_way_in : (key : ℕ) → Within P (Hello.IsSuperseded key)
  gives_way_in key l hs l' it = gives_way_at_in key (l.entries key) l hs l' it

  turned_away_in : (id : ℕ) (reason : DeviceRefusal) → Within P (Notifies (DeviceRefused id reason))
  turned_away_in id reason = same_in (Notified (DeviceRefused id reason) ∷ []) refl

  greets_in : (key id device : ℕ) (name : List ℕ) → Within P (Hello.HandlesHello moment key id device name)
  greets_in key id device name l hs l' (inl (absent, it)) = reported_in device (reported.Hello name) l hs l' it
  greets_in key id device name l hs l' (inr (inl (other, ended, it))) = then_in (gives_way_in other) (then_in (gone_in (Some device)) (reported_in device (reported.Hello name))) l hs l' it
  greets_in key id device name l hs l' (inr (inr (other, is, it))) = then_in (gives_way_in key) (turned_away_in id (why.Connected device)) l hs l' it

  refines_in : (key id : ℕ) (what : Ask) → Within P (Acting.ActsOn moment key id what)
  refines_in key id ask.Nothing = nothing_in
  refines_in key id (ask.Broke growth) = calmly_in (calm_refusal (Acting.place_of growth) (Some id) (other_growth growth id))
  refines_in key id (ask.Event who event) = answers_in key id who event
  refines_in key id (ask.Unread request) = calmly_in (calm_dropped key id request)
  refines_in key id (ask.Lost part) = calmly_in (calm_declines (Acting.place_of_part part) key id (other_part part id))
  refines_in key id (ask.Hello device name) = greets_in key id device name
  refines_in key id (ask.Report device report) = reported_in device report
  refines_in key id (ask.UnknownDevice name) = turned_away_in id (why.UnknownName name)
  refines_in key id (ask.Fault device) = turned_away_in id (why.Fault device)

  asks_in : (key id : ℕ) (what : Ask) → Within P (Acting.Asks key id what)
  asks_in key id what l hs l' it = k.calm l hs l' (calm_as (Chosen (As.Asked (part_of it.asks) (lost_of what)) ∷ []) (with_entry key it.new l) l hs l' refl refl refl (it.chosen, it.after))

  -- ---- reads

  acts_next_in : (key : ℕ) → Within P (Acting.ActsNext moment key)
  acts_next_in key l hs l' (id, what, it) = then_in (asks_in key id what) (refines_in key id what) l hs l' it

  serves_in : (key : ℕ) → Within P (Serves moment key)
  serves_in key l hs l' it = then_in (many_in (Acts moment key) (then_in (acts_next_in key) closes_broken_in)) (chooses_in Rested) l hs l' it.0

  fed_whole_in : (key : ℕ) (e : Entry) (bytes : List ℕ) → Within P (FedWhole moment key e bytes)
  fed_whole_in key e bytes = or_in (then_in (sets_in key (reading bytes e)) (serves_in key)) (then_in (calmly_in (calm_drops At.Feed key e refl)) closes_broken_in)

  fed_in : (key : ℕ) (e : Entry) (bytes : List ℕ) → Within P (FedOpen moment key e bytes)
  fed_in key e bytes = if_in e.draining (Sets key e) (FedWhole moment key e bytes) (sets_in key e) (fed_whole_in key e bytes)

  feeds_at_in : (key : ℕ) (bytes : List ℕ) (o : Option Entry) → Within P (FeedsAt moment key bytes o)
  feeds_at_in key bytes None = nothing_in
  feeds_at_in key bytes (Some e) = fed_in key e bytes

  feeds_one_in : (key : ℕ) (bytes : List ℕ) → Within P (FeedsOne moment key bytes)
  feeds_one_in key bytes l hs l' it = feeds_at_in key bytes (l.entries key) l hs l' it

  reads_as_in : (key : ℕ) (e : Entry) (answer : WireAnswer (List ℕ)) → Within P (ReadsAs moment key e answer)
  reads_as_in key e (wire.Done bytes) = then_in (polls_in (Reads e.id (wire.Done bytes))) (feeds_one_in key bytes)
  reads_as_in key e wire.Waiting = polls_in (Reads e.id wire.Waiting)
  reads_as_in key e wire.End = then_in (polls_in (Reads e.id wire.End)) (sets_in key (record e { ended = true }))
  reads_as_in key e wire.Fault = then_in (polls_in (Reads e.id wire.Fault)) (fails_in key)

  reads_at_in : (key : ℕ) (o : Option Entry) → Within P (ReadsAt moment key o)
  reads_at_in key None = nothing_in
  reads_at_in key (Some e) = if_in (is_read e) (ReadsOpen moment key e) Nothing (λ l hs l' it. reads_as_in key e it.0 l hs l' it.2) nothing_in

  reads_one_in : (key : ℕ) → Within P (ReadsOne moment key)
  reads_one_in key l hs l' it = reads_at_in key (l.entries key) l hs l' it

  -- ---- writes

  writes_as_in : (key : ℕ) (e : Entry) (offered : List ℕ) (answer : WireAnswer ℕ) → Within P (WritesAs moment key e offered answer)
  writes_as_in key e offered (wire.Done n) = then_in (polls_in (Writes e.id offered (wire.Done n))) (sets_in key (record e { taken = e.taken ++ take n offered }))
  writes_as_in key e offered wire.Waiting = polls_in (Writes e.id offered wire.Waiting)
  writes_as_in key e offered wire.End = then_in (polls_in (Writes e.id offered wire.End)) (fails_in key)
  writes_as_in key e offered wire.Fault = then_in (polls_in (Writes e.id offered wire.Fault)) (fails_in key)

  writes_at_in : (key : ℕ) (o : Option Entry) → Within P (WritesAt moment key o)
  writes_at_in key None = nothing_in
  writes_at_in key (Some e) = if_in (nat_lt 0 (length (waiting e))) (WritesOpen moment key e) Nothing (λ l hs l' (offered, is, answer, it). writes_as_in key e offered answer l hs l' it) nothing_in

  writes_one_in : (key : ℕ) → Within P (WritesOne moment key)
  writes_one_in key l hs l' it = writes_at_in key (l.entries key) l hs l' it

  -- ---- the other parts of a turn

  ends_at_in : (key : ℕ) (o : Option Entry) → Within P (EndsAt moment key o)
  ends_at_in key None = nothing_in
  ends_at_in key (Some e) = if_in (is_done e) (Then (ClosesAs moment Drained key e) (ClosesBroken moment)) Nothing (then_in (closes_in Drained key e) closes_broken_in) nothing_in

  ends_one_in : (key : ℕ) → Within P (EndsOne moment key)
  ends_one_in key l hs l' it = ends_at_in key (l.entries key) l hs l' it

  opens_in : (door : Door) (id : ℕ) → Within P (Opens door id)
  opens_in door id l hs l' (inl (key, free, none, after)) = k.calm l hs l' (calm_as (Chosen (Opened key) ∷ []) (with_new key (opening_entry door id) l) l hs l' refl refl refl (none, after))
  opens_in door id l hs l' (inr it) = same_in (Notified (Refused At.Accept (Some id)) ∷ Polled (Closes id) ∷ []) refl l hs l' it

  accepts_as_in : (door : Door) (answer : WireAnswer ℕ) → Within P (AcceptsAs door answer)
  accepts_as_in door (wire.Done id) = then_in (polls_in (Accepts door (wire.Done id))) (opens_in door id)
  accepts_as_in door wire.Waiting = polls_in (Accepts door wire.Waiting)
  accepts_as_in door wire.End = polls_in (Accepts door wire.End)
  accepts_as_in door wire.Fault = polls_in (Accepts door wire.Fault)

  accepts_in : (door : Door) → Within P (AcceptsAt door)
  accepts_in door l hs l' it = if_in (nat_lt l.count CONNECTIONS) (AcceptsOne door) Nothing (λ a ks b (answer, is). accepts_as_in door answer a ks b is) nothing_in l hs l' it

  tick_due_in : Within P (TicksIfDue moment)
  tick_due_in l hs l' it = if_in (is_tick_due moment l) (Then (Ticks moment) (ClosesBroken moment)) Nothing (then_in ticks_in closes_broken_in) nothing_in l hs l' it

  round_in : Within P (Round moment)
  round_in l hs l' (n, it) =
      then_in {R = Covers n} (λ a ks b is. chooses_in (Looked n) a ks b is.1)
      (then_in (each_in n (ReadsOne moment) reads_one_in) (then_in (each_in n (WritesOne moment) writes_one_in) (each_in n (EndsOne moment) ends_one_in)))
      l hs l' it

  turn_in : Within P (Turn moment)
  turn_in = then_in closes_broken_in (then_in tick_due_in (then_in (accepts_in Ipp) (then_in (accepts_in Lpd) (then_in (accepts_in Devices) round_in))))

  -- ---- calls between turns

  body_event_in : (request : ℕ) (event : Event) (bytes : List ℕ) → Within P (Between.IsAnswered moment request event bytes)
  body_event_in request event bytes l hs l' (outcome, it) =
      answered_in event (λ reply. Between.Answers request reply bytes) (λ reply. calm_answers request reply bytes) (λ a ks b notified. ap has_refusal notified.0) outcome l hs l' it

  asked_in : (asked : ParsedRequest) (served : Between.Outcome) → Within P (Between.BodyAsks moment asked served)
  asked_in asks.TooShort served l hs l' (is, it) = nothing_in l hs l' it
  asked_in (asks.Refused status request) served l hs l' (is, it) = or_in (chooses_in Found) (calmly_in (calm_refusal At.Reply None refl)) l hs l' it
  asked_in (asks.Event request event) served l hs l' (bytes, is, it) = body_event_in request event bytes l hs l' it

  body_in : (body : List ℕ) (served : Between.Outcome) → Within P (Between.BodyComes moment body served)
  body_in body served l hs l' (inl (asked, is, it)) = then_in (chooses_in Found) (asked_in asked served) l hs l' it
  body_in body served l hs l' (inr it) = calmly_in (calm_refusal At.Event None refl) l hs l' it

  serves_body_in : (body : List ℕ) (answer : Between.Outcome) → Within P (Between.Serves moment body answer)
  serves_body_in body answer l hs l' (served, is, it) = body_in body served l hs l' it

  reports_in : (device : ℕ) (parsed : ReportRecord) → Within P (Between.Reports moment device parsed)
  reports_in device parsed = notifies_in device parsed

-- what holds for all parts of an action holds for the action
pub action_in : (P : Rel) (action : Action) → Holds (moment_of action) P → (l l' : Ledger) → DoesAction action l l' → P l (happenings_of action) l'
action_in P (Turned moment hs) k l l' it = turn_in moment P k l hs l' it
action_in P (Served_body moment body answer hs) k l l' it = serves_body_in moment P k body answer l hs l' it
action_in P (Reported moment device parsed hs) k l l' it = reports_in moment P k device parsed l hs l' it
action_in P (Ticked moment hs) k l l' it = ticks_in moment P k l hs l' it
