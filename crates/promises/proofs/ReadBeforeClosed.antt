-- All that was read on a connection was acted on before it was closed, unless nothing counted any more.
use Rattle.std.proofs.Common.{◌≡◌, ℕ, zero, suc, Bool, true, false, List, [], ◌∷◌, ◌++◌, take, length, refl, sym, ap, subst, Option, Some, None, inl, inr, All}
use Rattle.std.specs.Prelude.{nat_lt}
use Rattle.std.proofs.lemmas.List.Elements.{All-append, All-cons, All-nil}
use Rattle.base_types.specs.declared.limits.TheConstants.Limits.{CONNECTIONS}
use Rattle.base_types.specs.declared.report.Report.TheVariants as report
use Rattle.print_room.specs.State.{State}
use Rattle.events.specs.declared.event.Event.{Event}
use Rattle.events.specs.declared.event.Event.TheVariants as Is
use Rattle.events.specs.Event.{is_query}
use Rattle.dispatcher.specs.declared.observer.DeviceRefusal.TheVariants as why
use Rattle.dispatcher.specs.declared.observer.AllocationSite.TheVariants as At
use Rattle.dispatcher.specs.Notes.{DeviceRefused, Refused}
use Rattle.dispatcher.specs.Run.{Outcome, effects_of}
use Rattle.ipp_operations.specs.declared.parsed_request.ParsedRequest.{ParsedRequest}
use Rattle.ipp_operations.specs.declared.parsed_request.ParsedRequest.TheVariants as asked
use Rattle.wires.specs.Poll.{Accepts, Reads, Writes}
use Rattle.wires.specs.declared.wire.Progress.{Progress as WireAnswer}
use Rattle.wires.specs.declared.wire.Progress.TheVariants as wire
use Rattle.wires.specs.declared.wire.Door.{Door}
use Rattle.wires.specs.declared.wire.Door.TheVariants.{Ipp, Lpd, Devices}
use Rattle.connections.specs.declared.ask.Ask.{Ask}
use Rattle.connections.specs.declared.ask.Ask.TheVariants as ask
use Rattle.connections.specs.Entry.{Entry, device_of, superseded_entry, reading, waiting}
use Rattle.connections.specs.Asking.{IsActedOn}
use Rattle.server.specs.Polls.{Happening, Found, Rested}
use Rattle.server.specs.Ledger.{Ledger, Fate, Drained, Broken, opening_ledger}
use Rattle.server.specs.Rel.{Rel, Nothing, Then, If, Times, Many, Each}
use Rattle.server.specs.Enqueuing.{Sets, Drops}
use Rattle.server.specs.Happening.{Happens, Unanswered}
use Rattle.server.specs.Closing.{Leaves, IsGone, ClosesAs, ClosesFirst, ClosesBroken}
use Rattle.server.specs.Hello.{IsSupersededAt, IsSuperseded, HandlesHello}
use Rattle.server.specs.Acting.{place_of, place_of_part, ActsOn, ActsNext}
use Rattle.server.specs.Polling.{Opens, AcceptsAs, AcceptsOne, AcceptsAt, Acts, Serves, FedWhole, FeedsAt, FeedsOne, Fails, ReadsAs, ReadsOpen, ReadsAt, is_read, ReadsOne, WritesAs, WritesOpen, WritesAt, WritesOne, is_done, EndsAt, EndsOne}
use Rattle.server.specs.Turn as Between
use Rattle.server.specs.Turn.{Ticks, is_tick_due, TicksIfDue, Round, Turn, BodyAsks, BodyComes, Action, Turned, Served_body, Reported, Ticked, Trace, DoesAction, Runs}
use Rattle.promises.proofs.StreamSteps.{silent_growth, silent_part}
use Rattle.promises.proofs.CalmParts.{Calms, calms_nothing, calms_notifies, calms_choice, calms_polls, calms_breaks, calms_dropped, calms_declines, calms_answers, body_answers, happened}
use Rattle.promises.proofs.ReadIsActedOn.{AllActedOn, broken_acted_on, there, keeps_same, keeps_closes_broken, keeps_each, keeps_reads, keeps_writes, keeps_ends, keeps_tick, keeps_accepts, keeps_action}

-- of each closed connection
abbrev pub EndActedOn : Ledger → Type 0
EndActedOn l = All (λ (it : Entry × Fate). IsActedOn it.0) l.closed

abbrev Ends : Rel → Type 0
Ends R = (l : Ledger) (hs : List Happening) (l' : Ledger) → R l hs l' → EndActedOn l → EndActedOn l'

ends_same : (l l' : Ledger) → l'.closed ≡ l.closed → EndActedOn l → EndActedOn l'
ends_same l l' same ended = subst (λ (closed : List (Entry × Fate)). All (λ (it : Entry × Fate). IsActedOn it.0) closed) (sym same) ended

calmly : {R : Rel} → Calms R → Ends R
calmly calms l hs l' it = ends_same l l' (calms l hs l' it).kept.closed

ends_then : {R S : Rel} → Ends R → Ends S → Ends (Then R S)
ends_then f g l hs l' it ended = g it.mid it.back l' it.second (f l it.prefix it.mid it.first ended)

ends_if : (test : Bool) (R S : Rel) → Ends R → Ends S → Ends (If test R S)
ends_if true R S f g l hs l' it = f l hs l' it
ends_if false R S f g l hs l' it = g l hs l' it

ends_times : (n : ℕ) (R : Rel) → Ends R → Ends (Times n R)
ends_times zero R f = calmly calms_nothing
ends_times (suc n) R f = ends_then (ends_times n R f) f

ends_many : (R : Rel) → Ends R → Ends (Many R)
ends_many R f l hs l' (n, it) = ends_times n R f l hs l' it

ends_each : (n : ℕ) (R : ℕ → Rel) → ((key : ℕ) → Ends (R key)) → Ends (Each n R)
ends_each zero R f = calmly calms_nothing
ends_each (suc n) R f = ends_then (ends_each n R f) (f n)

ends_sets : (key : ℕ) (e : Entry) → Ends (Sets key e)
ends_sets key e l hs l' it = ends_same l l' (ap (λ (x : Ledger). x.closed) it.1)

-- ---- events and closings

module _ (moment : ℕ) where
  ends_happens : (event : Event) (outcome : Outcome) → Ends (Happens moment event outcome)
  ends_happens event outcome l hs l' it = ends_same l l' (happened moment event outcome l hs l' it).kept.closed

  ends_unanswered : (event : Event) → Ends (Unanswered moment event)
  ends_unanswered event l hs l' (outcome, it) = ends_happens event outcome l hs l' it

  ends_gone : (device : Option ℕ) → Ends (IsGone moment device)
  ends_gone None = calmly calms_nothing
  ends_gone (Some device) = ends_unanswered (Is.Report device report.Gone)

  ends_leaves : (fate : Fate) (key : ℕ) (e : Entry) → IsActedOn e → Ends (Leaves fate key e)
  ends_leaves fate key e acted_on l hs l' it ended =
      subst EndActedOn (sym it.2) (All-append (λ (x : Entry × Fate). IsActedOn x.0) l.closed ((e, fate) ∷ []) ended (All-cons (λ (x : Entry × Fate). IsActedOn x.0) (e, fate) [] acted_on (All-nil (λ (x : Entry × Fate). IsActedOn x.0))))

  ends_closes : (fate : Fate) (key : ℕ) (e : Entry) → IsActedOn e → Ends (ClosesAs moment fate key e)
  ends_closes fate key e acted_on = ends_then (ends_leaves fate key e acted_on) (ends_gone (device_of e.progress))

  ends_closes_broken : Ends (ClosesBroken moment)
  ends_closes_broken l hs l' it = ends_many (ClosesFirst moment) (λ a ks b first. ends_closes Broken first.key first.entry (broken_acted_on first.entry first.is_broken) a ks b first.closes) l hs l' it.0

  -- ---- the asks of a connection

  way_at : (key : ℕ) (o : Option Entry) → Ends (IsSupersededAt key o)
  way_at key None = calmly calms_nothing
  way_at key (Some e) = ends_sets key (superseded_entry e)

  ends_way : (key : ℕ) → Ends (IsSuperseded key)
  ends_way key l hs l' it = way_at key (l.entries key) l hs l' it

  ends_greets : (key id device : ℕ) (name : List ℕ) → Ends (HandlesHello moment key id device name)
  ends_greets key id device name l hs l' (inl (alone, it)) = ends_unanswered (Is.Report device (report.Hello name)) l hs l' it
  ends_greets key id device name l hs l' (inr (inl (other, has, it))) =
      ends_then (ends_way other) (ends_then (ends_gone (Some device)) (ends_unanswered (Is.Report device (report.Hello name)))) l hs l' it
  ends_greets key id device name l hs l' (inr (inr (other, has, it))) = ends_then (ends_way key) (calmly (calms_notifies (DeviceRefused id (why.Connected device)) refl)) l hs l' it

  ends_acts_on : (key id : ℕ) (what : Ask) → Ends (ActsOn moment key id what)
  ends_acts_on key id ask.Nothing = calmly calms_nothing
  ends_acts_on key id (ask.Broke growth) = calmly (calms_notifies (Refused (place_of growth) (Some id)) (silent_growth growth id))
  ends_acts_on key id (ask.Event who event) = λ l hs l' (outcome, it). ends_then {R = Happens moment event outcome} (ends_happens event outcome) (calmly (calms_answers key id who (is_query event) (effects_of outcome))) l hs l' it
  ends_acts_on key id (ask.Unread request) = calmly (calms_dropped key id request)
  ends_acts_on key id (ask.Lost part) = calmly (calms_declines (place_of_part part) key id (silent_part part id))
  ends_acts_on key id (ask.Hello device name) = ends_greets key id device name
  ends_acts_on key id (ask.Report device it) = ends_unanswered (Is.Report device it)
  ends_acts_on key id (ask.UnknownDevice name) = calmly (calms_notifies (DeviceRefused id (why.UnknownName name)) refl)
  ends_acts_on key id (ask.Fault device) = calmly (calms_notifies (DeviceRefused id (why.Fault device)) refl)

  ends_acts_next : (key : ℕ) → Ends (ActsNext moment key)
  ends_acts_next key l hs l' (id, what, it) ended = ends_acts_on key id what it.mid it.back l' it.second (ends_same l it.mid (ap (λ (x : Ledger). x.closed) it.first.after) ended)

  -- ---- reads, writes and closings

  ends_serves : (key : ℕ) → Ends (Serves moment key)
  ends_serves key l hs l' it = ends_then (ends_many (Acts moment key) (ends_then (ends_acts_next key) ends_closes_broken)) (calmly (calms_choice Rested)) l hs l' it.0

  ends_fails : (key : ℕ) → Ends (Fails moment key)
  ends_fails key = ends_then (calmly (calms_breaks key)) ends_closes_broken

  fed_whole : (key : ℕ) (e : Entry) (bytes : List ℕ) → Ends (FedWhole moment key e bytes)
  fed_whole key e bytes l hs l' (inl it) = ends_then (ends_sets key (reading bytes e)) (ends_serves key) l hs l' it
  fed_whole key e bytes l hs l' (inr it) = ends_then {R = Drops At.Feed key e} (λ a ks b is. ends_same a b (ap (λ (x : Ledger). x.closed) is.1)) ends_closes_broken l hs l' it

  feeds_at : (key : ℕ) (bytes : List ℕ) (o : Option Entry) → Ends (FeedsAt moment key bytes o)
  feeds_at key bytes None = calmly calms_nothing
  feeds_at key bytes (Some e) = ends_if e.draining (Sets key e) (FedWhole moment key e bytes) (ends_sets key e) (fed_whole key e bytes)

  ends_feeds : (key : ℕ) (bytes : List ℕ) → Ends (FeedsOne moment key bytes)
  ends_feeds key bytes l hs l' it = feeds_at key bytes (l.entries key) l hs l' it

  reads_as : (key : ℕ) (e : Entry) (answer : WireAnswer (List ℕ)) → Ends (ReadsAs moment key e answer)
  reads_as key e (wire.Done bytes) = ends_then (calmly (calms_polls (Reads e.id (wire.Done bytes)))) (ends_feeds key bytes)
  reads_as key e wire.Waiting = calmly (calms_polls (Reads e.id wire.Waiting))
  reads_as key e wire.End = ends_then (calmly (calms_polls (Reads e.id wire.End))) (ends_sets key (record e { ended = true }))
  reads_as key e wire.Fault = ends_then (calmly (calms_polls (Reads e.id wire.Fault))) (ends_fails key)

  reads_at : (key : ℕ) (o : Option Entry) → Ends (ReadsAt moment key o)
  reads_at key None = calmly calms_nothing
  reads_at key (Some e) = ends_if (is_read e) (ReadsOpen moment key e) Nothing (λ l hs l' (answer, segment, it). reads_as key e answer l hs l' it) (calmly calms_nothing)

  ends_reads : (key : ℕ) → Ends (ReadsOne moment key)
  ends_reads key l hs l' it = reads_at key (l.entries key) l hs l' it

  writes_as : (key : ℕ) (e : Entry) (offered : List ℕ) (answer : WireAnswer ℕ) → Ends (WritesAs moment key e offered answer)
  writes_as key e offered (wire.Done n) = ends_then (calmly (calms_polls (Writes e.id offered (wire.Done n)))) (ends_sets key (record e { taken = e.taken ++ take n offered }))
  writes_as key e offered wire.Waiting = calmly (calms_polls (Writes e.id offered wire.Waiting))
  writes_as key e offered wire.End = ends_then (calmly (calms_polls (Writes e.id offered wire.End))) (ends_fails key)
  writes_as key e offered wire.Fault = ends_then (calmly (calms_polls (Writes e.id offered wire.Fault))) (ends_fails key)

  writes_at : (key : ℕ) (o : Option Entry) → Ends (WritesAt moment key o)
  writes_at key None = calmly calms_nothing
  writes_at key (Some e) = ends_if (nat_lt 0 (length (waiting e))) (WritesOpen moment key e) Nothing (λ l hs l' (offered, is, answer, it). writes_as key e offered answer l hs l' it) (calmly calms_nothing)

  ends_writes : (key : ℕ) → Ends (WritesOne moment key)
  ends_writes key l hs l' it = writes_at key (l.entries key) l hs l' it

  -- all bytes that were read were acted on before the connection closes, unless it closes at once
  done_at : (key : ℕ) (o : Option Entry) (l : Ledger) (hs : List Happening) (l' : Ledger) → l.entries key ≡ o → AllActedOn l → EndsAt moment key o l hs l' → EndActedOn l → EndActedOn l'
  done_at key None l hs l' open_there acted_on it = calmly calms_nothing l hs l' it
  done_at key (Some e) l hs l' open_there acted_on it =
      ends_if (is_done e) (Then (ClosesAs moment Drained key e) (ClosesBroken moment)) Nothing (ends_then (ends_closes Drained key e (there l key e acted_on open_there)) ends_closes_broken) (calmly calms_nothing) l hs l' it

  ends_done : (n : ℕ) (l : Ledger) (hs : List Happening) (l' : Ledger) → AllActedOn l → Each n (EndsOne moment) l hs l' → EndActedOn l → EndActedOn l'
  ends_done zero l hs l' acted_on it ended = calmly calms_nothing l hs l' it ended
  ends_done (suc n) l hs l' acted_on it ended =
      done_at n (it.mid.entries n) it.mid it.back l' refl (keeps_each n (EndsOne moment) (keeps_ends moment) l it.prefix it.mid acted_on it.first) it.second (ends_done n l it.prefix it.mid acted_on it.first ended)

  -- ---- a turn

  ends_ticks : Ends (Ticks moment)
  ends_ticks l hs l' it ended = ends_unanswered Is.Tick it.mid it.back l' it.second (ends_same l it.mid (ap (λ (x : Ledger). x.closed) it.first.1) ended)

  ends_tick_due : Ends (TicksIfDue moment)
  ends_tick_due l hs l' it = ends_if (is_tick_due moment l) (Then (Ticks moment) (ClosesBroken moment)) Nothing (ends_then ends_ticks ends_closes_broken) (calmly calms_nothing) l hs l' it

  ends_opens : (door : Door) (id : ℕ) → Ends (Opens door id)
  ends_opens door id l hs l' (inl (key, free, is, after)) = ends_same l l' (ap (λ (x : Ledger). x.closed) after)
  ends_opens door id l hs l' (inr it) = ends_same l l' (ap (λ (x : Ledger). x.closed) it.1)

  accepts_as : (door : Door) (answer : WireAnswer ℕ) → Ends (AcceptsAs door answer)
  accepts_as door (wire.Done id) = ends_then (calmly (calms_polls (Accepts door (wire.Done id)))) (ends_opens door id)
  accepts_as door wire.Waiting = calmly (calms_polls (Accepts door wire.Waiting))
  accepts_as door wire.End = calmly (calms_polls (Accepts door wire.End))
  accepts_as door wire.Fault = calmly (calms_polls (Accepts door wire.Fault))

  ends_accepts : (door : Door) → Ends (AcceptsAt door)
  ends_accepts door l hs l' it = ends_if (nat_lt l.count CONNECTIONS) (AcceptsOne door) Nothing (λ a ks b (answer, is). accepts_as door answer a ks b is) (calmly calms_nothing) l hs l' it

  ends_round : (l : Ledger) (hs : List Happening) (l' : Ledger) → AllActedOn l → Round moment l hs l' → EndActedOn l → EndActedOn l'
  ends_round l hs l' acted_on (n, it) ended =
      let looked = keeps_same l it.mid (ap (λ (x : Ledger). x.entries) it.first.1.1) acted_on in
      let reads = it.second in
      let read = keeps_each n (ReadsOne moment) (keeps_reads moment) it.mid reads.prefix reads.mid looked reads.first in
      let writes = reads.second in
      let written = keeps_each n (WritesOne moment) (keeps_writes moment) reads.mid writes.prefix writes.mid read writes.first in
      ends_done n writes.mid writes.back l' written writes.second
      (ends_each n (WritesOne moment) ends_writes reads.mid writes.prefix writes.mid writes.first (ends_each n (ReadsOne moment) ends_reads it.mid reads.prefix reads.mid reads.first (ends_same l it.mid (ap (λ (x : Ledger). x.closed) it.first.1.1) ended)))

  ends_turn : (l : Ledger) (hs : List Happening) (l' : Ledger) → AllActedOn l → Turn moment l hs l' → EndActedOn l → EndActedOn l'
  ends_turn l hs l' acted_on it ended =
      let unbroken = keeps_closes_broken moment l it.prefix it.mid acted_on it.first in
      let tick = it.second in
      let ticked = keeps_tick moment it.mid tick.prefix tick.mid unbroken tick.first in
      let ipp = tick.second in
      let one = keeps_accepts Ipp tick.mid ipp.prefix ipp.mid ticked ipp.first in
      let lpd = ipp.second in
      let two = keeps_accepts Lpd ipp.mid lpd.prefix lpd.mid one lpd.first in
      let devices = lpd.second in
      let three = keeps_accepts Devices lpd.mid devices.prefix devices.mid two devices.first in
      ends_round devices.mid devices.back l' three devices.second
      (ends_accepts Devices lpd.mid devices.prefix devices.mid devices.first
      (ends_accepts Lpd ipp.mid lpd.prefix lpd.mid lpd.first (ends_accepts Ipp tick.mid ipp.prefix ipp.mid ipp.first (ends_tick_due it.mid tick.prefix tick.mid tick.first (ends_closes_broken l it.prefix it.mid it.first ended)))))

  -- ---- calls between turns

  ends_body : (it : ParsedRequest) (served : Between.Outcome) → Ends (BodyAsks moment it served)
  ends_body asked.TooShort served l hs l' (is, it) = calmly calms_nothing l hs l' it
  ends_body (asked.Refused status request) served l hs l' (is, inl it) = calmly (calms_choice Found) l hs l' it
  ends_body (asked.Refused status request) served l hs l' (is, inr it) = calmly (calms_notifies (Refused At.Reply None) refl) l hs l' it
  ends_body (asked.Event request event) served l hs l' (bytes, is, (outcome, it)) = ends_then {R = Happens moment event outcome} (ends_happens event outcome) (calmly (body_answers request (effects_of outcome) bytes)) l hs l' it

  ends_comes : (body : List ℕ) (served : Between.Outcome) → Ends (BodyComes moment body served)
  ends_comes body served l hs l' (inl (it, asks, comes)) = ends_then (calmly (calms_choice Found)) (ends_body it served) l hs l' comes
  ends_comes body served l hs l' (inr it) = calmly (calms_notifies (Refused At.Event None) refl) l hs l' it

ends_action : (action : Action) (l l' : Ledger) → AllActedOn l → DoesAction action l l' → EndActedOn l → EndActedOn l'
ends_action (Turned moment hs) l l' acted_on it = ends_turn moment l hs l' acted_on it
ends_action (Served_body moment body answer hs) l l' acted_on (served, same, it) = ends_comes moment body served l hs l' it
ends_action (Reported moment device parsed hs) l l' acted_on (what, same, it) = ends_unanswered moment (Is.Report device what) l hs l' it
ends_action (Ticked moment hs) l l' acted_on it = ends_ticks moment l hs l' it

ends_trace : (trace : Trace) (l l' : Ledger) → AllActedOn l → Runs trace l l' → EndActedOn l → EndActedOn l'
ends_trace [] l l' acted_on same ended = ends_same l l' (ap (λ (x : Ledger). x.closed) same) ended
ends_trace (action ∷ actions) l l' acted_on (mid, does, runs) ended = ends_trace actions mid l' (keeps_action action l mid acted_on does) runs (ends_action action l mid acted_on does ended)

pub all_ended : (opening : State) (trace : Trace) (l : Ledger) → Runs trace (opening_ledger opening) l → EndActedOn l
all_ended opening trace l runs = ends_trace trace (opening_ledger opening) l (λ key. tt) runs (All-nil (λ (it : Entry × Fate). IsActedOn it.0))
