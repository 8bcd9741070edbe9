-- A turn, and a trace, come about in one way, if they are seen alike with the same keys and no memory is refused.
use Rattle.std.proofs.Common.{◌≡◌, ◌≢◌, ◌≤◌, arith, ℕ, zero, suc, Bool, true, false, List, [], ◌∷◌, ◌++◌, length, take, refl, sym, ◌∙◌, ap, subst, append-nil, Option, Some, None, ◌⊎◌, inl, inr}
use Rattle.std.specs.Prelude.{◌==◌, ◌||◌, nat_lt, if◌then◌else◌}
use Rattle.base_types.specs.declared.limits.TheConstants.Limits.{CONNECTIONS}
use Rattle.http_front.specs.Stream.{SomeParse, FirstStays}
use Rattle.lpd.specs.Stream.{NoneFollows as NoItemFollows, OneParse as OneLpdParse}
use Rattle.device_link.specs.Stream.{NoneFollows as NoReportFollows}
use Rattle.base_types.specs.Report.{ReportRecord}
use Rattle.events.specs.declared.event.Event.TheVariants as Is
use Rattle.dispatcher.specs.declared.observer.AllocationSite.TheVariants as At
use Rattle.dispatcher.specs.Notes.{Refused}
use Rattle.ipp_operations.specs.declared.parsed_request.ParsedRequest.{ParsedRequest}
use Rattle.ipp_operations.specs.declared.parsed_request.ParsedRequest.TheVariants as asked
use Rattle.wires.specs.Poll.{Poll, Accepts, Reads, Writes, Closes}
use Rattle.wires.specs.declared.wire.Door.{Door}
use Rattle.wires.specs.declared.wire.Door.TheVariants.{Ipp, Lpd, Devices}
use Rattle.wires.specs.declared.wire.Progress.{Progress}
use Rattle.wires.specs.declared.wire.Progress.TheVariants as wire
use Rattle.connections.specs.Entry.{Entry, opening_entry, reading, waiting}
use Rattle.connections.specs.Choice.{AsksOne}
use Rattle.server.specs.Polls.{Happening, Polled, Notified, Choice, Found, Opened, Asked, Rested, Looked, Chosen}
use Rattle.server.specs.Ledger.{Ledger, Drained, opening_ledger, with_new}
use Rattle.server.specs.Rel.{Rel, Nothing, Polls, Notifies, Chooses, Then, If, Or, Each}
use Rattle.server.specs.Enqueuing.{Sets, Drops}
use Rattle.server.specs.Happening.{now_at, Unanswered}
use Rattle.server.specs.Closing.{IsBroken, NoneBroken, ClosesBroken}
use Rattle.server.specs.Polling.{Opens, AcceptsAs, AcceptsOne, AcceptsAt, FedWhole, FeedsAt, FeedsOne, Fails, ReadsAs, ReadsOpen, ReadsAt, is_read, ReadsOne, WritesAs, WritesOpen, WritesAt, WritesOne, is_done, EndsAt, EndsOne, Serves}
use Rattle.server.specs.Turn as Between
use Rattle.server.specs.Turn.{Ticks, Notes, is_tick_due, TicksIfDue, Rounds, Round, Turn, BodyAsks, BodyComes, Action, Turned, Served_body, Reported, Ticked, Trace, DoesAction, Runs, is_refusal, has_refusal}
use Rattle.server.specs.Law.{happenings_of, happenings_in}
use Rattle.promises.specs.Keyed.{key_chosen, keyed, keyed_of, keyed_in, SeenLeadsToOne}
use Rattle.promises.specs.OneLedger.{StepsOnce, SameQueries, AsksOnce}
use Rattle.promises.proofs.UniqueActs.{same_self}
use Rattle.promises.proofs.SeenAlike.{Calm, Same, One, keyed_append, calm_prefix, calm_back, calm_last, same_just, same_nothing, same_polls, same_chooses, same_then_by, same_then, refuses_then, same_or, same_if, first_seen}
use Rattle.promises.proofs.SameEvents.{same_sets, refuses_drops, refuses_notifies, same_breaks, one_tick, same_body}
use Rattle.promises.proofs.SameActs.{same_closes_as, same_closes_broken, same_reports}
use Rattle.promises.proofs.SameParts.{serves_same}
use Rattle.promises.proofs.SentToDevices.{same_key, other_key}
use Rattle.std.proofs.lemmas.Bool.Decides.{nat_tests}
use Rattle.promises.specs.Others.{Bears}
use Rattle.promises.proofs.OtherConnections.{spares_reads, spares_writes, spares_ends, Unbroken, unbroken_nothing, unbroken_then, unbroken_sets, unbroken_reads, unbroken_writes, unbroken_ends}

-- ---- accepts

same_opened : (key other : ℕ) → Chosen (Opened key) ≡ Chosen (Opened other) → key ≡ other
same_opened key other same = cc

refused_at_once : (door : Door) (id : ℕ) (l : Ledger) (hs : List Happening) → hs ≡ Notified (Refused At.Accept (Some id)) ∷ Polled (Closes id) ∷ [] → Calm hs → ⊥
refused_at_once door id l hs is calm = never (subst Calm is calm)
  where
    never : true ≡ false → ⊥
    never same = cc

opens : (door : Door) (id : ℕ) (l : Ledger) (hs rest : List Happening) (a : Ledger) (ks more : List Happening) (b : Ledger) → keyed hs ++ rest ≡ keyed ks ++ more → Calm hs → Calm ks → Opens door id l hs a → Opens door id l ks b → (keyed hs ≡ keyed ks) × (a ≡ b)
opens door id l hs rest a ks more b e c d (inl (key, free, is, after)) (inl (other, none, its, new)) =
    let same : key ≡ other = same_opened key other (first_seen (Chosen (Opened key)) (Chosen (Opened other)) hs rest ks more [] [] e (ap keyed is) (ap keyed its)) in
    (ap keyed is ∙ (ap (λ (k : ℕ). Chosen (Opened k) ∷ []) same ∙ sym (ap keyed its)), after ∙ (ap (λ (k : ℕ). with_new k (opening_entry door id) l) same ∙ sym new))
opens door id l hs rest a ks more b e c d (inr p) q = absurd (refused_at_once door id l hs p.0 c)
opens door id l hs rest a ks more b e c d (inl p) (inr q) = absurd (refused_at_once door id l ks q.0 d)

accepts_as : (door : Door) (answer : Progress ℕ) → One (AcceptsAs door answer)
accepts_as door (wire.Done id) = same_then (same_polls (Accepts door (wire.Done id))) (record { one = opens door id })
accepts_as door wire.Waiting = same_polls (Accepts door wire.Waiting)
accepts_as door wire.End = same_polls (Accepts door wire.End)
accepts_as door wire.Fault = same_polls (Accepts door wire.Fault)

-- a poll is seen first
IsFirst : Poll → List Happening → Type 0
IsFirst poll hs = (back : List Happening) × (keyed hs ≡ Polled poll ∷ back)

just_polled : (poll : Poll) (l : Ledger) (hs : List Happening) (a : Ledger) → Polls poll l hs a → IsFirst poll hs
unfolding IsFirst
just_polled poll l hs a it = ([], ap keyed it.0)

poll_then : (poll : Poll) (R : Rel) (l : Ledger) (hs : List Happening) (a : Ledger) → Then (Polls poll) R l hs a → IsFirst poll hs
unfolding IsFirst
poll_then poll R l hs a it = (keyed it.back, ap keyed it.whole ∙ (keyed_append it.prefix it.back ∙ ap (λ (xs : List Happening). keyed xs ++ keyed it.back) it.first.0))

one_poll : (poll other : Poll) (hs rest ks more : List Happening) → keyed hs ++ rest ≡ keyed ks ++ more → IsFirst poll hs → IsFirst other ks → poll ≡ other
unfolding IsFirst
one_poll poll other hs rest ks more e p q = let same : Polled poll ≡ Polled other = first_seen (Polled poll) (Polled other) hs rest ks more p.0 q.0 e p.1 q.1 in cc

accept_first : (door : Door) (answer : Progress ℕ) (l : Ledger) (hs : List Happening) (a : Ledger) → AcceptsAs door answer l hs a → IsFirst (Accepts door answer) hs
accept_first door (wire.Done id) l hs a it = poll_then (Accepts door (wire.Done id)) (Opens door id) l hs a it
accept_first door wire.Waiting l hs a it = just_polled (Accepts door wire.Waiting) l hs a it
accept_first door wire.End l hs a it = just_polled (Accepts door wire.End) l hs a it
accept_first door wire.Fault l hs a it = just_polled (Accepts door wire.Fault) l hs a it

same_accept : (door : Door) (answer other : Progress ℕ) → Accepts door answer ≡ Accepts door other → answer ≡ other
same_accept door answer other same = cc

accepts_one : (door : Door) (l : Ledger) (hs rest : List Happening) (a : Ledger) (ks more : List Happening) (b : Ledger) → keyed hs ++ rest ≡ keyed ks ++ more → Calm hs → Calm ks → AcceptsOne door l hs a → AcceptsOne door l ks b → (keyed hs ≡ keyed ks) × (a ≡ b)
accepts_one door l hs rest a ks more b e c d (answer, p) (other, q) =
    let same : answer ≡ other = same_accept door answer other (one_poll (Accepts door answer) (Accepts door other) hs rest ks more e (accept_first door answer l hs a p) (accept_first door other l ks b q)) in
    (accepts_as door answer).one l hs rest a ks more b e c d p (subst (λ (x : Progress ℕ). AcceptsAs door x l ks b) (sym same) q)

same_accepts : (door : Door) → One (AcceptsAt door)
same_accepts door = record {
  one = λ l hs rest a ks more b e c d p q. (same_if (nat_lt l.count CONNECTIONS) {R = AcceptsOne door} {R' = AcceptsOne door} {S = Nothing} {S' = Nothing} (record { one = accepts_one door }) same_nothing).one l hs rest a ks more b e c d p q;
}

-- ---- from a ledger where no connection is broken

record Onward (R : Rel) : Type 0 where
  one : (l : Ledger) (hs rest : List Happening) (a : Ledger) (ks more : List Happening) (b : Ledger) → NoneBroken l → keyed hs ++ rest ≡ keyed ks ++ more → Calm hs → Calm ks → R l hs a → R l ks b → (keyed hs ≡ keyed ks) × (a ≡ b)

onward : (R : Rel) → One R → Onward R
onward R r = record { one = λ l hs rest a ks more b none e c d p q. r.one l hs rest a ks more b e c d p q }

onward_then : (R S : Rel) → Unbroken R → Onward R → Onward S → Onward (Then R S)
onward_then R S keeps r s = record {
  one = λ l hs rest a ks more b none e c d p q.
      let it = same_then_by {X = Unit {0}} R R (λ z zs w. NoneBroken z × S z zs w) (λ z zs w. NoneBroken z × S z zs w) l hs rest a ks more b e c d
      (record { mid = p.mid; prefix = p.prefix; back = p.back; whole = p.whole; first = p.first; second = (keeps l p.prefix p.mid none p.first, p.second) })
      (record { mid = q.mid; prefix = q.prefix; back = q.back; whole = q.whole; first = q.first; second = (keeps l q.prefix q.mid none q.first, q.second) })
      (λ left right both calm still. let first = r.one l p.prefix left p.mid q.prefix right q.mid none both calm still p.first q.first in (tt, first.0, first.1))
      (λ u. record { one = λ z xs xrest w ys ymore v f g h x y. s.one z xs xrest w ys ymore v x.0 f g h x.1 y.1 }) in
      (it.1, it.2);
}

onward_if : (test : Bool) (R S : Rel) → Onward R → Onward S → Onward (If test R S)
onward_if true R S r s = record { one = λ l hs rest a ks more b none e c d p q. r.one l hs rest a ks more b none e c d p q }
onward_if false R S r s = record { one = λ l hs rest a ks more b none e c d p q. s.one l hs rest a ks more b none e c d p q }

unbroken_each : (n : ℕ) (R : ℕ → Rel) → ((i : ℕ) → Unbroken (R i)) → Unbroken (Each n R)
unbroken_each zero R each = unbroken_nothing
unbroken_each (suc n) R each = unbroken_then (Each n R) (R n) (unbroken_each n R each) (each n)

onward_each : (n : ℕ) (R : ℕ → Rel) → ((i : ℕ) → Unbroken (R i)) → ((i : ℕ) → Onward (R i)) → Onward (Each n R)
onward_each zero R keeps each = onward Nothing same_nothing
onward_each (suc n) R keeps each = onward_then (Each n R) (R n) (unbroken_each n R keeps) (onward_each n R keeps each) (each n)

-- a connection that is accepted isn't broken
opened_sound : (t : Bool) (door : Door) (id : ℕ) (o : Option Entry) → IsBroken (if t then Some (opening_entry door id) else o) → (IsBroken o → ⊥) → ⊥
opened_sound true door id o is none = never is
  where
    never : false ≡ true → ⊥
    never same = cc
opened_sound false door id o is none = none is

unbroken_polls : (poll : Poll) → Unbroken (Polls poll)
unbroken_polls poll l hs l' none it = subst NoneBroken (sym it.1) none

unbroken_opens : (door : Door) (id : ℕ) → Unbroken (Opens door id)
unbroken_opens door id l hs l' none (inl (key, free, is, after)) other broken = opened_sound (other == key) door id (l.entries other) (subst (λ (x : Ledger). IsBroken (x.entries other)) after broken) (none other)
unbroken_opens door id l hs l' none (inr it) other broken = none other (subst (λ (x : Ledger). IsBroken (x.entries other)) it.1 broken)

unbroken_accepts_as : (door : Door) (answer : Progress ℕ) → Unbroken (AcceptsAs door answer)
unbroken_accepts_as door (wire.Done id) = unbroken_then (Polls (Accepts door (wire.Done id))) (Opens door id) (unbroken_polls (Accepts door (wire.Done id))) (unbroken_opens door id)
unbroken_accepts_as door wire.Waiting = unbroken_polls (Accepts door wire.Waiting)
unbroken_accepts_as door wire.End = unbroken_polls (Accepts door wire.End)
unbroken_accepts_as door wire.Fault = unbroken_polls (Accepts door wire.Fault)

unbroken_accepts : (door : Door) → Unbroken (AcceptsAt door)
unbroken_accepts door l hs l' none it = by (nat_lt l.count CONNECTIONS) it
  where
    by : (t : Bool) → If t (AcceptsOne door) Nothing l hs l' → NoneBroken l'
    by true (answer, one) = unbroken_accepts_as door answer l hs l' none one
    by false still = subst NoneBroken (sym still.1) none

unbroken_ticks : (moment : ℕ) → Unbroken (TicksIfDue moment)
unbroken_ticks moment l hs l' none it = by (is_tick_due moment l) it
  where
    by : (t : Bool) → If t (Then (Ticks moment) (ClosesBroken moment)) Nothing l hs l' → NoneBroken l'
    by true ticks = ticks.second.1
    by false still = subst NoneBroken (sym still.1) none

-- ---- what is seen notifies whether memory was refused

chosen_calm : (choice : Choice) (hs : List Happening) → has_refusal (key_chosen choice ++ hs) ≡ has_refusal hs
chosen_calm Found hs = refl
chosen_calm (Opened key) hs = refl
chosen_calm (Asked part loss) hs = refl
chosen_calm Rested hs = refl
chosen_calm (Looked keys) hs = refl

refusal_seen : (hs : List Happening) → has_refusal (keyed hs) ≡ has_refusal hs
refusal_seen [] = refl
refusal_seen (Polled poll ∷ hs) = refusal_seen hs
refusal_seen (Notified note ∷ hs) = ap (λ (t : Bool). is_refusal (Notified note) || t) (refusal_seen hs)
refusal_seen (Chosen choice ∷ hs) = chosen_calm choice (keyed hs) ∙ refusal_seen hs

happened_seen : (action : Action) → happenings_of (keyed_of action) ≡ keyed (happenings_of action)
happened_seen (Turned moment hs) = refl
happened_seen (Served_body moment body answer hs) = refl
happened_seen (Reported moment device parsed hs) = refl
happened_seen (Ticked moment hs) = refl

trace_seen : (trace : Trace) → happenings_in (keyed_in trace) ≡ keyed (happenings_in trace)
trace_seen [] = refl
trace_seen (action ∷ actions) = ap (λ (xs : List Happening). happenings_of (keyed_of action) ++ xs) (trace_seen actions) ∙ (ap (λ (xs : List Happening). xs ++ keyed (happenings_in actions)) (happened_seen action) ∙ sym (keyed_append (happenings_of action) (happenings_in actions)))

trace_calm : (trace : Trace) → has_refusal (happenings_in (keyed_in trace)) ≡ has_refusal (happenings_in trace)
trace_calm trace = ap has_refusal (trace_seen trace) ∙ refusal_seen (happenings_in trace)

calm_as : (one other : Trace) → keyed_in one ≡ keyed_in other → Calm (happenings_in one) → Calm (happenings_in other)
calm_as one other same calm = sym (trace_calm other) ∙ (sym (ap (λ (t : Trace). has_refusal (happenings_in t)) same) ∙ (trace_calm one ∙ calm))

module _ (steps : StepsOnce) (queries : SameQueries) (asks : AsksOne) (bodies : AsksOnce) (some : SomeParse) (stays : FirstStays) (no_item : NoItemFollows) (one_lpd : OneLpdParse) (no_report : NoReportFollows) where
  -- ---- reads

  closes_broken : (moment : ℕ) → One (ClosesBroken moment)
  closes_broken moment = same_closes_broken steps queries moment

  fed_whole : (moment key : ℕ) (e : Entry) (bytes : List ℕ) (l : Ledger) (hs rest : List Happening) (a : Ledger) (ks more : List Happening) (b : Ledger) → NoneBroken l → l.entries key ≡ Some e → keyed hs ++ rest ≡ keyed ks ++ more → Calm hs → Calm ks → FedWhole moment key e bytes l hs a → FedWhole moment key e bytes l ks b → (keyed hs ≡ keyed ks) × (a ≡ b)
  fed_whole moment key e bytes l hs rest a ks more b none there same c d (inr p) q = absurd ((refuses_then (Drops At.Feed key e) (ClosesBroken moment) (refuses_drops At.Feed key e)).never l hs a p c)
  fed_whole moment key e bytes l hs rest a ks more b none there same c d (inl p) (inr q) = absurd ((refuses_then (Drops At.Feed key e) (ClosesBroken moment) (refuses_drops At.Feed key e)).never l ks b q d)
  fed_whole moment key e bytes l hs rest a ks more b none there same c d (inl p) (inl q) =
      let sound : NoneBroken p.mid = unbroken_sets key e (reading bytes e) l p.prefix p.mid none there refl p.first in
      let seen : keyed hs ≡ keyed p.back = ap keyed (p.whole ∙ ap (λ (xs : List Happening). xs ++ p.back) p.first.0) in
      let saw : keyed ks ≡ keyed q.back = ap keyed (q.whole ∙ ap (λ (xs : List Happening). xs ++ q.back) q.first.0) in
      let both : keyed p.back ++ rest ≡ keyed q.back ++ more = sym (ap (λ (xs : List Happening). xs ++ rest) seen) ∙ (same ∙ ap (λ (xs : List Happening). xs ++ more) saw) in
      let it = serves_same some stays no_item one_lpd no_report steps queries asks moment key p.mid p.back rest a q.back more b sound both (calm_last hs p.prefix p.back p.whole c) (calm_last ks q.prefix q.back q.whole d) p.second (subst (λ (x : Ledger). Serves moment key x q.back b) (q.first.1 ∙ sym p.first.1) q.second) in
      (seen ∙ (it.0 ∙ sym saw), it.1)

  feeds_if : (t : Bool) (moment key : ℕ) (e : Entry) (bytes : List ℕ) (l : Ledger) (hs rest : List Happening) (a : Ledger) (ks more : List Happening) (b : Ledger) → NoneBroken l → l.entries key ≡ Some e → keyed hs ++ rest ≡ keyed ks ++ more → Calm hs → Calm ks → If t (Sets key e) (FedWhole moment key e bytes) l hs a → If t (Sets key e) (FedWhole moment key e bytes) l ks b → (keyed hs ≡ keyed ks) × (a ≡ b)
  feeds_if true moment key e bytes l hs rest a ks more b none there same c d p q = (same_sets key e).one l hs rest a ks more b same c d p q
  feeds_if false moment key e bytes l hs rest a ks more b none there same c d p q = fed_whole moment key e bytes l hs rest a ks more b none there same c d p q

  feeds_at : (moment key : ℕ) (bytes : List ℕ) (o : Option Entry) (l : Ledger) (hs rest : List Happening) (a : Ledger) (ks more : List Happening) (b : Ledger) → NoneBroken l → l.entries key ≡ o → keyed hs ++ rest ≡ keyed ks ++ more → Calm hs → Calm ks → FeedsAt moment key bytes o l hs a → FeedsAt moment key bytes o l ks b → (keyed hs ≡ keyed ks) × (a ≡ b)
  feeds_at moment key bytes None l hs rest a ks more b none there same c d p q = same_nothing.one l hs rest a ks more b same c d p q
  feeds_at moment key bytes (Some e) l hs rest a ks more b none there same c d p q = feeds_if e.draining moment key e bytes l hs rest a ks more b none there same c d p q

  feeds : (moment key : ℕ) (bytes : List ℕ) → Onward (FeedsOne moment key bytes)
  feeds moment key bytes = record { one = λ l hs rest a ks more b none e c d p q. feeds_at moment key bytes (l.entries key) l hs rest a ks more b none refl e c d p q }

  same_fails : (moment key : ℕ) → One (Fails moment key)
  same_fails moment key = same_then (same_breaks key) (closes_broken moment)

  reads_as : (moment key : ℕ) (e : Entry) (answer : Progress (List ℕ)) → Onward (ReadsAs moment key e answer)
  reads_as moment key e (wire.Done bytes) = onward_then (Polls (Reads e.id (wire.Done bytes))) (FeedsOne moment key bytes) (unbroken_polls (Reads e.id (wire.Done bytes))) (onward (Polls (Reads e.id (wire.Done bytes))) (same_polls (Reads e.id (wire.Done bytes)))) (feeds moment key bytes)
  reads_as moment key e wire.Waiting = onward (Polls (Reads e.id wire.Waiting)) (same_polls (Reads e.id wire.Waiting))
  reads_as moment key e wire.End = onward (Then (Polls (Reads e.id wire.End)) (Sets key (record e { ended = true }))) (same_then (same_polls (Reads e.id wire.End)) (same_sets key (record e { ended = true })))
  reads_as moment key e wire.Fault = onward (Then (Polls (Reads e.id wire.Fault)) (Fails moment key)) (same_then (same_polls (Reads e.id wire.Fault)) (same_fails moment key))

  read_first : (moment key : ℕ) (e : Entry) (answer : Progress (List ℕ)) (l : Ledger) (hs : List Happening) (a : Ledger) → ReadsAs moment key e answer l hs a → IsFirst (Reads e.id answer) hs
  read_first moment key e (wire.Done bytes) l hs a it = poll_then (Reads e.id (wire.Done bytes)) (FeedsOne moment key bytes) l hs a it
  read_first moment key e wire.Waiting l hs a it = just_polled (Reads e.id wire.Waiting) l hs a it
  read_first moment key e wire.End l hs a it = poll_then (Reads e.id wire.End) (Sets key (record e { ended = true })) l hs a it
  read_first moment key e wire.Fault l hs a it = poll_then (Reads e.id wire.Fault) (Fails moment key) l hs a it

  same_read : (id : ℕ) (answer other : Progress (List ℕ)) → Reads id answer ≡ Reads id other → answer ≡ other
  same_read id answer other same = cc

  reads_open : (moment key : ℕ) (x : Entry) → Onward (ReadsOpen moment key x)
  reads_open moment key x = record {
    one = λ l hs rest a ks more b none e c d (answer, segment, p) (other, its, q).
        let same : answer ≡ other = same_read x.id answer other (one_poll (Reads x.id answer) (Reads x.id other) hs rest ks more e (read_first moment key x answer l hs a p) (read_first moment key x other l ks b q)) in
        (reads_as moment key x answer).one l hs rest a ks more b none e c d p (subst (λ (y : Progress (List ℕ)). ReadsAs moment key x y l ks b) (sym same) q);
  }

  reads_at : (moment key : ℕ) (o : Option Entry) → Onward (ReadsAt moment key o)
  reads_at moment key None = onward Nothing same_nothing
  reads_at moment key (Some e) = onward_if (is_read e) (ReadsOpen moment key e) Nothing (reads_open moment key e) (onward Nothing same_nothing)

  reads : (moment key : ℕ) → Onward (ReadsOne moment key)
  reads moment key = record { one = λ l hs rest a ks more b none e c d p q. (reads_at moment key (l.entries key)).one l hs rest a ks more b none e c d p q }

  -- ---- writes

  writes_as : (moment key : ℕ) (e : Entry) (offered : List ℕ) (answer : Progress ℕ) → One (WritesAs moment key e offered answer)
  writes_as moment key e offered (wire.Done n) = same_then (same_polls (Writes e.id offered (wire.Done n))) (same_sets key (record e { taken = e.taken ++ take n offered }))
  writes_as moment key e offered wire.Waiting = same_polls (Writes e.id offered wire.Waiting)
  writes_as moment key e offered wire.End = same_then (same_polls (Writes e.id offered wire.End)) (same_fails moment key)
  writes_as moment key e offered wire.Fault = same_then (same_polls (Writes e.id offered wire.Fault)) (same_fails moment key)

  write_first : (moment key : ℕ) (e : Entry) (offered : List ℕ) (answer : Progress ℕ) (l : Ledger) (hs : List Happening) (a : Ledger) → WritesAs moment key e offered answer l hs a → IsFirst (Writes e.id offered answer) hs
  write_first moment key e offered (wire.Done n) l hs a it = poll_then (Writes e.id offered (wire.Done n)) (Sets key (record e { taken = e.taken ++ take n offered })) l hs a it
  write_first moment key e offered wire.Waiting l hs a it = just_polled (Writes e.id offered wire.Waiting) l hs a it
  write_first moment key e offered wire.End l hs a it = poll_then (Writes e.id offered wire.End) (Fails moment key) l hs a it
  write_first moment key e offered wire.Fault l hs a it = poll_then (Writes e.id offered wire.Fault) (Fails moment key) l hs a it

  same_write : (id : ℕ) (offered bytes : List ℕ) (answer other : Progress ℕ) → Writes id offered answer ≡ Writes id bytes other → (offered ≡ bytes) × (answer ≡ other)
  same_write id offered bytes answer other same = (cc, cc)

  writes_open : (moment key : ℕ) (x : Entry) → One (WritesOpen moment key x)
  writes_open moment key x = record {
    one = λ l hs rest a ks more b e c d (offered, prefix, answer, p) (bytes, its, other, q).
        let same = same_write x.id offered bytes answer other (one_poll (Writes x.id offered answer) (Writes x.id bytes other) hs rest ks more e (write_first moment key x offered answer l hs a p) (write_first moment key x bytes other l ks b q)) in
        (writes_as moment key x offered answer).one l hs rest a ks more b e c d p (subst (λ (y : Progress ℕ). WritesAs moment key x offered y l ks b) (sym same.1) (subst (λ (y : List ℕ). WritesAs moment key x y other l ks b) (sym same.0) q));
  }

  writes_at : (moment key : ℕ) (o : Option Entry) → One (WritesAt moment key o)
  writes_at moment key None = same_nothing
  writes_at moment key (Some e) = same_if (nat_lt 0 (length (waiting e))) {R = WritesOpen moment key e} {R' = WritesOpen moment key e} {S = Nothing} {S' = Nothing} (writes_open moment key e) same_nothing

  writes : (moment key : ℕ) → Onward (WritesOne moment key)
  writes moment key = record { one = λ l hs rest a ks more b none e c d p q. (writes_at moment key (l.entries key)).one l hs rest a ks more b e c d p q }

  -- ---- closings

  ends_at : (moment key : ℕ) (o : Option Entry) → One (EndsAt moment key o)
  ends_at moment key None = same_nothing
  ends_at moment key (Some e) = same_if (is_done e) (same_then (same_closes_as steps queries moment Drained key e) (closes_broken moment)) same_nothing

  ends : (moment key : ℕ) → Onward (EndsOne moment key)
  ends moment key = record { one = λ l hs rest a ks more b none e c d p q. (ends_at moment key (l.entries key)).one l hs rest a ks more b e c d p q }

  -- ---- ticks

  ticks_at : (moment now : ℕ) → One (Then (Notes now) (Unanswered moment Is.Tick))
  ticks_at moment now = same_then (same_just (λ l. []) (λ l. record l { ticked = Some now })) (one_tick steps moment)

  same_ticks : (moment : ℕ) → One (Ticks moment)
  same_ticks moment = record { one = λ l hs rest a ks more b e c d p q. (ticks_at moment (now_at moment l)).one l hs rest a ks more b e c d p q }

  tick_due : (moment : ℕ) → One (TicksIfDue moment)
  tick_due moment = record { one = λ l hs rest a ks more b e c d p q. (same_if (is_tick_due moment l) (same_then (same_ticks moment) (closes_broken moment)) same_nothing).one l hs rest a ks more b e c d p q }

  -- ---- a round over keys: the keys that no connection has don't count

  NoneFrom : ℕ → Ledger → Type 0
  NoneFrom n l = (key : ℕ) → n ≤ key → l.entries key ≡ None

  -- where no connection is open nothing happens, and none is opened under another key
  record Passes (R : ℕ → Rel) : Type 0 where
    empty : (key : ℕ) (l : Ledger) (hs : List Happening) (a : Ledger) → l.entries key ≡ None → R key l hs a → (hs ≡ []) × (a ≡ l)
    others : (key other : ℕ) (l : Ledger) (hs : List Happening) (a : Ledger) → other ≢ key → R key l hs a → l.entries other ≡ None → a.entries other ≡ None

  passes_reads : (moment : ℕ) → Passes (ReadsOne moment)
  passes_reads moment = record {
    empty = λ key l hs a none it. subst (λ (o : Option Entry). ReadsAt moment key o l hs a) none it;
    others = λ key other l hs a apart it none. ((spares_reads (Bears key a) moment key l hs a (λ device fit. fit) it).each other apart).none none;
  }

  passes_writes : (moment : ℕ) → Passes (WritesOne moment)
  passes_writes moment = record {
    empty = λ key l hs a none it. subst (λ (o : Option Entry). WritesAt moment key o l hs a) none it;
    others = λ key other l hs a apart it none. ((spares_writes (Bears key a) moment key l hs a it).each other apart).none none;
  }

  passes_ends : (moment : ℕ) → Passes (EndsOne moment)
  passes_ends moment = record {
    empty = λ key l hs a none it. subst (λ (o : Option Entry). EndsAt moment key o l hs a) none it;
    others = λ key other l hs a apart it none. ((spares_ends (Bears key a) moment key l hs a it).each other apart).none none;
  }

  none_next : (R : ℕ → Rel) → Passes R → (n m : ℕ) → (l : Ledger) (hs : List Happening) (a : Ledger) → NoneFrom n l → R m l hs a → NoneFrom n a
  unfolding NoneFrom
  none_next R passes n m l hs a none it = λ key le. by key le (key == m) refl
    where
      at : (key : ℕ) → l.entries m ≡ None → l.entries key ≡ None → a.entries key ≡ None
      at key free is = ap (λ (x : Ledger). x.entries key) (passes.empty m l hs a free it).1 ∙ is

      by : (key : ℕ) → n ≤ key → (t : Bool) → (key == m) ≡ t → a.entries key ≡ None
      by key le true is = at key (subst (λ (k : ℕ). l.entries k ≡ None) (same_key key m is) (none key le)) (none key le)
      by key le false is = passes.others m key l hs a (other_key key m is) it (none key le)

  none_after : (R : ℕ → Rel) → Passes R → (n m : ℕ) → (l : Ledger) (hs : List Happening) (a : Ledger) → NoneFrom n l → Each m R l hs a → NoneFrom n a
  unfolding NoneFrom
  none_after R passes n zero l hs a none it = λ key le. ap (λ (x : Ledger). x.entries key) it.1 ∙ none key le
  none_after R passes n (suc m) l hs a none it = none_next R passes n m it.mid it.back a (none_after R passes n m l it.prefix it.mid none it.first) it.second

  least : (k : ℕ) → k ≤ 0 → k ≡ 0
  least k small = omega arith

  below : (n m : ℕ) → n ≤ suc m → (n == suc m) ≡ false → n ≤ m
  below n m le is = grind (arith, nat_tests, is, le)

  shrink_by : (R : ℕ → Rel) → Passes R → (n m : ℕ) → n ≤ suc m → (l : Ledger) (hs : List Happening) (a : Ledger) → NoneFrom n l → Each (suc m) R l hs a → ((xs : List Happening) (x : Ledger) → n ≤ m → Each m R l xs x → Each n R l xs x) → (t : Bool) → (n == suc m) ≡ t → Each n R l hs a
  unfolding NoneFrom
  shrink_by R passes n m le l hs a none it rest true is = subst (λ (k : ℕ). Each k R l hs a) (sym (same_key n (suc m) is)) it
  shrink_by R passes n m le l hs a none it rest false is =
      let small = below n m le is in
      let free : it.mid.entries m ≡ None = none_after R passes n m l it.prefix it.mid none it.first m small in
      let still = passes.empty m it.mid it.back a free it.second in
      let whole : hs ≡ it.prefix = it.whole ∙ (ap (λ (xs : List Happening). it.prefix ++ xs) still.0 ∙ append-nil it.prefix) in
      rest hs a small (subst (λ (x : Ledger). Each m R l hs x) (sym still.1) (subst (λ (xs : List Happening). Each m R l xs it.mid) (sym whole) it.first))

  shrink : (R : ℕ → Rel) → Passes R → (n m : ℕ) → n ≤ m → (l : Ledger) (hs : List Happening) (a : Ledger) → NoneFrom n l → Each m R l hs a → Each n R l hs a
  shrink R passes n zero le l hs a none it = subst (λ (k : ℕ). Each k R l hs a) (sym (least n le)) it
  shrink R passes n (suc m) le l hs a none it = shrink_by R passes n m le l hs a none it (λ xs x small one. shrink R passes n m small l xs x none one) (n == suc m) refl

  -- a round, without the choice of its keys
  abbrev Goes : ℕ → ℕ → Rel
  Goes moment n = Then (Each n (ReadsOne moment)) (Then (Each n (WritesOne moment)) (Each n (EndsOne moment)))

  shorter : (moment n m : ℕ) → n ≤ m → (l : Ledger) (hs : List Happening) (a : Ledger) → NoneFrom n l → Goes moment m l hs a → Goes moment n l hs a
  shorter moment n m le l hs a none it =
      let rest = it.second in
      let read = none_after (ReadsOne moment) (passes_reads moment) n m l it.prefix it.mid none it.first in
      let wrote = none_after (WritesOne moment) (passes_writes moment) n m it.mid rest.prefix rest.mid read rest.first in
      record {
        mid = it.mid;
        prefix = it.prefix;
        back = it.back;
        whole = it.whole;
        first = shrink (ReadsOne moment) (passes_reads moment) n m le l it.prefix it.mid none it.first;
        second = record {
          mid = rest.mid;
          prefix = rest.prefix;
          back = rest.back;
          whole = rest.whole;
          first = shrink (WritesOne moment) (passes_writes moment) n m le it.mid rest.prefix rest.mid read rest.first;
          second = shrink (EndsOne moment) (passes_ends moment) n m le rest.mid rest.back a wrote rest.second;
        };
      }

  goes : (moment n : ℕ) → Onward (Goes moment n)
  goes moment n =
      onward_then (Each n (ReadsOne moment)) (Then (Each n (WritesOne moment)) (Each n (EndsOne moment))) (unbroken_each n (ReadsOne moment) (unbroken_reads moment)) (onward_each n (ReadsOne moment) (unbroken_reads moment) (reads moment))
      (onward_then (Each n (WritesOne moment)) (Each n (EndsOne moment)) (unbroken_each n (WritesOne moment) (unbroken_writes moment)) (onward_each n (WritesOne moment) (unbroken_writes moment) (writes moment)) (onward_each n (EndsOne moment) (unbroken_ends moment) (ends moment)))

  round_same : (moment : ℕ) → Onward (Round moment)
  unfolding NoneFrom
  round_same moment = record { one = λ l hs rest a ks more b none e c d (n, p) (m, q). by n m l hs rest a ks more b none e c d p q (at_most n m) }
    where
      at_most : (n m : ℕ) → (n ≤ m) ⊎ (m ≤ n)
      at_most zero m = inl (omega arith)
      at_most (suc n) zero = inr (omega arith)
      at_most (suc n) (suc m) = more (at_most n m)
        where
          more : (n ≤ m) ⊎ (m ≤ n) → (suc n ≤ suc m) ⊎ (suc m ≤ suc n)
          more (inl le) = inl (omega (arith, le))
          more (inr le) = inr (omega (arith, le))

      looked : (n : ℕ) (l : Ledger) (hs : List Happening) (a : Ledger) → (p : Rounds moment n l hs a) → (keyed hs ≡ keyed p.back) × Goes moment n l p.back a
      looked n l hs a p = (ap keyed p.whole ∙ (keyed_append p.prefix p.back ∙ ap (λ (xs : List Happening). keyed xs ++ keyed p.back) p.first.1.0), subst (λ (x : Ledger). Goes moment n x p.back a) p.first.1.1 p.second)

      by : (n m : ℕ) (l : Ledger) (hs rest : List Happening) (a : Ledger) (ks more : List Happening) (b : Ledger) → NoneBroken l → keyed hs ++ rest ≡ keyed ks ++ more → Calm hs → Calm ks → (p : Rounds moment n l hs a) (q : Rounds moment m l ks b) → (n ≤ m) ⊎ (m ≤ n) → (keyed hs ≡ keyed ks) × (a ≡ b)
      by n m l hs rest a ks more b none e c d p q (inl le) =
          let x = looked n l hs a p in
          let y = looked m l ks b q in
          let both : keyed p.back ++ rest ≡ keyed q.back ++ more = sym (ap (λ (xs : List Happening). xs ++ rest) x.0) ∙ (e ∙ ap (λ (xs : List Happening). xs ++ more) y.0) in
          let it = (goes moment n).one l p.back rest a q.back more b none both (calm_last hs p.prefix p.back p.whole c) (calm_last ks q.prefix q.back q.whole d) x.1 (shorter moment n m le l q.back b p.first.0 y.1) in
          (x.0 ∙ (it.0 ∙ sym y.0), it.1)
      by n m l hs rest a ks more b none e c d p q (inr le) =
          let x = looked n l hs a p in
          let y = looked m l ks b q in
          let both : keyed p.back ++ rest ≡ keyed q.back ++ more = sym (ap (λ (xs : List Happening). xs ++ rest) x.0) ∙ (e ∙ ap (λ (xs : List Happening). xs ++ more) y.0) in
          let it = (goes moment m).one l p.back rest a q.back more b none both (calm_last hs p.prefix p.back p.whole c) (calm_last ks q.prefix q.back q.whole d) (shorter moment m n le l p.back a q.first.0 x.1) y.1 in
          (x.0 ∙ (it.0 ∙ sym y.0), it.1)

  -- ---- a turn

  abbrev Later : ℕ → Rel
  Later moment = Then (TicksIfDue moment) (Then (AcceptsAt Ipp) (Then (AcceptsAt Lpd) (Then (AcceptsAt Devices) (Round moment))))

  later_same : (moment : ℕ) → Onward (Later moment)
  later_same moment =
      onward_then (TicksIfDue moment) (Then (AcceptsAt Ipp) (Then (AcceptsAt Lpd) (Then (AcceptsAt Devices) (Round moment)))) (unbroken_ticks moment) (onward (TicksIfDue moment) (tick_due moment))
      (onward_then (AcceptsAt Ipp) (Then (AcceptsAt Lpd) (Then (AcceptsAt Devices) (Round moment))) (unbroken_accepts Ipp) (onward (AcceptsAt Ipp) (same_accepts Ipp))
      (onward_then (AcceptsAt Lpd) (Then (AcceptsAt Devices) (Round moment)) (unbroken_accepts Lpd) (onward (AcceptsAt Lpd) (same_accepts Lpd))
      (onward_then (AcceptsAt Devices) (Round moment) (unbroken_accepts Devices) (onward (AcceptsAt Devices) (same_accepts Devices)) (round_same moment))))

  turn_same : (moment : ℕ) → One (Turn moment)
  turn_same moment = record {
    one = λ l hs rest a ks more b e c d p q.
        let it = same_then_by {X = Unit {0}} (ClosesBroken moment) (ClosesBroken moment) (λ z zs w. NoneBroken z × Later moment z zs w) (λ z zs w. NoneBroken z × Later moment z zs w) l hs rest a ks more b e c d
        (record { mid = p.mid; prefix = p.prefix; back = p.back; whole = p.whole; first = p.first; second = (p.first.1, p.second) }) (record { mid = q.mid; prefix = q.prefix; back = q.back; whole = q.whole; first = q.first; second = (q.first.1, q.second) })
        (λ left right both calm still. let first = (closes_broken moment).one l p.prefix left p.mid q.prefix right q.mid both calm still p.first q.first in (tt, first.0, first.1))
        (λ u. record { one = λ z xs xrest w ys ymore v f g h x y. (later_same moment).one z xs xrest w ys ymore v x.0 f g h x.1 y.1 }) in
        (it.1, it.2);
  }

  -- ---- calls between turns

  refused_between : One (Or (Chooses Found) (Notifies (Refused At.Reply None)))
  refused_between = same_or (refuses_notifies At.Reply None) (refuses_notifies At.Reply None) (same_chooses Found)

  body_asks : (moment : ℕ) (it : ParsedRequest) (served other : Between.Outcome) → Same (BodyAsks moment it served) (BodyAsks moment it other)
  body_asks moment asked.TooShort served other = record { one = λ l hs rest a ks more b e c d p q. same_nothing.one l hs rest a ks more b e c d p.1 q.1 }
  body_asks moment (asked.Refused status request) served other = record { one = λ l hs rest a ks more b e c d p q. refused_between.one l hs rest a ks more b e c d p.1 q.1 }
  body_asks moment (asked.Event request event) served other = record { one = λ l hs rest a ks more b e c d (bytes, is, p) (parsed, its, q). (same_body steps moment request event bytes parsed (same_self event)).one l hs rest a ks more b e c d p q }

  body_comes : (moment : ℕ) (body : List ℕ) (served other : Between.Outcome) (l : Ledger) (hs rest : List Happening) (a : Ledger) (ks more : List Happening) (b : Ledger) → keyed hs ++ rest ≡ keyed ks ++ more → Calm hs → Calm ks → BodyComes moment body served l hs a → BodyComes moment body other l ks b → (keyed hs ≡ keyed ks) × (a ≡ b)
  body_comes moment body served other l hs rest a ks more b e c d (inl (one, is, p)) (inl (parsed, its, q)) =
      let same : parsed ≡ one = bodies body parsed one its is in
      (same_then (same_chooses Found) (body_asks moment one served other)).one l hs rest a ks more b e c d p (subst (λ (x : ParsedRequest). Then (Chooses Found) (BodyAsks moment x other) l ks b) same q)
  body_comes moment body served other l hs rest a ks more b e c d (inr p) q = absurd ((refuses_notifies At.Event None).never l hs a p c)
  body_comes moment body served other l hs rest a ks more b e c d (inl p) (inr q) = absurd ((refuses_notifies At.Event None).never l ks b q d)

  -- ---- traces

  -- two relations that take all that is seen, with no rest after it, have one end
  all_one : (R : Rel) → One R → (l : Ledger) (hs ks : List Happening) (a b : Ledger) → keyed hs ≡ keyed ks → Calm hs → Calm ks → R l hs a → R l ks b → a ≡ b
  all_one R r l hs ks a b same c d p q = let it = r.one l hs [] a ks [] b (ap (λ (xs : List Happening). xs ++ []) same) c d p q in it.1

  action_same : (one other : Action) (l a b : Ledger) → keyed_of one ≡ keyed_of other → Calm (happenings_of one) → Calm (happenings_of other) → DoesAction one l a → DoesAction other l b → a ≡ b
  action_same (Turned moment hs) (Turned at ks) l a b same c d p q =
      let it : (moment ≡ at) × (keyed hs ≡ keyed ks) = (cc, cc) in all_one (Turn moment) (turn_same moment) l hs ks a b it.1 c d p (subst (λ (m : ℕ). Turn m l ks b) (sym it.0) q)
  action_same (Served_body moment body answer hs) (Served_body at text parsed ks) l a b same c d (served, is, p) (other, its, q) =
      let it : (moment ≡ at) × (body ≡ text) × (keyed hs ≡ keyed ks) = (cc, cc, cc) in
      let comes : BodyComes moment body other l ks b = subst (λ (m : ℕ). BodyComes m body other l ks b) (sym it.0) (subst (λ (x : List ℕ). BodyComes at x other l ks b) (sym it.1) q) in
      let end = body_comes moment body served other l hs [] a ks [] b (ap (λ (xs : List Happening). xs ++ []) it.2) c d p comes in
      end.1
  action_same (Reported moment device parsed hs) (Reported at other notified ks) l a b same c d p q =
      let it : (moment ≡ at) × (device ≡ other) × (parsed ≡ notified) × (keyed hs ≡ keyed ks) = (cc, cc, cc, cc) in
      let reports : Between.Reports moment device parsed l ks b =
      subst (λ (m : ℕ). Between.Reports m device parsed l ks b) (sym it.0) (subst (λ (x : ℕ). Between.Reports at x parsed l ks b) (sym it.1) (subst (λ (x : ReportRecord). Between.Reports at other x l ks b) (sym it.2) q)) in
      all_one (Between.Reports moment device parsed) (same_reports steps queries moment device parsed) l hs ks a b it.3 c d p reports
  action_same (Ticked moment hs) (Ticked at ks) l a b same c d p q =
      let it : (moment ≡ at) × (keyed hs ≡ keyed ks) = (cc, cc) in all_one (Ticks moment) (same_ticks moment) l hs ks a b it.1 c d p (subst (λ (m : ℕ). Ticks m l ks b) (sym it.0) q)
  action_same one other l a b same c d p q = cc

  leads : (one other : Trace) (old l m : Ledger) → keyed_in one ≡ keyed_in other → Calm (happenings_in one) → Calm (happenings_in other) → Runs one old l → Runs other old m → l ≡ m
  leads [] [] old l m same c d p q = p ∙ sym q
  leads [] (action ∷ actions) old l m same c d p q = cc
  leads (action ∷ actions) [] old l m same c d p q = cc
  leads (action ∷ actions) (other ∷ others) old l m same c d (mid, does, runs) (next, did, ran) =
      let first : keyed_of action ≡ keyed_of other = cc in
      let rest : keyed_in actions ≡ keyed_in others = cc in
      let one : mid ≡ next = action_same action other old mid next first (calm_prefix (happenings_of action) (happenings_in actions) c) (calm_prefix (happenings_of other) (happenings_in others) d) does did in
      leads actions others mid l m rest (calm_back (happenings_of action) (happenings_in actions) c) (calm_back (happenings_of other) (happenings_in others) d) runs (subst (λ (x : Ledger). Runs others x m) (sym one) ran)

  pub seen_leads_to_one : SeenLeadsToOne
  seen_leads_to_one opening one other l m runs ran same calm = leads one other (opening_ledger opening) l m same calm (calm_as one other same calm) runs ran
