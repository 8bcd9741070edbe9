-- A turn in which each connection is lost.
use Rattle.std.proofs.Common.{◌≡◌, ℕ, zero, suc, max, Bool, true, false, List, [], ◌∷◌, ◌++◌, refl, sym, ◌∙◌, ap, subst, arith, Option, Some, None, inl, inr}
use Rattle.std.specs.Prelude.{nat_lt, length, map, take, Contains}
use Rattle.base_types.specs.declared.limits.TheConstants.Limits.{CONNECTIONS}
use Rattle.base_types.specs.declared.report.Report.TheVariants.{Gone}
use Rattle.print_room.specs.State.{State}
use Rattle.print_room.specs.Dispatch.{marked_state, beginning_all, Dispatches}
use Rattle.print_room.specs.declared.started.Started.{Started}
use Rattle.plan_prices.specs.Plan.{PlanRecord}
use Rattle.events.specs.declared.event.Event.TheVariants as Is
use Rattle.events.specs.declared.effects.Effects.{Effects}
use Rattle.events.specs.declared.effects.Cancel.{Cancel}
use Rattle.dispatcher.specs.declared.observer.AllocationSite.TheVariants.{Enqueue}
use Rattle.dispatcher.specs.Notes.{Note, Planned}
use Rattle.dispatcher.specs.declared.handled.Dispatch.{Dispatch}
use Rattle.dispatcher.specs.declared.handled.Dispatch.TheVariants as dispatch
use Rattle.dispatcher.specs.Following.{Follows}
use Rattle.dispatcher.specs.Run.{Outcome, Handles, cancel_notes}
use Rattle.wires.specs.Poll.{Poll, Accepts, Reads, Writes}
use Rattle.wires.specs.declared.wire.Progress.{Progress}
use Rattle.wires.specs.declared.wire.Progress.TheVariants as wire
use Rattle.wires.specs.declared.wire.Door.{Door}
use Rattle.wires.specs.declared.wire.Door.TheVariants.{Ipp, Lpd, Devices}
use Rattle.connections.specs.Entry.{Entry, device_of, broken, owing, needs_memory, waiting}
use Rattle.device_link.specs.Orders.{cancel_line}
use Rattle.server.specs.Polls.{Happening, Polled, Notified, Chosen, Choice, Found, Looked, seen}
use Rattle.server.specs.Ledger.{Ledger, Fate, Drained, Broken, with_entry, without, job_bytes}
use Rattle.server.specs.Rel.{Rel, Nothing, Polls, Chooses, Then, If, Or, Times, Each, EachOf}
use Rattle.server.specs.Enqueuing.{Sets, Breaks, BreaksAt, Drops, EnqueuesOpen, EnqueuesAt, EnqueuesOn}
use Rattle.server.specs.Happening.{Decides, Sends, Starts, StartsAll, StartsBy, SendsAll, Orders, found_by}
use Rattle.server.specs.Closing.{Leaves, IsGone, ClosesAs, ClosesFirst, IsBroken, NoneBroken, ClosesBroken}
use Rattle.server.specs.Polling.{AcceptsAs, AcceptsOne, AcceptsAt, Fails, ReadsAs, ReadsOpen, ReadsAt, is_read, ReadsOne, WritesAs, WritesOpen, WritesAt, WritesOne, is_done, EndsAt, EndsOne}
use Rattle.server.specs.Turn.{is_tick_due, Ticks, TicksIfDue, Covers, Round, Turn}
use Rattle.journal.specs.Passing.{calls_in, IsLost, AreLost}
use Rattle.journal.specs.Laws.{TurnsUnticked, WaitingStay, BeginsNone, NoneBegins}
use Rattle.journal.proofs.WaitingJobs.{stay_is, stay_then, stay_reported, stay_marked}

-- ---- the happenings of such a turn

-- each accept would have to wait, each read and each write fails, and no job begins
abbrev Loses : List Happening → Type 0
Loses [] = Unit {0}
Loses (Polled poll ∷ hs) = IsLost poll × Loses hs
Loses (Notified note ∷ hs) = BeginsNone note × Loses hs
Loses (Chosen choice ∷ hs) = Loses hs

-- what is among the happenings is among them and one more
contains_later : (h : Happening) (hs : List Happening) (k : Happening) → Contains hs k → Contains (h ∷ hs) k
contains_later h hs k is = (suc is.0, omega (arith, is.1), is.2)

-- the happenings with their choices, where a wire and an observer see all but the choices
loses : (hs : List Happening) → AreLost (calls_in (seen hs)) → NoneBegins (seen hs) → Loses hs
loses [] lost none = tt
loses (Polled poll ∷ hs) lost none =
    (lost.0, loses hs lost.1 (λ note is. none note (contains_later (Polled poll) (seen hs) (Notified note) is)))
loses (Notified note ∷ hs) lost none = (none note (0, omega arith, refl), loses hs lost (λ other is. none other (contains_later (Notified note) (seen hs) (Notified other) is)))
loses (Chosen choice ∷ hs) lost none = loses hs lost none

-- two lists of happenings, one after the other
loses_apart : (prefix back : List Happening) → Loses (prefix ++ back) → Loses prefix × Loses back
loses_apart [] back lost = (tt, lost)
loses_apart (Polled poll ∷ prefix) back (is, rest) = let parts = loses_apart prefix back rest in ((is, parts.0), parts.1)
loses_apart (Notified note ∷ prefix) back (is, rest) = let parts = loses_apart prefix back rest in ((is, parts.0), parts.1)
loses_apart (Chosen choice ∷ prefix) back rest = loses_apart prefix back rest

-- ---- the parts of such a turn

-- the jobs that wait stay where the relation leads by such happenings
abbrev Within : Rel → Type 0
Within R = (l : Ledger) (hs : List Happening) (l' : Ledger) → R l hs l' → Loses hs → WaitingStay l.core l'.core

-- the core is unchanged
same_core : (l m l' : Ledger) → m.core ≡ l.core → l' ≡ m → WaitingStay l.core l'.core
same_core l m l' same after = stay_is l.core l'.core (ap (λ (x : Ledger). x.core) after ∙ same)

nothing_in : Within Nothing
nothing_in l hs l' it lost = same_core l l l' refl it.1

polls_in : (poll : Poll) → Within (Polls poll)
polls_in poll l hs l' it lost = same_core l l l' refl it.1

chooses_in : (choice : Choice) → Within (Chooses choice)
chooses_in choice l hs l' it lost = same_core l l l' refl it.1

sets_in : (key : ℕ) (e : Entry) → Within (Sets key e)
sets_in key e l hs l' it lost = same_core l (with_entry key e l) l' refl it.1

then_in : {R S : Rel} → Within R → Within S → Within (Then R S)
then_in f g l hs l' it lost =
    let parts = loses_apart it.prefix it.back (subst Loses it.whole lost) in
    stay_then l.core it.mid.core l'.core (f l it.prefix it.mid it.first parts.0) (g it.mid it.back l' it.second parts.1)

or_in : {R S : Rel} → Within R → Within S → Within (Or R S)
or_in f g l hs l' (inl it) = f l hs l' it
or_in f g l hs l' (inr it) = g l hs l' it

if_in : (test : Bool) (R S : Rel) → Within R → Within S → Within (If test R S)
if_in true R S f g l hs l' it = f l hs l' it
if_in false R S f g l hs l' it = g l hs l' it

times_in : (n : ℕ) (R : Rel) → Within R → Within (Times n R)
times_in zero R f = nothing_in
times_in (suc n) R f = then_in (times_in n R f) f

each_in : (n : ℕ) (R : ℕ → Rel) → ((key : ℕ) → Within (R key)) → Within (Each n R)
each_in zero R f = nothing_in
each_in (suc n) R f = then_in (each_in n R f) (f n)

each_of_in : {A : Type 0} (xs : List A) (R : A → Rel) → ((x : A) → Within (R x)) → Within (EachOf xs R)
each_of_in [] R f = nothing_in
each_of_in (x ∷ xs) R f = then_in (f x) (each_of_in xs R f)

-- ---- bytes that become due

breaks_at_in : (key : ℕ) (o : Option Entry) → Within (BreaksAt key o)
breaks_at_in key None = nothing_in
breaks_at_in key (Some e) = sets_in key (broken e)

breaks_in : (key : ℕ) → Within (Breaks key)
breaks_in key l hs l' it = breaks_at_in key (l.entries key) l hs l' it

drops_in : (key : ℕ) (e : Entry) → Within (Drops Enqueue key e)
drops_in key e l hs l' it lost = same_core l (with_entry key (broken e) l) l' refl it.1

enqueues_open_in : (refusable : Bool) (key : ℕ) (bytes : List ℕ) (e : Entry) → Within (EnqueuesOpen refusable key bytes e)
enqueues_open_in refusable key bytes e =
    if_in refusable (Or (Then (Chooses Found) (Sets key (owing bytes e))) (Drops Enqueue key e)) (Sets key (owing bytes e))
    (or_in (then_in (chooses_in Found) (sets_in key (owing bytes e))) (drops_in key e)) (sets_in key (owing bytes e))

enqueues_at_in : (refusable : Entry → Bool) (key : ℕ) (bytes : List ℕ) (o : Option Entry) → Within (EnqueuesAt refusable key bytes o)
enqueues_at_in refusable key bytes None = nothing_in
enqueues_at_in refusable key bytes (Some e) = if_in e.broken Nothing (EnqueuesOpen (refusable e) key bytes e) nothing_in (enqueues_open_in (refusable e) key bytes e)

enqueues_on_in : (refusable : Entry → Bool) (device : ℕ) (bytes : List ℕ) → Within (EnqueuesOn refusable device bytes)
enqueues_on_in refusable device bytes l hs l' (inl (key, lowest, it)) = enqueues_at_in refusable key bytes (l.entries key) l hs l' it
enqueues_on_in refusable device bytes l hs l' (inr (absent, it)) = nothing_in l hs l' it

sends_in : (cancel : Cancel) → Within (Sends cancel)
sends_in cancel = enqueues_on_in (needs_memory (cancel_line cancel.job)) cancel.device (cancel_line cancel.job)

starts_in : (start : Started) → Within (Starts start)
starts_in start l hs l' it = enqueues_on_in (λ e. true) start.device (job_bytes l.core start.job) l hs l' it

starts_all_in : Within StartsAll
starts_all_in l hs l' it = each_of_in l.core.begun Starts starts_in l hs l' it

sends_all_in : (reply : Effects) → Within (SendsAll reply)
sends_all_in reply = each_of_in reply.cancels.items Sends sends_in

starts_by_in : (made : Dispatch) → Within (StartsBy made)
starts_by_in dispatch.Query = nothing_in
starts_by_in dispatch.OutOfMemory = nothing_in
starts_by_in dispatch.Idle = nothing_in
starts_by_in dispatch.Planned = starts_all_in

orders_in : (outcome : Outcome) → Within (Orders outcome)
orders_in (Some handled) = then_in (sends_all_in handled.effects) (starts_by_in handled.dispatch)
orders_in None = nothing_in

-- ---- a device is gone

-- a plan under which no job begins
dispatched_stay : (now : ℕ) (old : State) (plan : PlanRecord) (started : List Started) (new : State) → started ≡ [] → Dispatches now old (Some plan) started new → WaitingStay old new
dispatched_stay now old plan started new none it =
    let plain : new ≡ record (marked_state now plan old) { begun = started } =
    it.3 ∙ ap (λ (starts : List Started). record (beginning_all now starts (marked_state now plan old)) { begun = started }) none in
    subst (λ (s : State). WaitingStay old s) (sym plain) (stay_marked now plan started old)

-- the dispatch after an event, under which no job begins
follows_in : (query : Bool) (now : ℕ) (old : State) (made : Dispatch) (notes : List Note) (new : State) → Follows query now old made notes new → Loses (map Notified notes) → WaitingStay old new
follows_in query now old dispatch.Query notes new (is, same, none) lost = stay_is old new same
follows_in query now old dispatch.OutOfMemory notes new (is, ready, same, one) lost = stay_is old new same
follows_in query now old dispatch.Idle notes new (is, dispatches, one) lost = stay_is old new dispatches.2
follows_in query now old dispatch.Planned notes new (is, plan, dispatches, one) lost =
    let none : new.begun ≡ [] = (subst (λ (ns : List Note). Loses (map Notified ns)) one lost).0 in
    dispatched_stay now old plan new.begun new none dispatches

-- the notes after others are among the happenings
loses_later : (notes later : List Note) → Loses (map Notified (notes ++ later)) → Loses (map Notified later)
loses_later [] later lost = lost
loses_later (note ∷ notes) later lost = loses_later notes later lost.1

-- the core handles the report that a device is gone
handles_in : (moment device : ℕ) (outcome : Outcome) (old : State) (notes : List Note) (new : State) → Handles moment (Is.Report device Gone) old outcome notes new → Loses (map Notified notes) → WaitingStay old new
handles_in moment device (Some handled) old notes new it lost =
    stay_then old it.mid new
    (stay_reported (max moment old.last) device old handled.effects.documents.items it.mid it.step.reports)
    (follows_in _ (max moment it.mid.last) it.mid handled.dispatch it.later new it.follows (loses_later (cancel_notes handled.effects) it.later (subst (λ (ns : List Note). Loses (map Notified ns)) it.notes_are lost)))
handles_in moment device None old notes new it lost = stay_is old new it.0

-- the notes are among the happenings
loses_notes : (outcome : Outcome) (notes : List Note) → Loses (found_by outcome ++ map Notified notes) → Loses (map Notified notes)
loses_notes (Some handled) notes lost = lost
loses_notes None notes lost = lost

decides_in : (moment device : ℕ) (outcome : Outcome) → Within (Decides moment (Is.Report device Gone) outcome)
decides_in moment device outcome l hs l' it lost =
    subst (λ (x : Ledger). WaitingStay l.core x.core) (sym it.after)
    (handles_in moment device outcome l.core it.notes it.state it.handles (loses_notes outcome it.notes (subst Loses it.notified lost)))

gone_in : (moment : ℕ) (o : Option ℕ) → Within (IsGone moment o)
gone_in moment None l hs l' it = nothing_in l hs l' it
gone_in moment (Some device) l hs l' (outcome, it) = then_in (decides_in moment device outcome) (orders_in outcome) l hs l' it

-- ---- closings

leaves_in : (fate : Fate) (key : ℕ) (e : Entry) → Within (Leaves fate key e)
leaves_in fate key e l hs l' it lost = same_core l (without key e fate l) l' refl it.2

closes_in : (moment : ℕ) (fate : Fate) (key : ℕ) (e : Entry) → Within (ClosesAs moment fate key e)
closes_in moment fate key e = then_in (leaves_in fate key e) (gone_in moment (device_of e.progress))

closes_broken_in : (moment : ℕ) → Within (ClosesBroken moment)
closes_broken_in moment l hs l' it = times_in it.0.0 (ClosesFirst moment) (λ a ks b first. closes_in moment Broken first.key first.entry a ks b first.closes) l hs l' it.0.1

fails_in : (moment key : ℕ) → Within (Fails moment key)
fails_in moment key = then_in (breaks_in key) (closes_broken_in moment)

-- where no connection is broken, none is closed
none_closes : (moment n : ℕ) (l : Ledger) (hs : List Happening) (l' : Ledger) → NoneBroken l → Times n (ClosesFirst moment) l hs l' → l' ≡ l
none_closes moment zero l hs l' none it = it.1
none_closes moment (suc n) l hs l' none it =
    let same : it.mid ≡ l = none_closes moment n l it.prefix it.mid none it.first in
    let there : l.entries it.second.key ≡ Some it.second.entry = ap (λ (x : Ledger). x.entries it.second.key) (sym same) ∙ it.second.there in
    absurd (none it.second.key (subst IsBroken (sym there) it.second.is_broken))

-- ---- a round

-- a read fails: it brings no bytes
reads_as_in : (moment key : ℕ) (e : Entry) (answer : Progress (List ℕ)) → Within (ReadsAs moment key e answer)
reads_as_in moment key e (wire.Done bytes) l hs l' it lost =
    let parts = loses_apart it.prefix it.back (subst Loses it.whole lost) in
    let never : wire.Done bytes ≡ wire.Fault = (subst Loses it.first.0 parts.0).0 in
    absurd (cc)
reads_as_in moment key e wire.Waiting l hs l' it lost = polls_in (Reads e.id wire.Waiting) l hs l' it lost
reads_as_in moment key e wire.End l hs l' it lost = then_in (polls_in (Reads e.id wire.End)) (sets_in key (record e { ended = true })) l hs l' it lost
reads_as_in moment key e wire.Fault l hs l' it lost = then_in (polls_in (Reads e.id wire.Fault)) (fails_in moment key) l hs l' it lost

reads_at_in : (moment key : ℕ) (o : Option Entry) → Within (ReadsAt moment key o)
reads_at_in moment key None = nothing_in
reads_at_in moment key (Some e) = if_in (is_read e) (ReadsOpen moment key e) Nothing (λ l hs l' it. reads_as_in moment key e it.0 l hs l' it.2) nothing_in

reads_one_in : (moment key : ℕ) → Within (ReadsOne moment key)
reads_one_in moment key l hs l' it = reads_at_in moment key (l.entries key) l hs l' it

writes_as_in : (moment key : ℕ) (e : Entry) (offered : List ℕ) (answer : Progress ℕ) → Within (WritesAs moment key e offered answer)
writes_as_in moment key e offered (wire.Done n) = then_in (polls_in (Writes e.id offered (wire.Done n))) (sets_in key (record e { taken = e.taken ++ take n offered }))
writes_as_in moment key e offered wire.Waiting = polls_in (Writes e.id offered wire.Waiting)
writes_as_in moment key e offered wire.End = then_in (polls_in (Writes e.id offered wire.End)) (fails_in moment key)
writes_as_in moment key e offered wire.Fault = then_in (polls_in (Writes e.id offered wire.Fault)) (fails_in moment key)

writes_at_in : (moment key : ℕ) (o : Option Entry) → Within (WritesAt moment key o)
writes_at_in moment key None = nothing_in
writes_at_in moment key (Some e) = if_in (nat_lt 0 (length (waiting e))) (WritesOpen moment key e) Nothing (λ l hs l' it. writes_as_in moment key e it.0 it.2 l hs l' it.3) nothing_in

writes_one_in : (moment key : ℕ) → Within (WritesOne moment key)
writes_one_in moment key l hs l' it = writes_at_in moment key (l.entries key) l hs l' it

ends_at_in : (moment key : ℕ) (o : Option Entry) → Within (EndsAt moment key o)
ends_at_in moment key None = nothing_in
ends_at_in moment key (Some e) =
    if_in (is_done e) (Then (ClosesAs moment Drained key e) (ClosesBroken moment)) Nothing (then_in (closes_in moment Drained key e) (closes_broken_in moment)) nothing_in

ends_one_in : (moment key : ℕ) → Within (EndsOne moment key)
ends_one_in moment key l hs l' it = ends_at_in moment key (l.entries key) l hs l' it

round_in : (moment : ℕ) → Within (Round moment)
round_in moment l hs l' (n, it) =
    then_in {R = Covers n} (λ a ks b is. chooses_in (Looked n) a ks b is.1)
    (then_in (each_in n (ReadsOne moment) (reads_one_in moment)) (then_in (each_in n (WritesOne moment) (writes_one_in moment)) (each_in n (EndsOne moment) (ends_one_in moment))))
    l hs l' it

-- ---- the turn

-- an accept would have to wait: it brings no connection
accepts_as_in : (door : Door) (answer : Progress ℕ) → Within (AcceptsAs door answer)
accepts_as_in door (wire.Done id) l hs l' it lost =
    let parts = loses_apart it.prefix it.back (subst Loses it.whole lost) in
    let never : wire.Done id ≡ wire.Waiting = (subst Loses it.first.0 parts.0).0 in
    absurd (cc)
accepts_as_in door wire.Waiting l hs l' it lost = polls_in (Accepts door wire.Waiting) l hs l' it lost
accepts_as_in door wire.End l hs l' it lost = polls_in (Accepts door wire.End) l hs l' it lost
accepts_as_in door wire.Fault l hs l' it lost = polls_in (Accepts door wire.Fault) l hs l' it lost

accepts_in : (door : Door) → Within (AcceptsAt door)
accepts_in door l hs l' it = if_in (nat_lt l.count CONNECTIONS) (AcceptsOne door) Nothing (λ a ks b is. accepts_as_in door is.0 a ks b is.1) nothing_in l hs l' it

-- what follows the tick
after_tick_in : (moment : ℕ) → Within (Then (AcceptsAt Ipp) (Then (AcceptsAt Lpd) (Then (AcceptsAt Devices) (Round moment))))
after_tick_in moment = then_in (accepts_in Ipp) (then_in (accepts_in Lpd) (then_in (accepts_in Devices) (round_in moment)))

-- no tick is due
no_tick_in : (moment : ℕ) (l : Ledger) (hs : List Happening) (l' : Ledger) → is_tick_due moment l ≡ false → TicksIfDue moment l hs l' → WaitingStay l.core l'.core
no_tick_in moment l hs l' not_due it =
    let nothing : Nothing l hs l' = subst (λ (t : Bool). If t (Then (Ticks moment) (ClosesBroken moment)) Nothing l hs l') not_due it in
    same_core l l l' refl nothing.1

-- in such a turn the jobs that wait stay
pub waiting_stay : (moment : ℕ) (old new : Ledger) (hs : List Happening) → TurnsUnticked moment old hs new → NoneBroken old → AreLost (calls_in hs) → NoneBegins hs → WaitingStay old.core new.core
waiting_stay moment old new hs turn whole lost none =
    let all : List Happening = turn.turns.0 in
    let is : seen all ≡ hs = turn.turns.1 in
    let it : Turn moment old all new = turn.turns.2 in
    let losing : Loses all = loses all (subst (λ (ks : List Happening). AreLost (calls_in ks)) (sym is) lost) (subst NoneBegins (sym is) none) in
    let settled : it.mid ≡ old = none_closes moment it.first.0.0 old it.prefix it.mid whole it.first.0.1 in
    let rest = it.second in
    let not_due : is_tick_due moment it.mid ≡ false = ap (λ (l : Ledger). is_tick_due moment l) settled ∙ turn.unticked in
    let after = loses_apart rest.prefix rest.back (subst Loses rest.whole (loses_apart it.prefix it.back (subst Loses it.whole losing)).1) in
    stay_then old.core it.mid.core new.core (same_core old old it.mid refl settled)
    (stay_then it.mid.core rest.mid.core new.core (no_tick_in moment it.mid rest.prefix rest.mid not_due rest.first) (after_tick_in moment rest.mid rest.back new rest.second after.1))
