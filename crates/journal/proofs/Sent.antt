-- The bytes that are sent in a turn in which nothing comes were due before the turn.
use Rattle.std.proofs.Common.{◌≡◌, ◌<◌, ◌≤◌, arith, ℕ, zero, suc, Bool, true, false, List, [], ◌∷◌, ◌++◌, refl, ap, subst, sym, ◌∙◌, Option, Some, None, inl, inr}
use Rattle.std.specs.Prelude.{◌⊎◌, ◌==◌, if◌then◌else◌, nat_lt, length, slice_index_or}
use Rattle.std.proofs.lemmas.Bool.Decides.{nat_tests}
use Rattle.base_types.specs.declared.limits.TheConstants.Limits.{CONNECTIONS}
use Rattle.wires.specs.Poll.{Poll, Accepts, Reads, Writes, Closes}
use Rattle.wires.specs.declared.wire.Door.{Door}
use Rattle.wires.specs.declared.wire.Door.TheVariants.{Ipp, Lpd, Devices}
use Rattle.wires.specs.declared.wire.Progress.{Progress}
use Rattle.wires.specs.declared.wire.Progress.TheVariants.{Done, Waiting, End, Fault}
use Rattle.connections.specs.SendQueue.{IsPrefix}
use Rattle.connections.specs.Entry.{Entry, waiting}
use Rattle.server.specs.Polls.{Happening, Polled, Chosen, Looked}
use Rattle.server.specs.Ledger.{Ledger, Fate, Broken, Drained}
use Rattle.server.specs.Rel.{Rel, Nothing, Polls, Then, If, Times, Each}
use Rattle.server.specs.Enqueuing.{Sets}
use Rattle.server.specs.Closing.{Leaves, ClosesAs, ClosesFirst, ClosesBroken}
use Rattle.server.specs.Polling.{AcceptsAs, AcceptsOne, AcceptsAt, ReadsAs, ReadsOpen, ReadsAt, ReadsOne, is_read, WritesAs, WritesOpen, WritesAt, WritesOne, EndsAt, EndsOne, is_done}
use Rattle.server.specs.Turn.{is_tick_due, Ticks, TicksIfDue, Covers, Rounds, Round, Turn}
use Rattle.journal.specs.Passing.{calls_in, AllWait, AreOutward}
use Rattle.journal.specs.Laws.{TurnsUnticked, IsDue, AreDue}
use Rattle.journal.proofs.PassedCalls.{calls_append, calls_seen, IsUncut, uncut_parts, outward_parts}

-- ---- bytes that were due

-- if the call is a write that took bytes, what was offered was due in this ledger
abbrev WasDue : Ledger → Poll → Type 0
WasDue old (Accepts door answer) = Unit {0}
WasDue old (Reads id answer) = Unit {0}
WasDue old (Writes id offered (Done count)) = IsDue old id offered
WasDue old (Writes id offered Waiting) = Unit {0}
WasDue old (Writes id offered End) = Unit {0}
WasDue old (Writes id offered Fault) = Unit {0}
WasDue old (Closes id) = Unit {0}

-- this holds for each call
abbrev WereDue : Ledger → List Poll → Type 0
WereDue old [] = Unit {0}
WereDue old (poll ∷ polls) = WasDue old poll × WereDue old polls

due_append : (old : Ledger) (ps qs : List Poll) → WereDue old ps → WereDue old qs → WereDue old (ps ++ qs)
due_append old [] qs one two = two
due_append old (p ∷ ps) qs one two = (one.0, due_append old ps qs one.1 two)

-- a write that waits sends nothing
write_waits : (old : Ledger) (id : ℕ) (offered : List ℕ) (answer : Progress ℕ) → answer ≡ Waiting → WasDue old (Writes id offered answer)
write_waits old id offered (Done count) waits = absurd (cc)
write_waits old id offered Waiting waits = tt
write_waits old id offered End waits = tt
write_waits old id offered Fault waits = tt

-- where each write waits, nothing is sent
due_waiting : (old : Ledger) (ps : List Poll) → AllWait ps → WereDue old ps
due_waiting old [] wait = tt
due_waiting old (Accepts door answer ∷ ps) wait = (tt, due_waiting old ps wait.1)
due_waiting old (Reads id answer ∷ ps) wait = (tt, due_waiting old ps wait.1)
due_waiting old (Writes id offered answer ∷ ps) wait = (write_waits old id offered answer wait.0, due_waiting old ps wait.1)
due_waiting old (Closes id ∷ ps) wait = (tt, due_waiting old ps wait)

-- what holds for each call holds for the call at a place
due_at : (old : Ledger) (ps : List Poll) (poll : Poll) (k : ℕ) → k < length ps → slice_index_or ps k poll ≡ poll → WereDue old ps → WasDue old poll
due_at old [] poll k within is due = absurd (omega (arith, within))
due_at old (p ∷ ps) poll zero within is due = subst (WasDue old) is due.0
due_at old (p ∷ ps) poll (suc k) within is due = due_at old ps poll k (omega (arith, within)) is due.1

each_due : (old : Ledger) (ps : List Poll) → WereDue old ps → AreDue old ps
each_due old ps due id offered count it = due_at old ps (Writes id offered (Done count)) it.0 it.1 it.2 due

-- ---- what a relation sends

-- From a ledger of the first kind, and where the calls are outward: what is sent was due, and without a close and a write
-- that ends or fails the relation leads to a ledger of the second kind.
record Sends (old : Ledger) (P : Ledger → Type 0) (R : Rel) (Q : Ledger → Type 0) : Type 0 where
  sends : (l : Ledger) (hs : List Happening) (l' : Ledger) → P l → AreOutward (calls_in hs) → R l hs l' → WereDue old (calls_in hs) × (IsUncut (calls_in hs) → Q l')

-- other kinds of ledgers: before the relation a narrower one, after it a wider one
sends_as : {old : Ledger} {P P' Q Q' : Ledger → Type 0} {R : Rel} → ((l : Ledger) → P' l → P l) → ((l : Ledger) → Q l → Q' l) → Sends old P R Q → Sends old P' R Q'
sends_as before after r = record { sends = λ l hs l' p outward it. let s = r.sends l hs l' (before l p) outward it in (s.0, λ uncut. after l' (s.1 uncut)) }

-- no ledger is of the first kind
sends_never : {old : Ledger} {R : Rel} {Q : Ledger → Type 0} → Sends old (λ l. ⊥) R Q
sends_never = record { sends = λ l hs l' never outward it. absurd never }

-- what two lists of calls send was due, if the second list follows the first in an outward list
both_due : {X : Type 0} (old : Ledger) (ps qs : List Poll) → WereDue old ps → (IsUncut ps × AreOutward qs) ⊎ ((IsUncut ps → ⊥) × AllWait qs) → (IsUncut ps → AreOutward qs → WereDue old qs × (IsUncut qs → X)) → WereDue old (ps ++ qs) × (IsUncut (ps ++ qs) → X)
both_due old ps qs due (inl (uncut, outward)) next = let second = next uncut outward in (due_append old ps qs due second.0, λ whole. let parts = uncut_parts ps qs whole in second.1 parts.1)
both_due old ps qs due (inr (cut, wait)) next = (due_append old ps qs due (due_waiting old qs wait), λ whole. let parts = uncut_parts ps qs whole in absurd (cut parts.0))

sends_then : {old : Ledger} {P M Q : Ledger → Type 0} {R S : Rel} → Sends old P R M → Sends old M S Q → Sends old P (Then R S) Q
sends_then {old} {P} {M} {Q} {R} {S} r s = record {
  sends = λ l hs l' p outward it.
      let calls : calls_in hs ≡ calls_in it.prefix ++ calls_in it.back = ap calls_in it.whole ∙ calls_append it.prefix it.back in
      let parts = outward_parts (calls_in it.prefix) (calls_in it.back) (subst AreOutward calls outward) in
      let first = r.sends l it.prefix it.mid p parts.0 it.first in
      subst (λ (polls : List Poll). WereDue old polls × (IsUncut polls → Q l')) (sym calls)
      (both_due old (calls_in it.prefix) (calls_in it.back) first.0 parts.1 (λ uncut tail. s.sends it.mid it.back l' (first.1 uncut) tail it.second));
}

-- these happenings, in which nothing is sent that wasn't due, and the ledger is unchanged
sends_same : (old : Ledger) (P : Ledger → Type 0) (ks : List Happening) → WereDue old (calls_in ks) → Sends old P (λ l hs l'. (hs ≡ ks) × (l' ≡ l)) P
sends_same old P ks due = record {
  sends = λ l hs l' p outward it. (subst (λ (xs : List Happening). WereDue old (calls_in xs)) (sym it.0) due, λ uncut. subst P (sym it.1) p);
}

sends_nothing : (old : Ledger) (P : Ledger → Type 0) → Sends old P Nothing P
sends_nothing old P = sends_same old P [] tt

sends_if : {old : Ledger} {P Q : Ledger → Type 0} (test : Bool) {R S : Rel} → Sends old P R Q → Sends old P S Q → Sends old P (If test R S) Q
sends_if true r s = record { sends = λ l hs l' p outward it. r.sends l hs l' p outward it }
sends_if false r s = record { sends = λ l hs l' p outward it. s.sends l hs l' p outward it }

sends_times : (old : Ledger) (P : Ledger → Type 0) (n : ℕ) (R : Rel) → Sends old P R P → Sends old P (Times n R) P
sends_times old P zero R r = sends_nothing old P
sends_times old P (suc n) R r = sends_then (sends_times old P n R r) r

-- key by key, where the kind of the ledger may go with the key
sends_each : (old : Ledger) (P : ℕ → Ledger → Type 0) (n : ℕ) (R : ℕ → Rel) → ((i : ℕ) → Sends old (P i) (R i) (P (suc i))) → Sends old (P 0) (Each n R) (P n)
sends_each old P zero R each = sends_nothing old (P 0)
sends_each old P (suc n) R each = sends_then (sends_each old P n R each) (each n)

-- ---- calls

-- a call that sends nothing but bytes that were due, and changes nothing else
sends_polls : (old : Ledger) (P : Ledger → Type 0) (poll : Poll) → WasDue old poll → Sends old P (Polls poll) P
sends_polls old P poll due = sends_same old P (Polled poll ∷ []) (due, tt)

-- a call that isn't outward
sends_none : (old : Ledger) (P : Ledger → Type 0) (poll : Poll) → (AreOutward (poll ∷ []) → ⊥) → Sends old P (Polls poll) (λ l. ⊥)
sends_none old P poll never = record { sends = λ l hs l' p outward it. absurd (never (subst (λ (xs : List Happening). AreOutward (calls_in xs)) it.0 outward)) }

-- a call that sends nothing, and after which each call waits
one_cut : (old : Ledger) (poll : Poll) (hs : List Happening) → hs ≡ Polled poll ∷ [] → WasDue old poll → (IsUncut (poll ∷ []) → ⊥) → WereDue old (calls_in hs) × (IsUncut (calls_in hs) → ⊥)
one_cut old poll hs is due cut = subst (λ (xs : List Happening). WereDue old (calls_in xs) × (IsUncut (calls_in xs) → ⊥)) (sym is) ((due, tt), cut)

sends_cut : (old : Ledger) (P : Ledger → Type 0) (poll : Poll) → WasDue old poll → (IsUncut (poll ∷ []) → ⊥) → Sends old P (Polls poll) (λ l. ⊥)
sends_cut old P poll due cut = record { sends = λ l hs l' p outward it. one_cut old poll hs it.0 due cut }

-- ---- closings

-- once the wire closes a connection, each call waits
sends_leaves : (old : Ledger) (P : Ledger → Type 0) (fate : Fate) (key : ℕ) (e : Entry) → Sends old P (Leaves fate key e) (λ l. ⊥)
sends_leaves old P fate key e = record { sends = λ l hs l' p outward it. one_cut old (Closes e.id) hs it.0 tt (λ uncut. uncut) }

sends_closes : (old : Ledger) (P Q : Ledger → Type 0) (moment : ℕ) (fate : Fate) (key : ℕ) (e : Entry) → Sends old P (ClosesAs moment fate key e) Q
sends_closes old P Q moment fate key e = sends_then (sends_leaves old P fate key e) sends_never

closes_first : (old : Ledger) (P : Ledger → Type 0) (moment : ℕ) → Sends old P (ClosesFirst moment) P
closes_first old P moment = record { sends = λ l hs l' p outward it. (sends_closes old P P moment Broken it.key it.entry).sends l hs l' p outward it.closes }

sends_closes_broken : (old : Ledger) (P : Ledger → Type 0) (moment : ℕ) → Sends old P (ClosesBroken moment) P
sends_closes_broken old P moment = record { sends = λ l hs l' p outward it. (sends_times old P it.0.0 (ClosesFirst moment) (closes_first old P moment)).sends l hs l' p outward it.0.1 }

ends_at : (old : Ledger) (P : Ledger → Type 0) (moment key : ℕ) (o : Option Entry) → Sends old P (EndsAt moment key o) P
ends_at old P moment key None = sends_nothing old P
ends_at old P moment key (Some e) = sends_if (is_done e) (sends_then (sends_closes old P P moment Drained key e) (sends_closes_broken old P moment)) (sends_nothing old P)

sends_ends : (old : Ledger) (P : Ledger → Type 0) (moment key : ℕ) → Sends old P (EndsOne moment key) P
sends_ends old P moment key = record { sends = λ l hs l' p outward it. (ends_at old P moment key (l.entries key)).sends l hs l' p outward it }

-- ---- accepts

accepts_as : (old : Ledger) (P : Ledger → Type 0) (door : Door) (answer : Progress ℕ) → Sends old P (AcceptsAs door answer) P
accepts_as old P door (Done id) = sends_then (sends_none old P (Accepts door (Done id)) (λ outward. let waits : Done id ≡ Waiting = outward.0 in cc)) sends_never
accepts_as old P door Waiting = sends_polls old P (Accepts door Waiting) tt
accepts_as old P door End = sends_polls old P (Accepts door End) tt
accepts_as old P door Fault = sends_polls old P (Accepts door Fault) tt

accepts_one : (old : Ledger) (P : Ledger → Type 0) (door : Door) → Sends old P (AcceptsOne door) P
accepts_one old P door = record { sends = λ l hs l' p outward it. (accepts_as old P door it.0).sends l hs l' p outward it.1 }

sends_accepts : (old : Ledger) (P : Ledger → Type 0) (door : Door) → Sends old P (AcceptsAt door) P
sends_accepts old P door = record { sends = λ l hs l' p outward it. (sends_if (nat_lt l.count CONNECTIONS) (accepts_one old P door) (sends_nothing old P)).sends l hs l' p outward it }

-- ---- reads

reads_as : (old : Ledger) (P : Ledger → Type 0) (moment key : ℕ) (e : Entry) (answer : Progress (List ℕ)) → Sends old P (ReadsAs moment key e answer) P
reads_as old P moment key e (Done bytes) = sends_then (sends_none old P (Reads e.id (Done bytes)) (λ outward. let waits : Done bytes ≡ Waiting = outward.0 in cc)) sends_never
reads_as old P moment key e Waiting = sends_polls old P (Reads e.id Waiting) tt
reads_as old P moment key e End = sends_then (sends_none old P (Reads e.id End) (λ outward. let waits : ◌≡◌ {A = Progress (List ℕ)} End Waiting = outward.0 in cc)) sends_never
reads_as old P moment key e Fault = sends_then (sends_none old P (Reads e.id Fault) (λ outward. let waits : ◌≡◌ {A = Progress (List ℕ)} Fault Waiting = outward.0 in cc)) sends_never

reads_open : (old : Ledger) (P : Ledger → Type 0) (moment key : ℕ) (e : Entry) → Sends old P (ReadsOpen moment key e) P
reads_open old P moment key e = record { sends = λ l hs l' p outward it. (reads_as old P moment key e it.0).sends l hs l' p outward it.2 }

reads_at : (old : Ledger) (P : Ledger → Type 0) (moment key : ℕ) (o : Option Entry) → Sends old P (ReadsAt moment key o) P
reads_at old P moment key None = sends_nothing old P
reads_at old P moment key (Some e) = sends_if (is_read e) (reads_open old P moment key e) (sends_nothing old P)

sends_reads : (old : Ledger) (P : Ledger → Type 0) (moment key : ℕ) → Sends old P (ReadsOne moment key) P
sends_reads old P moment key = record { sends = λ l hs l' p outward it. (reads_at old P moment key (l.entries key)).sends l hs l' p outward it }

-- ---- writes

-- the entries under this key and under all greater keys are those of the old ledger
abbrev Keeps : Ledger → ℕ → Ledger → Type 0
Keeps old key l = (other : ℕ) → key ≤ other → l.entries other ≡ old.entries other

-- the entries that are kept from a key on are kept from the next key on
keeps_next : (old : Ledger) (key : ℕ) (l : Ledger) → Keeps old key l → Keeps old (suc key) l
keeps_next old key l keeps other past = keeps other (omega (arith, past))

other_key : (key other : ℕ) → suc key ≤ other → (other == key) ≡ false
other_key key other past = grind (arith, nat_tests, past)

-- one entry is set, and no other entry changes
sends_sets : (old : Ledger) (key : ℕ) (d : Entry) → Sends old (Keeps old key) (Sets key d) (Keeps old (suc key))
sends_sets old key d = record {
  sends = λ l hs l' keeps outward it. (
    subst (λ (xs : List Happening). WereDue old (calls_in xs)) (sym it.0) tt,
    λ uncut. subst (Keeps old (suc key)) (sym it.1)
        (λ other past. subst (λ (t : Bool). (if t then Some d else l.entries other) ≡ old.entries other) (sym (other_key key other past)) (keeps other (omega (arith, past)))),
  );
}

-- one write under the lowest key that is kept: what is offered is a prefix of the bytes that waited, and the greater keys are kept
writes_as : (old : Ledger) (moment key : ℕ) (e : Entry) (offered : List ℕ) (answer : Progress ℕ) → old.entries key ≡ Some e → IsPrefix offered (waiting e) → Sends old (Keeps old key) (WritesAs moment key e offered answer) (Keeps old (suc key))
writes_as old moment key e offered (Done count) there prefix = sends_then (sends_polls old (Keeps old key) (Writes e.id offered (Done count)) (key, e, there, refl, prefix)) (sends_sets old key _)
writes_as old moment key e offered Waiting there prefix = sends_as (λ l keeps. keeps) (keeps_next old key) (sends_polls old (Keeps old key) (Writes e.id offered Waiting) tt)
writes_as old moment key e offered End there prefix = sends_then (sends_cut old (Keeps old key) (Writes e.id offered End) tt (λ uncut. uncut)) sends_never
writes_as old moment key e offered Fault there prefix = sends_then (sends_cut old (Keeps old key) (Writes e.id offered Fault) tt (λ uncut. uncut)) sends_never

writes_open : (old : Ledger) (moment key : ℕ) (e : Entry) → old.entries key ≡ Some e → Sends old (Keeps old key) (WritesOpen moment key e) (Keeps old (suc key))
writes_open old moment key e there = record { sends = λ l hs l' keeps outward it. (writes_as old moment key e it.0 it.2 there it.1).sends l hs l' keeps outward it.3 }

writes_none : (old : Ledger) (key : ℕ) → Sends old (Keeps old key) Nothing (Keeps old (suc key))
writes_none old key = sends_as (λ l keeps. keeps) (keeps_next old key) (sends_nothing old (Keeps old key))

writes_at : (old : Ledger) (moment key : ℕ) (o : Option Entry) → old.entries key ≡ o → Sends old (Keeps old key) (WritesAt moment key o) (Keeps old (suc key))
writes_at old moment key None there = writes_none old key
writes_at old moment key (Some e) there = sends_if (nat_lt 0 (length (waiting e))) (writes_open old moment key e there) (writes_none old key)

sends_writes : (old : Ledger) (moment key : ℕ) → Sends old (Keeps old key) (WritesOne moment key) (Keeps old (suc key))
sends_writes old moment key = record { sends = λ l hs l' keeps outward it. (writes_at old moment key (l.entries key) (sym (keeps key (omega arith)))).sends l hs l' keeps outward it }

-- ---- a turn

abbrev IsOld : Ledger → Ledger → Type 0
IsOld old l = l ≡ old

old_keeps : (old l : Ledger) → IsOld old l → Keeps old 0 l
old_keeps old l same other past = ap (λ (x : Ledger). x.entries other) same

-- no tick comes where none is due
sends_unticked : (old : Ledger) (moment : ℕ) → is_tick_due moment old ≡ false → Sends old (IsOld old) (TicksIfDue moment) (IsOld old)
sends_unticked old moment none = record {
  sends = λ l hs l' same outward it.
      let nothing : Nothing l hs l' = subst (λ (t : Bool). If t (Then (Ticks moment) (ClosesBroken moment)) Nothing l hs l') (ap (is_tick_due moment) same ∙ none) it in
      (sends_nothing old (IsOld old)).sends l hs l' same outward nothing;
}

sends_covers : (old : Ledger) (P : Ledger → Type 0) (n : ℕ) → Sends old P (Covers n) P
sends_covers old P n = record { sends = λ l hs l' p outward it. (sends_same old P (Chosen (Looked n) ∷ []) tt).sends l hs l' p outward it.1 }

sends_rounds : (old : Ledger) (moment n : ℕ) → Sends old (IsOld old) (Rounds moment n) (Keeps old n)
sends_rounds old moment n =
    sends_then (sends_covers old (IsOld old) n)
    (sends_then (sends_each old (λ i. IsOld old) n _ (sends_reads old (IsOld old) moment))
    (sends_then (sends_as (old_keeps old) (λ l keeps. keeps) (sends_each old (Keeps old) n _ (sends_writes old moment)))
    (sends_each old (λ i. Keeps old n) n _ (sends_ends old (Keeps old n) moment))))

sends_round : (old : Ledger) (moment : ℕ) → Sends old (IsOld old) (Round moment) (λ l. Unit {0})
sends_round old moment = record { sends = λ l hs l' same outward it. let sent = (sends_rounds old moment it.0).sends l hs l' same outward it.1 in (sent.0, λ uncut. tt) }

sends_turn : (old : Ledger) (moment : ℕ) → is_tick_due moment old ≡ false → Sends old (IsOld old) (Turn moment) (λ l. Unit {0})
sends_turn old moment none =
    sends_then (sends_closes_broken old (IsOld old) moment)
    (sends_then (sends_unticked old moment none)
    (sends_then (sends_accepts old (IsOld old) Ipp) (sends_then (sends_accepts old (IsOld old) Lpd) (sends_then (sends_accepts old (IsOld old) Devices) (sends_round old moment)))))

-- what is sent in a turn without a tick was due, if the calls of the turn are outward
pub sent_were_due : (moment : ℕ) (old new : Ledger) (hs : List Happening) → TurnsUnticked moment old hs new → AreOutward (calls_in hs) → AreDue old (calls_in hs)
sent_were_due moment old new hs it outward =
    let calls : calls_in hs ≡ calls_in it.turns.0 = ap calls_in (sym it.turns.1) ∙ calls_seen it.turns.0 in
    let sent = (sends_turn old moment it.unticked).sends old it.turns.0 new refl (subst AreOutward calls outward) it.turns.2 in
    each_due old (calls_in hs) (subst (WereDue old) (sym calls) sent.0)
