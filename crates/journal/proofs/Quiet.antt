-- A turn in which nothing happens leaves the ledger unchanged.
use Rattle.std.proofs.Common.{◌≡◌, ℕ, zero, suc, Bool, true, false, List, [], ◌∷◌, subst, sym, ◌∙◌, Option, Some, None}
use Rattle.std.specs.Prelude.{nat_lt, length}
use Rattle.base_types.specs.declared.limits.TheConstants.Limits.{CONNECTIONS}
use Rattle.wires.specs.Poll.{Poll, Accepts, Reads, Writes, Closes}
use Rattle.wires.specs.declared.wire.Door.{Door}
use Rattle.wires.specs.declared.wire.Door.TheVariants.{Ipp, Lpd, Devices}
use Rattle.wires.specs.declared.wire.Progress.{Progress}
use Rattle.wires.specs.declared.wire.Progress.TheVariants.{Done, Waiting, End, Fault}
use Rattle.connections.specs.Entry.{Entry, device_of, waiting}
use Rattle.server.specs.Polls.{Happening, Polled}
use Rattle.server.specs.Ledger.{Ledger, Fate, Broken, Drained}
use Rattle.server.specs.Rel.{Rel, Nothing, Polls, Then, If, Times, Each}
use Rattle.server.specs.Enqueuing.{Sets}
use Rattle.server.specs.Closing.{Leaves, IsGone, ClosesAs, ClosesFirst, ClosesBroken}
use Rattle.server.specs.Polling.{Opens, AcceptsAs, AcceptsOne, AcceptsAt, FeedsOne, Fails, ReadsAs, ReadsOpen, ReadsAt, ReadsOne, is_read, WritesAs, WritesOpen, WritesAt, WritesOne, EndsAt, EndsOne, is_done}
use Rattle.server.specs.Turn.{is_tick_due, Ticks, TicksIfDue, Covers, Rounds, Round, Turn}
use Rattle.journal.specs.Passing.{IsIdle, IsQuiet}
use Rattle.journal.specs.Laws.{TurnsUnticked}
use Rattle.journal.proofs.PassedCalls.{quiet_seen, quiet_parts}

-- The relation leaves the ledger unchanged if its happenings are quiet.
record Still (R : Rel) : Type 0 where
  still : (l : Ledger) (hs : List Happening) (l' : Ledger) → IsQuiet hs → R l hs l' → l' ≡ l

-- The happenings of the relation are never quiet.
record Loud (R : Rel) : Type 0 where
  loud : (l : Ledger) (hs : List Happening) (l' : Ledger) → IsQuiet hs → R l hs l' → ⊥

still_loud : {R : Rel} → Loud R → Still R
still_loud r = record { still = λ l hs l' quiet it. absurd (r.loud l hs l' quiet it) }

-- ---- one after the other, and many times

still_then : {R S : Rel} → Still R → Still S → Still (Then R S)
still_then {R} {S} r s = record {
  still = λ l hs l' quiet it.
      let parts = quiet_parts it.prefix it.back (subst IsQuiet it.whole quiet) in
      s.still it.mid it.back l' parts.1 it.second ∙ r.still l it.prefix it.mid parts.0 it.first;
}

loud_then : (R S : Rel) → Loud R → Loud (Then R S)
loud_then R S r = record {
  loud = λ l hs l' quiet it. let parts = quiet_parts it.prefix it.back (subst IsQuiet it.whole quiet) in r.loud l it.prefix it.mid parts.0 it.first;
}

still_nothing : Still Nothing
still_nothing = record { still = λ l hs l' quiet it. it.1 }

still_if : (test : Bool) {R S : Rel} → Still R → Still S → Still (If test R S)
still_if true r s = record { still = λ l hs l' quiet it. r.still l hs l' quiet it }
still_if false r s = record { still = λ l hs l' quiet it. s.still l hs l' quiet it }

still_times : (n : ℕ) (R : Rel) → Still R → Still (Times n R)
still_times zero R r = still_nothing
still_times (suc n) R r = still_then (still_times n R r) r

still_each : (n : ℕ) (R : ℕ → Rel) → ((i : ℕ) → Still (R i)) → Still (Each n R)
still_each zero R each = still_nothing
still_each (suc n) R each = still_then (still_each n R each) (each n)

-- ---- calls

still_polls : (poll : Poll) → Still (Polls poll)
still_polls poll = record { still = λ l hs l' quiet it. it.1 }

-- a call that isn't idle
loud_polls : (poll : Poll) → (IsIdle poll → ⊥) → Loud (Polls poll)
loud_polls poll never = record { loud = λ l hs l' quiet it. let first : IsQuiet (Polled poll ∷ []) = subst IsQuiet it.0 quiet in never first.0 }

-- a call that isn't idle, and what follows
still_called : (poll : Poll) (R : Rel) → (IsIdle poll → ⊥) → Still (Then (Polls poll) R)
still_called poll R never = still_loud (loud_then (Polls poll) R (loud_polls poll never))

-- ---- closings

-- the wire closes a connection
loud_leaves : (fate : Fate) (key : ℕ) (e : Entry) → Loud (Leaves fate key e)
loud_leaves fate key e = record { loud = λ l hs l' quiet it. let first : IsQuiet (Polled (Closes e.id) ∷ []) = subst IsQuiet it.0 quiet in first.0 }

loud_closes : (moment : ℕ) (fate : Fate) (key : ℕ) (e : Entry) → Loud (ClosesAs moment fate key e)
loud_closes moment fate key e = loud_then (Leaves fate key e) (IsGone moment (device_of e.progress)) (loud_leaves fate key e)

still_first : (moment : ℕ) → Still (ClosesFirst moment)
still_first moment = still_loud (record { loud = λ l hs l' quiet it. (loud_closes moment Broken it.key it.entry).loud l hs l' quiet it.closes })

still_closes_broken : (moment : ℕ) → Still (ClosesBroken moment)
still_closes_broken moment = record { still = λ l hs l' quiet it. (still_times it.0.0 (ClosesFirst moment) (still_first moment)).still l hs l' quiet it.0.1 }

ends_at : (moment key : ℕ) (o : Option Entry) → Still (EndsAt moment key o)
ends_at moment key None = still_nothing
ends_at moment key (Some e) = still_if (is_done e) (still_then (still_loud (loud_closes moment Drained key e)) (still_closes_broken moment)) still_nothing

still_ends : (moment key : ℕ) → Still (EndsOne moment key)
still_ends moment key = record { still = λ l hs l' quiet it. (ends_at moment key (l.entries key)).still l hs l' quiet it }

-- ---- accepts

accepts_as : (door : Door) (answer : Progress ℕ) → Still (AcceptsAs door answer)
accepts_as door (Done id) = still_called (Accepts door (Done id)) (Opens door id) (λ idle. idle)
accepts_as door Waiting = still_polls (Accepts door Waiting)
accepts_as door End = still_polls (Accepts door End)
accepts_as door Fault = still_polls (Accepts door Fault)

accepts_one : (door : Door) → Still (AcceptsOne door)
accepts_one door = record { still = λ l hs l' quiet it. (accepts_as door it.0).still l hs l' quiet it.1 }

still_accepts : (door : Door) → Still (AcceptsAt door)
still_accepts door = record { still = λ l hs l' quiet it. (still_if (nat_lt l.count CONNECTIONS) (accepts_one door) still_nothing).still l hs l' quiet it }

-- ---- reads

reads_as : (moment key : ℕ) (e : Entry) (answer : Progress (List ℕ)) → Still (ReadsAs moment key e answer)
reads_as moment key e (Done bytes) = still_called (Reads e.id (Done bytes)) (FeedsOne moment key bytes) (λ idle. cc)
reads_as moment key e Waiting = still_polls (Reads e.id Waiting)
reads_as moment key e End = still_called (Reads e.id End) (Sets key (record e { ended = true })) (λ idle. cc)
reads_as moment key e Fault = still_called (Reads e.id Fault) (Fails moment key) (λ idle. cc)

reads_open : (moment key : ℕ) (e : Entry) → Still (ReadsOpen moment key e)
reads_open moment key e = record { still = λ l hs l' quiet it. (reads_as moment key e it.0).still l hs l' quiet it.2 }

reads_at : (moment key : ℕ) (o : Option Entry) → Still (ReadsAt moment key o)
reads_at moment key None = still_nothing
reads_at moment key (Some e) = still_if (is_read e) (reads_open moment key e) still_nothing

still_reads : (moment key : ℕ) → Still (ReadsOne moment key)
still_reads moment key = record { still = λ l hs l' quiet it. (reads_at moment key (l.entries key)).still l hs l' quiet it }

-- ---- writes

writes_as : (moment key : ℕ) (e : Entry) (offered : List ℕ) (answer : Progress ℕ) → Still (WritesAs moment key e offered answer)
writes_as moment key e offered (Done count) = still_loud (loud_then (Polls (Writes e.id offered (Done count))) _ (loud_polls (Writes e.id offered (Done count)) (λ idle. cc)))
writes_as moment key e offered Waiting = still_polls (Writes e.id offered Waiting)
writes_as moment key e offered End = still_called (Writes e.id offered End) (Fails moment key) (λ idle. cc)
writes_as moment key e offered Fault = still_called (Writes e.id offered Fault) (Fails moment key) (λ idle. cc)

writes_open : (moment key : ℕ) (e : Entry) → Still (WritesOpen moment key e)
writes_open moment key e = record { still = λ l hs l' quiet it. (writes_as moment key e it.0 it.2).still l hs l' quiet it.3 }

writes_at : (moment key : ℕ) (o : Option Entry) → Still (WritesAt moment key o)
writes_at moment key None = still_nothing
writes_at moment key (Some e) = still_if (nat_lt 0 (length (waiting e))) (writes_open moment key e) still_nothing

still_writes : (moment key : ℕ) → Still (WritesOne moment key)
still_writes moment key = record { still = λ l hs l' quiet it. (writes_at moment key (l.entries key)).still l hs l' quiet it }

-- ---- a turn

still_covers : (n : ℕ) → Still (Covers n)
still_covers n = record { still = λ l hs l' quiet it. it.1.1 }

still_rounds : (moment n : ℕ) → Still (Rounds moment n)
still_rounds moment n = still_then (still_covers n) (still_then (still_each n _ (still_reads moment)) (still_then (still_each n _ (still_writes moment)) (still_each n _ (still_ends moment))))

still_round : (moment : ℕ) → Still (Round moment)
still_round moment = record { still = λ l hs l' quiet it. (still_rounds moment it.0).still l hs l' quiet it.1 }

-- what follows the tick in a turn
abbrev Polling : ℕ → Rel
Polling moment = Then (AcceptsAt Ipp) (Then (AcceptsAt Lpd) (Then (AcceptsAt Devices) (Round moment)))

still_polling : (moment : ℕ) → Still (Polling moment)
still_polling moment = still_then (still_accepts Ipp) (still_then (still_accepts Lpd) (still_then (still_accepts Devices) (still_round moment)))

-- no tick comes where none is due
unticked : (moment : ℕ) (l : Ledger) (hs : List Happening) (l' : Ledger) → is_tick_due moment l ≡ false → TicksIfDue moment l hs l' → l' ≡ l
unticked moment l hs l' none it = let nothing : Nothing l hs l' = subst (λ (t : Bool). If t (Then (Ticks moment) (ClosesBroken moment)) Nothing l hs l') none it in nothing.1

still_turn : (moment : ℕ) (l : Ledger) (hs : List Happening) (l' : Ledger) → is_tick_due moment l ≡ false → IsQuiet hs → Turn moment l hs l' → l' ≡ l
still_turn moment l hs l' none quiet it =
    let parts = quiet_parts it.prefix it.back (subst IsQuiet it.whole quiet) in
    let settled : it.mid ≡ l = (still_closes_broken moment).still l it.prefix it.mid parts.0 it.first in
    let rest : Then (TicksIfDue moment) (Polling moment) l it.back l' = subst (λ (x : Ledger). Then (TicksIfDue moment) (Polling moment) x it.back l') settled it.second in
    let later = quiet_parts rest.prefix rest.back (subst IsQuiet rest.whole parts.1) in
    (still_polling moment).still rest.mid rest.back l' later.1 rest.second ∙ unticked moment l rest.prefix rest.mid none rest.first

-- a turn without a tick leaves the ledger unchanged if a wire and an observer see only quiet happenings
pub unchanged : (moment : ℕ) (old new : Ledger) (hs : List Happening) → TurnsUnticked moment old hs new → IsQuiet hs → new ≡ old
unchanged moment old new hs it quiet = still_turn moment old it.turns.0 new it.unticked (quiet_seen it.turns.0 (subst IsQuiet (sym it.turns.1) quiet)) it.turns.2
