-- The notes of an observer, one after the other; an event that is handled; a run, and one event more.
use Rattle.std.proofs.Common.{◌≡◌, ◌<◌, ◌+◌, ℕ, max, Bool, true, false, Option, Some, None, List, [], ◌∷◌, ◌++◌, length, map, take, get_or, refl, sym, ◌∙◌, ap, subst}
use Rattle.std.proofs.lemmas.List.{map_more}
use Rattle.plan_prices.specs.Plan.{PlanRecord}
use Rattle.events.specs.declared.effects.Cancel.{Cancel}
use Rattle.events.specs.declared.effects.Effects.{Effects}
use Rattle.events.specs.Event.{is_query}
use Rattle.dispatcher.specs.declared.run.Timed.{Timed}
use Rattle.dispatcher.specs.declared.handled.Dispatch.{Dispatch}
use Rattle.dispatcher.specs.declared.handled.Dispatch.TheVariants as dispatch
use Rattle.print_room.specs.State.{State}
use Rattle.print_room.specs.Dispatch.{Dispatches}
use Rattle.print_room.specs.GoodPlan.{is_some_job}
use Rattle.print_room.specs.Ready.{ready_of}
use Rattle.print_room.specs.declared.started.Started.{Started}
use Rattle.dispatcher.specs.Dispatched.{plan_if, begun_if}
use Rattle.dispatcher.specs.Notes.{Note, Planned, Canceled, Notifies}
use Rattle.dispatcher.specs.Following.{Follows, FollowsNotified}
use Rattle.dispatcher.specs.Run.{Outcome, cancel_notes, Comes, Run}
use Rattle.dispatcher.specs.Step.{Step}

-- notes, and then later ones
notifies_then : {L : Type 0} (notified : L → Note → L → Type 0) (old mid new : L) (notes later : List Note) → Notifies notified old notes mid → Notifies notified mid later new → Notifies notified old (notes ++ later) new
notifies_then notified old mid new [] later same last = subst (λ l. Notifies notified l later new) same last
notifies_then notified old mid new (first ∷ notes) later (next, is, rest) last = (next, is, notifies_then notified next mid new notes later rest last)

pub run_more : {L : Type 0} (notified : L → Note → L → Type 0) (old : State) (l : L) (events : List Timed) (outcomes : List Outcome) (mid : State) (noted : L) (timed : Timed) (outcome : Outcome) (new : State) (l' : L)
    → Run notified old l events outcomes mid noted → Comes notified mid noted timed outcome new l' → Run notified old l (events ++ timed ∷ []) (outcomes ++ outcome ∷ []) new l'
run_more {L} notified old l [] [] mid noted timed outcome new l' run comes = (new, l', subst (λ (m : L). Comes notified old m timed outcome new l') run.1 (subst (λ (s : State). Comes notified s noted timed outcome new l') run.0 comes), (refl, refl))
run_more notified old l [] (o ∷ os) mid noted timed outcome new l' run comes = absurd run
run_more notified old l (t ∷ ts) [] mid noted timed outcome new l' run comes = absurd run
run_more notified old l (t ∷ ts) (o ∷ os) mid noted timed outcome new l' run comes = (run.0, run.1, run.2, run_more notified run.0 run.1 ts os mid noted timed outcome new l' run.3 comes)

-- one cancel more
pub notifies_next : {L : Type 0} (notified : L → Note → L → Type 0) (old mid new : L) (cancels : List Cancel) (i : ℕ) (cancel : Cancel)
    → i < length cancels → cancel ≡ get_or cancels i cancel → Notifies notified old (map Canceled (take i cancels)) mid → notified mid (Canceled cancel) new → Notifies notified old (map Canceled (take (i + 1) cancels)) new
notifies_next notified old mid new cancels i cancel inside is first last =
    rw (map_more Canceled cancels i cancel inside, ← is) (notifies_then notified old mid new (map Canceled (take i cancels)) (Canceled cancel ∷ []) first (new, last, refl))

-- a dispatch that made a plan, of which the observer was notified
pub follows_planned : {L : Type 0} (notified : L → Note → L → Type 0) (query planned : Bool) (now : ℕ) (old new : State) (l l' : L) (plan : Option PlanRecord) (started : List Started)
    → query ≡ false → planned ≡ true → planned ≡ is_some_job (ready_of old) → Dispatches now old (plan_if planned new) (begun_if planned new) new → plan ≡ new.plan → started ≡ new.begun → notified l (Planned plan started) l' → FollowsNotified notified query now old l dispatch.Planned new l'
follows_planned {L} notified query planned now old new l l' plan started other is ready made same begun note =
    by new.plan (subst (λ (b : Bool). Dispatches now old (plan_if b new) (begun_if b new) new) is made) (subst (λ (ss : List Started). notified l (Planned new.plan ss) l') begun (subst (λ (o : Option PlanRecord). notified l (Planned o started) l') same note))
  where
    by : (o : Option PlanRecord) → Dispatches now old o new.begun new → notified l (Planned o new.begun) l' → FollowsNotified notified query now old l dispatch.Planned new l'
    by None none noted = let both : true ≡ false = sym is ∙ (ready ∙ ap is_some_job none.0) in absurd (cc)
    by (Some chosen) it noted = (Planned (Some chosen) new.begun ∷ [], (other, chosen, it, refl), (l', noted, refl))

-- ---- an event that is handled

pub comes : {L : Type 0} (notified : L → Note → L → Type 0) (old mid new : State) (l m n : L) (timed : Timed) (query : Bool) (effects : Effects) (cancels : List Cancel) (dispatch : Dispatch)
    → query ≡ is_query timed.event → Step old timed.event timed.moment effects mid → cancels ≡ effects.cancels.items → Notifies notified l (map Canceled cancels) m
    → FollowsNotified notified query (max timed.moment mid.last) mid m dispatch new n → Comes notified old l timed (Some (record { effects = effects; dispatch = dispatch })) new n
comes notified old mid new l m n timed query effects cancels dispatch is step same first (later, follows, last) = (
  cancel_notes effects ++ later,
  record {
    mid = mid;
    later = later;
    step = step;
    follows = subst (λ (q : Bool). Follows q (max timed.moment mid.last) mid dispatch later new) is follows;
    notes_are = refl;
  },
  notifies_then notified l m n (cancel_notes effects) later (subst (λ (xs : List Cancel). Notifies notified l (map Canceled xs) m) same first) last,
)
