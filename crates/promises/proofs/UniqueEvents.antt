-- An event comes about in one way, up to the note of its plan, which is in the list of happenings.
use Rattle.std.proofs.Common.{◌≡◌, ℕ, max, Bool, true, false, List, [], ◌∷◌, ◌++◌, map, refl, sym, ◌∙◌, ap, subst, Option, Some, None, inl, inr, ◌⊎◌}
use Rattle.base_types.specs.declared.report.Report.{Report}
use Rattle.plan_prices.specs.Plan.{PlanRecord}
use Rattle.print_room.specs.declared.started.Started.{Started}
use Rattle.print_room.specs.State.{State}
use Rattle.print_room.specs.Dispatch.{beginning_all, marked_state}
use Rattle.events.specs.declared.event.Event.{Event}
use Rattle.events.specs.declared.event.Event.TheVariants as Is
use Rattle.events.specs.declared.effects.Effects.{Effects}
use Rattle.events.specs.declared.effects.Cancel.{Cancel}
use Rattle.events.specs.Event.{is_query}
use Rattle.dispatcher.specs.declared.observer.AllocationSite.TheVariants as At
use Rattle.dispatcher.specs.Notes.{Note, Planned, Canceled, Refused}
use Rattle.dispatcher.specs.OneStep.{SameReply}
use Rattle.dispatcher.specs.declared.handled.Handled.{Handled}
use Rattle.dispatcher.specs.declared.handled.Dispatch.{Dispatch}
use Rattle.dispatcher.specs.declared.handled.Dispatch.TheVariants as dispatch
use Rattle.dispatcher.specs.Following.{Follows}
use Rattle.dispatcher.specs.Run.{Outcome, effects_of, cancel_notes, Handles}
use Rattle.dispatcher.specs.Step.{TakesNoMemory}
use Rattle.events.specs.SameEvent.{SameEvent}
use Rattle.server.specs.Polls.{Happening, Notified, Found, Chosen}
use Rattle.server.specs.Ledger.{Ledger}
use Rattle.server.specs.Rel.{Rel, Then, EachOf}
use Rattle.server.specs.Happening.{found_by, refused_after, undispatched_after, Decides, Sends, SendsAll, StartsBy, Orders, Happens, Unanswered}
use Rattle.promises.specs.OneLedger.{StepsOnce}
use Rattle.promises.proofs.Determined.{Alike, Fixed, fixed_nothing, alike_then, then_one, apart, BeginsAs, begins_append, begins_just, Begins, is_choice, fixed_each_of}
use Rattle.promises.proofs.UniqueDue.{fixed_sends, fixed_starts_by}

-- ---- the result of an event

-- effects with the same content, and the same dispatch
pub record SameHandled (one other : Handled) : Type 0 where
  pub effects_are : SameReply one.effects other.effects
  pub dispatch_is : one.dispatch ≡ other.dispatch

abbrev pub SameOutcome : Outcome → Outcome → Type 0
SameOutcome (Some one) (Some other) = SameHandled one other
SameOutcome None None = Unit {0}
SameOutcome _ _ = ⊥

-- the event wasn't dropped
abbrev pub IsKept : Outcome → Type 0
IsKept (Some handled) = Unit {0}
IsKept None = ⊥

pub kept_or : (outcome : Outcome) → IsKept outcome ⊎ (outcome ≡ None)
kept_or (Some handled) = inl tt
kept_or None = inr refl

-- one outcome, one list of notes and one state
pub record SameWay (one : Outcome) (notes : List Note) (new : State) (other : Outcome) (parsed : List Note) (after : State) : Type 0 where
  pub outcome : SameOutcome one other
  pub notes_are : notes ≡ parsed
  pub state : new ≡ after

notified_same : (one other : Effects) → SameReply one other → cancel_notes one ≡ cancel_notes other
notified_same one other same = ap (λ (cancels : List Cancel). map Canceled cancels) same.cancels

-- the notes after the same cancels are the same in part
later_alike : (cancels : List Cancel) (later parsed : List Note) (rest more : List Happening) → map Notified (map Canceled cancels ++ later) ++ rest ≡ map Notified (map Canceled cancels ++ parsed) ++ more → map Notified later ++ rest ≡ map Notified parsed ++ more
later_alike [] later parsed rest more e = e
later_alike (cancel ∷ cancels) later parsed rest more e = later_alike cancels later parsed rest more (cc)

-- two notes, each the first of one list of happenings
first_one : (notes acted_on : List Note) (x y : Note) (rest more : List Happening) → notes ≡ x ∷ [] → acted_on ≡ y ∷ [] → map Notified notes ++ rest ≡ map Notified acted_on ++ more → x ≡ y
first_one notes acted_on x y rest more is its e =
    let both : Notified x ∷ rest ≡ Notified y ∷ more = sym (ap (λ (ns : List Note). map Notified ns ++ rest) is) ∙ (e ∙ ap (λ (ns : List Note). map Notified ns ++ more) its) in cc

-- a query isn't dispatched
not_both : {A : Type 0} → (query other : Bool) → query ≡ other → query ≡ true → other ≡ false → A
not_both query other same is isnt = let never : true ≡ false = sym is ∙ (same ∙ isnt) in absurd (cc)

same_plan : (plan other : PlanRecord) (started begun : List Started) → Planned (Some plan) started ≡ Planned (Some other) begun → (plan ≡ other) × (started ≡ begun)
same_plan plan other started begun same = (cc, cc)

-- the state after a dispatch, by its plan
abbrev planned_state : ℕ → State → PlanRecord → List Started → State
planned_state now old plan started = record (beginning_all now started (marked_state now plan old)) { begun = started }

-- one dispatch, one list of notes and one state
record SameDispatch (made : Dispatch) (notes : List Note) (new : State) (parsed : Dispatch) (acted_on : List Note) (after : State) : Type 0 where
  dispatch_is : made ≡ parsed
  notes_are : notes ≡ acted_on
  state : new ≡ after

-- two dispatches of one state are the same, if one list of happenings follows both
dispatched_one : (query other : Bool) (now : ℕ) (old : State) (made parsed : Dispatch) (notes acted_on : List Note) (new after : State) (rest more : List Happening) → query ≡ other → map Notified notes ++ rest ≡ map Notified acted_on ++ more → Follows query now old made notes new → Follows other now old parsed acted_on after → SameDispatch made notes new parsed acted_on after
dispatched_one query other now old dispatch.Query dispatch.Query notes acted_on new after rest more same e (is, still, none) (its, stays, nothing) = record { dispatch_is = refl; notes_are = none ∙ sym nothing; state = still ∙ sym stays }
dispatched_one query other now old dispatch.Query dispatch.OutOfMemory notes acted_on new after rest more same e p q = not_both query other same p.0 q.0
dispatched_one query other now old dispatch.Query dispatch.Idle notes acted_on new after rest more same e p q = not_both query other same p.0 q.0
dispatched_one query other now old dispatch.Query dispatch.Planned notes acted_on new after rest more same e p q = not_both query other same p.0 q.0
dispatched_one query other now old dispatch.OutOfMemory dispatch.Query notes acted_on new after rest more same e p q = not_both other query (sym same) q.0 p.0
dispatched_one query other now old dispatch.Idle dispatch.Query notes acted_on new after rest more same e p q = not_both other query (sym same) q.0 p.0
dispatched_one query other now old dispatch.Planned dispatch.Query notes acted_on new after rest more same e p q = not_both other query (sym same) q.0 p.0
dispatched_one query other now old dispatch.OutOfMemory dispatch.OutOfMemory notes acted_on new after rest more same e (is, ready, still, one) (its, able, stays, two) = record { dispatch_is = refl; notes_are = one ∙ sym two; state = still ∙ sym stays }
dispatched_one query other now old dispatch.OutOfMemory dispatch.Idle notes acted_on new after rest more same e (is, ready, still, one) (its, found, two) =
    let never : Refused At.Dispatch None ≡ Planned None [] = first_one notes acted_on (Refused At.Dispatch None) (Planned None []) rest more one two e in absurd (cc)
dispatched_one query other now old dispatch.OutOfMemory dispatch.Planned notes acted_on new after rest more same e (is, ready, still, one) (its, plan, found, two) =
    let never : Refused At.Dispatch None ≡ Planned (Some plan) after.begun = first_one notes acted_on (Refused At.Dispatch None) (Planned (Some plan) after.begun) rest more one two e in absurd (cc)
dispatched_one query other now old dispatch.Idle dispatch.OutOfMemory notes acted_on new after rest more same e (is, made, one) (its, able, stays, two) =
    let never : Planned None [] ≡ Refused At.Dispatch None = first_one notes acted_on (Planned None []) (Refused At.Dispatch None) rest more one two e in absurd (cc)
dispatched_one query other now old dispatch.Idle dispatch.Idle notes acted_on new after rest more same e (is, made, one) (its, found, two) = record { dispatch_is = refl; notes_are = one ∙ sym two; state = made.2 ∙ sym found.2 }
dispatched_one query other now old dispatch.Idle dispatch.Planned notes acted_on new after rest more same e (is, made, one) (its, plan, found, two) =
    let never : Planned None [] ≡ Planned (Some plan) after.begun = first_one notes acted_on (Planned None []) (Planned (Some plan) after.begun) rest more one two e in absurd (cc)
dispatched_one query other now old dispatch.Planned dispatch.OutOfMemory notes acted_on new after rest more same e (is, plan, made, one) (its, able, stays, two) =
    let never : Planned (Some plan) new.begun ≡ Refused At.Dispatch None = first_one notes acted_on (Planned (Some plan) new.begun) (Refused At.Dispatch None) rest more one two e in absurd (cc)
dispatched_one query other now old dispatch.Planned dispatch.Idle notes acted_on new after rest more same e (is, plan, made, one) (its, found, two) =
    let never : Planned (Some plan) new.begun ≡ Planned None [] = first_one notes acted_on (Planned (Some plan) new.begun) (Planned None []) rest more one two e in absurd (cc)
dispatched_one query other now old dispatch.Planned dispatch.Planned notes acted_on new after rest more same e (is, plan, made, one) (its, chosen, found, two) =
    let first : Planned (Some plan) new.begun ≡ Planned (Some chosen) after.begun = first_one notes acted_on (Planned (Some plan) new.begun) (Planned (Some chosen) after.begun) rest more one two e in
    let both = same_plan plan chosen new.begun after.begun first in
    record {
      dispatch_is = refl;
      notes_are = one ∙ (ap (λ (note : Note). note ∷ []) first ∙ sym two);
      state = made.3 ∙ (ap (λ (x : PlanRecord). planned_state now old x new.begun) both.0 ∙ (ap (λ (begun : List Started). planned_state now old chosen begun) both.1 ∙ sym found.3));
    }

module _ (steps : StepsOnce) where
  -- the results of events with the same content are the same, if neither is dropped and one list of happenings follows both
  pub handled_one : (moment : ℕ) (event other : Event) (old : State) (outcome parsed : Outcome) (notes acted_on : List Note) (new after : State) (rest more : List Happening) → SameEvent event other → is_query event ≡ is_query other → IsKept outcome → IsKept parsed
      → map Notified notes ++ rest ≡ map Notified acted_on ++ more → Handles moment event old outcome notes new → Handles moment other old parsed acted_on after → SameWay outcome notes new parsed acted_on after
  handled_one moment event other old None parsed notes acted_on new after rest more same query kept enqueues e p q = absurd kept
  handled_one moment event other old (Some one) None notes acted_on new after rest more same query kept enqueues e p q = absurd enqueues
  handled_one moment event other old (Some one) (Some two) notes acted_on new after rest more same query kept enqueues e p q =
      let end = steps old event other moment one.effects p.mid two.effects q.mid same p.step q.step in
      let left : notes ≡ cancel_notes two.effects ++ p.later = p.notes_are ∙ ap (λ (ns : List Note). ns ++ p.later) (notified_same one.effects two.effects end.effects_are) in
      let both = later_alike two.effects.cancels.items p.later q.later rest more (sym (ap (λ (ns : List Note). map Notified ns ++ rest) left) ∙ (e ∙ ap (λ (ns : List Note). map Notified ns ++ more) q.notes_are)) in
      let follows : Follows (is_query other) (max moment p.mid.last) p.mid two.dispatch q.later after = subst (λ (s : State). Follows (is_query other) (max moment s.last) s two.dispatch q.later after) (sym end.state) q.follows in
      let made = dispatched_one (is_query event) (is_query other) (max moment p.mid.last) p.mid one.dispatch two.dispatch p.later q.later new after rest more query both p.follows follows in
      record {
        outcome = record { effects_are = end.effects_are; dispatch_is = made.dispatch_is };
        notes_are = left ∙ (ap (λ (ns : List Note). cancel_notes two.effects ++ ns) made.notes_are ∙ sym q.notes_are);
        state = made.state;
      }

  -- ---- the bytes that become due then

  same_sent : (one other : Effects) → SameReply one other → Alike (SendsAll one) (SendsAll other)
  same_sent one other same = subst (λ (cancels : List Cancel). Alike (SendsAll one) (EachOf cancels Sends)) same.cancels (fixed_each_of one.cancels.items Sends fixed_sends)

  same_orders : (one other : Outcome) → SameOutcome one other → Alike (Orders one) (Orders other)
  same_orders (Some one) (Some other) same =
      alike_then (same_sent one.effects other.effects same.effects_are) (subst (λ (made : Dispatch). Alike (StartsBy one.dispatch) (StartsBy made)) same.dispatch_is (fixed_starts_by one.dispatch))
  same_orders None None same = fixed_nothing
  same_orders (Some one) None same = absurd same
  same_orders None (Some other) same = absurd same

  pub same_undispatched : (one other : Outcome) (before : Bool) → SameOutcome one other → undispatched_after one before ≡ undispatched_after other before
  same_undispatched (Some one) (Some other) before same = ap (λ (made : Dispatch). refused_after made before) same.dispatch_is
  same_undispatched None None before same = refl
  same_undispatched (Some one) None before same = absurd same
  same_undispatched None (Some other) before same = absurd same

  -- ---- an event

  found_kept : (outcome : Outcome) → IsKept outcome → found_by outcome ≡ Chosen Found ∷ []
  found_kept (Some handled) kept = refl
  found_kept None kept = absurd kept

  after_head : (x : Happening) (xs ys : List Happening) → x ∷ xs ≡ x ∷ ys → xs ≡ ys
  after_head x xs ys same = cc

  decided_one : (moment : ℕ) (event other : Event) (outcome parsed : Outcome) (l : Ledger) (hs rest : List Happening) (a : Ledger) (ks more : List Happening) (b : Ledger) → SameEvent event other → is_query event ≡ is_query other → IsKept outcome → IsKept parsed
      → hs ++ rest ≡ ks ++ more → Decides moment event outcome l hs a → Decides moment other parsed l ks b → SameOutcome outcome parsed × (hs ≡ ks) × (a ≡ b)
  decided_one moment event other outcome parsed l hs rest a ks more b same query kept enqueues e p q =
      let left : hs ≡ Chosen Found ∷ map Notified p.notes = p.notified ∙ ap (λ (xs : List Happening). xs ++ map Notified p.notes) (found_kept outcome kept) in
      let right : ks ≡ Chosen Found ∷ map Notified q.notes = q.notified ∙ ap (λ (xs : List Happening). xs ++ map Notified q.notes) (found_kept parsed enqueues) in
      let both : Chosen Found ∷ (map Notified p.notes ++ rest) ≡ Chosen Found ∷ (map Notified q.notes ++ more) = sym (ap (λ (xs : List Happening). xs ++ rest) left) ∙ (e ∙ ap (λ (xs : List Happening). xs ++ more) right) in
      let way = handled_one moment event other l.core outcome parsed p.notes q.notes p.state q.state rest more same query kept enqueues (after_head (Chosen Found) (map Notified p.notes ++ rest) (map Notified q.notes ++ more) both) p.handles q.handles in (
        way.outcome,
        left ∙ (ap (λ (ns : List Note). Chosen Found ∷ map Notified ns) way.notes_are ∙ sym right),
        p.after ∙ (ap (λ (s : State). record l { core = s; undispatched = undispatched_after outcome l.undispatched }) way.state
            ∙ (ap (λ (t : Bool). record l { core = q.state; undispatched = t }) (same_undispatched outcome parsed l.undispatched way.outcome) ∙ sym q.after)),
      )

  -- an event that isn't dropped, and the bytes that it sends to devices
  happened_one : (moment : ℕ) (event other : Event) (outcome parsed : Outcome) (l : Ledger) (hs rest : List Happening) (a : Ledger) (ks more : List Happening) (b : Ledger) → SameEvent event other → is_query event ≡ is_query other → IsKept outcome → IsKept parsed
      → hs ++ rest ≡ ks ++ more → Happens moment event outcome l hs a → Happens moment other parsed l ks b → SameOutcome outcome parsed × (hs ≡ ks) × (a ≡ b)
  happened_one moment event other outcome parsed l hs rest a ks more b same query kept enqueues e p q =
      then_one (Decides moment event outcome) (Decides moment other parsed) (Orders outcome) (Orders parsed) l hs rest a ks more b e p q
      (λ left right both. decided_one moment event other outcome parsed l p.prefix left p.mid q.prefix right q.mid same query kept enqueues both p.first q.first)
      (λ way. same_orders outcome parsed way)

  -- a dropped event changes nothing
  dropped_one : (moment : ℕ) (event : Event) (l : Ledger) (hs : List Happening) (a : Ledger) → Happens moment event None l hs a → (hs ≡ []) × (a ≡ l)
  dropped_one moment event l hs a it =
      let notified : it.first.notes ≡ [] = it.first.handles.1 in
      let still : it.prefix ≡ [] = it.first.notified ∙ ap (λ (ns : List Note). map Notified ns) notified in
      let core : it.first.state ≡ l.core = it.first.handles.0 in (
        it.whole ∙ (ap (λ (xs : List Happening). xs ++ it.back) still ∙ it.second.0),
        it.second.1 ∙ (it.first.after ∙ ap (λ (s : State). record l { core = s }) core),
      )

  -- the choice of an event is its first happening
  found_first : (moment : ℕ) (event : Event) (outcome : Outcome) (l : Ledger) (hs : List Happening) (a : Ledger) → IsKept outcome → Happens moment event outcome l hs a → BeginsAs is_choice true hs
  found_first moment event outcome l hs a kept it =
      let left : it.prefix ≡ Chosen Found ∷ map Notified it.first.notes = it.first.notified ∙ ap (λ (xs : List Happening). xs ++ map Notified it.first.notes) (found_kept outcome kept) in
      begins_just is_choice true (Chosen Found) (map Notified it.first.notes ++ it.back) hs refl (it.whole ∙ ap (λ (xs : List Happening). xs ++ it.back) left)

  -- ---- an event that takes no memory, and isn't dropped

  pub light_kept : (moment : ℕ) (event : Event) (outcome : Outcome) (l : Ledger) (hs : List Happening) (a : Ledger) → TakesNoMemory event moment l.core → Happens moment event outcome l hs a → IsKept outcome
  light_kept moment event (Some handled) l hs a light it = tt
  light_kept moment event None l hs a light it = it.first.handles.2 light

  pub unanswered_alike : (moment : ℕ) (event other : Event) → SameEvent event other → is_query event ≡ is_query other → ((s : State) → TakesNoMemory event moment s) → ((s : State) → TakesNoMemory other moment s) → Alike (Unanswered moment event) (Unanswered moment other)
  unanswered_alike moment event other same query light easy = record {
    one = λ l hs rest a ks more b e p q.
        let it = happened_one moment event other p.0 q.0 l hs rest a ks more b same query (light_kept moment event p.0 l hs a (light l.core) p.1) (light_kept moment other q.0 l ks b (easy l.core) q.1) e p.1 q.1 in
        (it.1, it.2);
  }

  pub fixed_report : (moment device : ℕ) (report : Report) → Fixed (Unanswered moment (Is.Report device report))
  fixed_report moment device report = unanswered_alike moment (Is.Report device report) (Is.Report device report) (refl, refl) refl (λ s. tt) (λ s. tt)

  pub fixed_tick : (moment : ℕ) → Fixed (Unanswered moment Is.Tick)
  fixed_tick moment = unanswered_alike moment Is.Tick Is.Tick refl refl (λ s. tt) (λ s. tt)

  -- ---- an event with an answer

  -- an event and its answer; the drop of an event is notified first
  pub answered_alike : (moment : ℕ) (event other : Event) (Q R : Option Effects → Rel) → SameEvent event other → is_query event ≡ is_query other → Begins is_choice false (Q None) → Begins is_choice false (R None) → Alike (Q None) (R None)
      → ((one two : Effects) → SameReply one two → Alike (Q (Some one)) (R (Some two)))
      → Alike (λ l hs a. (outcome : Outcome) × Then (Happens moment event outcome) (Q (effects_of outcome)) l hs a) (λ l hs a. (outcome : Outcome) × Then (Happens moment other outcome) (R (effects_of outcome)) l hs a)
  answered_alike moment event other Q R same query notifies notified dropped answered = record { one = λ l hs rest a ks more b e (outcome, p) (parsed, q). by_kind outcome parsed l hs rest a ks more b e (kept_or outcome) (kept_or parsed) p q }
    where
      replies : (outcome parsed : Outcome) → SameOutcome outcome parsed → Alike (Q (effects_of outcome)) (R (effects_of parsed))
      replies (Some one) (Some two) way = answered one.effects two.effects way.effects_are
      replies None None way = dropped
      replies (Some one) None way = absurd way
      replies None (Some two) way = absurd way

      -- a dropped event, with its note
      notified_first : (x : Event) (S : Option Effects → Rel) → Begins is_choice false (S None) → (l : Ledger) (hs : List Happening) (a : Ledger) → Then (Happens moment x None) (S None) l hs a → BeginsAs is_choice false hs
      notified_first x S begins l hs a it =
          let none = dropped_one moment x l it.prefix it.mid it.first in
          subst (BeginsAs is_choice false) (sym (it.whole ∙ ap (λ (xs : List Happening). xs ++ it.back) none.0)) (begins.begins it.mid it.back a it.second)

      chosen_first : (x : Event) (S : Option Effects → Rel) (outcome : Outcome) → IsKept outcome → (l : Ledger) (hs : List Happening) (a : Ledger) → Then (Happens moment x outcome) (S (effects_of outcome)) l hs a → BeginsAs is_choice true hs
      chosen_first x S outcome kept l hs a it = subst (BeginsAs is_choice true) (sym it.whole) (begins_append is_choice true it.prefix it.back (found_first moment x outcome l it.prefix it.mid kept it.first))

      as_dropped : (x : Event) (S : Option Effects → Rel) (outcome : Outcome) (l : Ledger) (hs : List Happening) (a : Ledger) → outcome ≡ None → Then (Happens moment x outcome) (S (effects_of outcome)) l hs a → Then (Happens moment x None) (S None) l hs a
      as_dropped x S outcome l hs a is it = subst (λ (o : Outcome). Then (Happens moment x o) (S (effects_of o)) l hs a) is it

      by_kind : (outcome parsed : Outcome) (l : Ledger) (hs rest : List Happening) (a : Ledger) (ks more : List Happening) (b : Ledger) → hs ++ rest ≡ ks ++ more → IsKept outcome ⊎ (outcome ≡ None) → IsKept parsed ⊎ (parsed ≡ None)
          → Then (Happens moment event outcome) (Q (effects_of outcome)) l hs a → Then (Happens moment other parsed) (R (effects_of parsed)) l ks b → (hs ≡ ks) × (a ≡ b)
      by_kind outcome parsed l hs rest a ks more b e (inl kept) (inl enqueues) p q =
          let it = then_one (Happens moment event outcome) (Happens moment other parsed) (Q (effects_of outcome)) (R (effects_of parsed)) l hs rest a ks more b e p q
          (λ left right both. happened_one moment event other outcome parsed l p.prefix left p.mid q.prefix right q.mid same query kept enqueues both p.first q.first)
          (λ way. replies outcome parsed way) in
          (it.1, it.2)
      by_kind outcome parsed l hs rest a ks more b e (inl kept) (inr is) p q = apart is_choice hs rest ks more e (chosen_first event Q outcome kept l hs a p) (notified_first other R notified l ks b (as_dropped other R parsed l ks b is q))
      by_kind outcome parsed l hs rest a ks more b e (inr is) (inl enqueues) p q = apart is_choice ks more hs rest (sym e) (chosen_first other R parsed enqueues l ks b q) (notified_first event Q notifies l hs a (as_dropped event Q outcome l hs a is p))
      by_kind outcome parsed l hs rest a ks more b e (inr is) (inr its) p q =
          let left = as_dropped event Q outcome l hs a is p in
          let right = as_dropped other R parsed l ks b its q in
          let none = dropped_one moment event l left.prefix left.mid left.first in
          let nor = dropped_one moment other l right.prefix right.mid right.first in
          (alike_then fixed_nothing dropped).one l hs rest a ks more b e
          (record { mid = left.mid; prefix = left.prefix; back = left.back; whole = left.whole; first = none; second = left.second })
          (record { mid = right.mid; prefix = right.prefix; back = right.back; whole = right.whole; first = nor; second = right.second })
