-- The dispatch after an event, with its notes to the observer.
use Rattle.std.specs.Prelude.{ℕ, ◌≡◌, ◌≢◌, Bool, true, false, List, [], ◌∷◌, Some, None}
use Rattle.plan_prices.specs.Plan.{PlanRecord}
use Rattle.print_room.specs.State.{State}
use Rattle.print_room.specs.Ready.{ready_of}
use Rattle.print_room.specs.Dispatch.{Dispatches}
use Rattle.dispatcher.specs.declared.observer.AllocationSite.TheVariants as At
use Rattle.dispatcher.specs.declared.handled.Dispatch.{Dispatch}
use Rattle.dispatcher.specs.declared.handled.Dispatch.TheVariants as dispatch
use Rattle.dispatcher.specs.Notes.{Note, Planned, Refused, Notifies}

-- No dispatch follows a query. A dispatch that is refused memory changes nothing, and a job is ready then. A dispatch
-- without a ready job makes no plan. Any other may make any good plan.
abbrev pub Follows : Bool → ℕ → State → Dispatch → List Note → State → Type 0
Follows is_query now old dispatch.Query notes new = (is_query ≡ true) × (new ≡ old) × (notes ≡ [])
Follows is_query now old dispatch.OutOfMemory notes new = (is_query ≡ false) × (ready_of old ≢ []) × (new ≡ old) × (notes ≡ Refused At.Dispatch None ∷ [])
Follows is_query now old dispatch.Idle notes new = (is_query ≡ false) × Dispatches now old None [] new × (notes ≡ Planned None [] ∷ [])
Follows is_query now old dispatch.Planned notes new =
    (is_query ≡ false) × (plan : PlanRecord) × Dispatches now old (Some plan) new.begun new × (notes ≡ Planned (Some plan) new.begun ∷ [])

-- as `Follows`, with an observer that gets the notes
abbrev pub FollowsNotified : {L : Type 0} → (L → Note → L → Type 0) → Bool → ℕ → State → L → Dispatch → State → L → Type 0
FollowsNotified notified is_query now old observer made new observer' =
    (notes : List Note) × Follows is_query now old made notes new × Notifies notified observer notes observer'
