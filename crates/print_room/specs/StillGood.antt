-- A kept plan is still good while nothing that it depends on has changed.
use Rattle.std.specs.Prelude.{ℕ, ◌≡◌, ◌==◌, Bool, if◌then◌else◌, not, List, Option, Some, None}
use Rattle.std.specs.List.{list_all, list_any}
use Rattle.std.specs.Str.{bytes_eq}
use Rattle.base_types.specs.Device.{Device}
use Rattle.base_types.specs.declared.device.Medium.{Medium}
use Rattle.plan_prices.specs.Plan.{PlanRecord}
use Rattle.print_room.specs.Activity.{wait_of}
use Rattle.print_room.specs.State.{State}
use Rattle.print_room.specs.GoodPlan.{IsGoodPlan}

-- the last plan is a good plan of the current state, for a moment
abbrev pub IsStillGood : ℕ → State → Type 0
IsStillGood now state = (plan : PlanRecord) × (state.plan ≡ Some plan) × IsGoodPlan now state plan

-- the last plan is still good for the moment, if there is one
abbrev pub HoldsFor : Option ℕ → State → Type 0
HoldsFor None state = Unit {0}
HoldsFor (Some moment) state = IsStillGood moment state

-- whether each device's wait is the same at both moments
abbrev pub waits_stay : ℕ → ℕ → List Device → Bool
waits_stay one other devices = list_all (λ d. wait_of one d == wait_of other d) devices

-- whether a medium is loaded exactly if its name is one of these
abbrev pub loads : List (List ℕ) → Medium → Bool
loads names medium = if medium.loaded then list_any (bytes_eq medium.name) names else not (list_any (bytes_eq medium.name) names)
