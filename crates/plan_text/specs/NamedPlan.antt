-- A plan with the names of its devices.
use Rattle.std.specs.Prelude.{◌≡◌, ℕ, List, [], length, slice_index_or}
use Rattle.plan_prices.specs.Plan.{PlanRecord}
use Rattle.plan_prices.specs.declared.plan.PlannedClass.{PlannedClass}

pub record NamedPlan : Type 0 where
  pub devices : List (List ℕ)
  pub plan : PlanRecord

-- the name of the device at a place
abbrev pub name_at : List (List ℕ) → ℕ → List ℕ
name_at names place = slice_index_or names place []

-- the class has a way and place prices for each device
pub record HasOneEach (devices : List (List ℕ)) (c : PlannedClass) : Type 0 where
  pub ways : length c.priced.way ≡ length devices
  pub places : length c.priced.prices.places ≡ length devices
