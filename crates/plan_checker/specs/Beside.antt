-- The context of a class in its plan: the classes above it, and the stranded jobs.
use Rattle.std.specs.Prelude.{◌≡◌, ℕ, suc, List, [], Some, length, All, Contains, slice_get}
use Rattle.base_types.specs.declared.needs.Stranded.{Stranded}
use Rattle.plan_problem.specs.Class.{Class}
use Rattle.plan_prices.specs.declared.plan.PlannedClass.{PlannedClass}
use Rattle.plan_prices.specs.Way.{IsWay}
use Rattle.plan_prices.specs.Waits.{waits_after}

-- the classes above, from the highest down
pub record Beside : Type 0 where
  pub above : List PlannedClass
  pub stranded : List Stranded

-- the empty context of a class by itself
abbrev pub alone : Beside
alone = record { above = []; stranded = [] }

-- a job isn't of a class above
abbrev pub NotAbove : List PlannedClass → ℕ → Type 0
NotAbove above job = All (λ class. ¬ Contains class.problem.ids job) above

-- a job isn't stranded
abbrev pub NotStranded : List Stranded → ℕ → Type 0
NotStranded stranded job = All (λ other. ¬ (other.job ≡ job)) stranded

-- no job of the class is of a class above, or stranded
pub record NoneElsewhere (beside : Beside) (c : Class) : Type 0 where
  pub above : All (NotAbove beside.above) c.ids
  pub stranded : All (NotStranded beside.stranded) c.ids

-- the waits of the class are the waits after the class just above it; the waits of the first class are given
abbrev pub WaitsFollow : List PlannedClass → Class → Type 0
WaitsFollow above c = (place : ℕ) (last : PlannedClass) → suc place ≡ length above → slice_get above place ≡ Some last → c.waits ≡ waits_after last.problem last.priced.way

-- each class above has a way
abbrev pub AboveHaveWays : List PlannedClass → Type 0
AboveHaveWays above = All (λ class. IsWay class.problem class.priced.way) above
