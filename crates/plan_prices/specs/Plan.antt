-- A plan: its classes from the highest priority down, and the jobs that no device can print, by rising id.
use Rattle.std.specs.Prelude.{◌≡◌, List, length}
use Rattle.base_types.specs.declared.needs.Stranded.{Stranded}
use Rattle.plan_prices.specs.declared.plan.PlannedClass.{PlannedClass}

pub record PlanRecord : Type 0 where
  pub classes : List PlannedClass
  pub stranded : List Stranded

-- each class has a list of jobs and a list of place prices for each device
pub record HasOneListEach (class : PlannedClass) : Type 0 where
  pub queues : length class.priced.way ≡ length class.problem.waits
  pub places : length class.priced.prices.places ≡ length class.problem.waits
