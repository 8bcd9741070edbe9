-- The progress of the planning of a state: the classes of the priorities above a priority are planned.
use Rattle.std.specs.Prelude.{ℕ, ◌≡◌, ◌+◌, ◌*◌, ◌≤◌, nat_lt, List, [], ◌∷◌, ◌++◌, map, filter, length, count_by, All}
use Rattle.base_types.specs.declared.limits.TheConstants.Limits.{JOB_TIME, NOT_BEFORE}
use Rattle.plan_prices.specs.declared.plan.PlannedClass.{PlannedClass}
use Rattle.plan_prices.specs.Waits.{waits_after}
use Rattle.print_room.specs.State.{State}
use Rattle.print_room.specs.Ready.{ready_of, class_of}
use Rattle.print_room.specs.GoodPlan.{is_some_job, falling, priorities_of, waits_of, AllPlannedBest}

-- the waits that classes leave, which began with these
abbrev pub left_by : List ℕ → List PlannedClass → List ℕ
left_by waits [] = waits
left_by waits (class ∷ classes) = left_by (waits_after class.problem class.priced.way) classes

-- the number of ready jobs with a higher priority
abbrev pub jobs_above : ℕ → State → ℕ
jobs_above priority state = count_by (λ j. nat_lt priority j.priority) (ready_of state)

-- the classes so far, the highest first, and the waits that they leave
pub record PlannedAbove (state : State) (now priority : ℕ) (classes : List PlannedClass) (waits : List ℕ) : Type 0 where
  pub priorities : map (λ class. class.priority) classes ++ filter (λ level. is_some_job (class_of state level)) (falling priority) ≡ priorities_of state
  pub best : AllPlannedBest state (waits_of now state) classes
  pub left : left_by (waits_of now state) classes ≡ waits
  pub one_each : length waits ≡ length state.devices
  pub short : All (λ wait. wait ≤ NOT_BEFORE + jobs_above priority state * JOB_TIME) waits
