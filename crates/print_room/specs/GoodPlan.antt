-- A good plan: class by class, from the highest priority down, each class is best for the devices as the classes above leave them (W. A. Horn, Minimizing average flow time with parallel machines, 1973; J. Bruno, E. G. Coffman and R. Sethi, Scheduling independent tasks to reduce mean finishing time, 1974).
use Rattle.std.specs.Prelude.{ℕ, zero, suc, ◌≡◌, ◌≤◌, Bool, true, false, List, [], ◌∷◌, map, filter}
use Rattle.base_types.specs.declared.limits.TheConstants.Limits.{HIGHEST_PRIORITY, AMOUNT}
use Rattle.job_objects.specs.Job.{JobRecord}
use Rattle.plan_problem.specs.Class.{IsClass}
use Rattle.plan_problem.specs.ClassJob.{JobOfClass, IsClassOf}
use Rattle.plan_prices.specs.declared.plan.PlannedClass.{PlannedClass}
use Rattle.plan_prices.specs.Plan.{PlanRecord}
use Rattle.plan_prices.specs.Total.{IsBest, total_of}
use Rattle.plan_prices.specs.Timetable.{Slot, IsTimetable, slots_total}
use Rattle.plan_prices.specs.Prices.{IsProved}
use Rattle.plan_prices.specs.Order.{KeepsOrder}
use Rattle.plan_prices.specs.Waits.{waits_after}
use Rattle.plan_checker.specs.Plan.{IsPlanVerdict}
use Rattle.plan_checker.specs.declared.verdict.PlanVerdict.TheVariants.{Yes}
use Rattle.print_room.specs.Activity.{wait_of}
use Rattle.print_room.specs.State.{State, sets_of}
use Rattle.print_room.specs.Ready.{class_of, stranded_of}

-- the ms from a moment until each device is free
abbrev pub waits_of : ℕ → State → List ℕ
waits_of now state = map (wait_of now) state.devices

abbrev pub is_some_job : List JobRecord → Bool
is_some_job [] = false
is_some_job (job ∷ jobs) = true

-- the priorities from a priority down to 1
unfoldable pub falling : ℕ → List ℕ
falling zero = []
falling (suc priority) = suc priority ∷ falling priority

-- the priorities whose class has a job, from the highest down
abbrev pub priorities_of : State → List ℕ
priorities_of state = filter (λ priority. is_some_job (class_of state priority)) (falling HIGHEST_PRIORITY)

abbrev pub job_of_class : JobRecord → JobOfClass
job_of_class job = record { id = job.id; needs = job.needs }

-- A class, planned under these waits. Its problem has exactly the class's jobs, each with its time on each device that can print it. No way to assign and order the jobs has a smaller total of completion times, and no timetable with gaps has. The prices prove that, and the total is stated. The numbers of the problem are within their ranges, and the total is within that of a text. Of two jobs that take the same time on each device, the older one completes no later.
pub record IsPlannedBest (state : State) (waits : List ℕ) (class : PlannedClass) : Type 0 where
  pub problem : IsClassOf (map job_of_class (class_of state class.priority)) state.devices (sets_of state.settings) waits class.problem
  pub best : IsBest class.problem class.priced.way
  pub timetables : (slots : List Slot) → IsTimetable class.problem slots → total_of class.problem class.priced.way ≤ slots_total class.problem slots
  pub proved : IsProved class.problem class.priced.way class.priced.prices class.priced.total
  pub in_range : IsClass class.problem
  pub bounded : class.priced.total ≤ AMOUNT
  pub order : KeepsOrder class.problem class.priced.way

-- each class is best under the waits that the classes above it leave; the first class has these waits
abbrev pub AllPlannedBest : State → List ℕ → List PlannedClass → Type 0
AllPlannedBest state waits [] = Unit {0}
AllPlannedBest state waits (class ∷ classes) = IsPlannedBest state waits class × AllPlannedBest state (waits_after class.problem class.priced.way) classes

-- a good plan for a moment
pub record IsGoodPlan (now : ℕ) (state : State) (plan : PlanRecord) : Type 0 where
  -- there is a class for each priority of a ready job that some device can print, from the highest down
  pub priorities : map (λ class. class.priority) plan.classes ≡ priorities_of state
  pub classes : AllPlannedBest state (waits_of now state) plan.classes
  -- each ready job that no device can print is named, with its cause
  pub stranded : plan.stranded ≡ stranded_of state
  -- the checker, which reads nothing but the plan, accepts it
  pub checked : IsPlanVerdict plan Yes
