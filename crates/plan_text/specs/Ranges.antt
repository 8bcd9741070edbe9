-- The plans that a text can have, by their numbers, names and orders.
use Rattle.std.specs.Prelude.{◌≡◌, ℕ, ℤ, ◌+◌, ◌<◌, ◌≤◌, ◌≤ℤ◌, pos, neg_ℤ, IsTrue, List, [], ◌∷◌, length, All}
use Rattle.base_types.specs.declared.limits.TheConstants.Limits.{HIGHEST_PRIORITY, UNFINISHED_JOBS, DEVICES, AMOUNT}
use Rattle.base_types.specs.Forms.{is_name}
use Rattle.base_types.specs.Ranges.{IsJobId, IsPriority}
use Rattle.plan_problem.specs.Class.{IsClass}
use Rattle.plan_prices.specs.declared.plan.PlannedClass.{PlannedClass}
use Rattle.base_types.specs.declared.needs.Stranded.{Stranded}
use Rattle.plan_text.specs.NamedPlan.{NamedPlan}

abbrev pub IsPrice : ℤ → Type 0
IsPrice price = (neg_ℤ (pos AMOUNT) ≤ℤ price) × (price ≤ℤ pos AMOUNT)

-- the class is within the limits for `devices` devices: it has a wait, a way and place prices for each of them
pub record IsClassInRange (devices : ℕ) (c : PlannedClass) : Type 0 where
  pub priority : IsPriority c.priority
  pub problem : IsClass c.problem
  pub ids : All IsJobId c.problem.ids
  pub waits : length c.problem.waits ≡ devices
  pub ways : length c.priced.way ≡ devices
  pub jobs : All (All IsJobId) c.priced.way
  pub total : c.priced.total ≤ AMOUNT
  pub job_prices : All IsPrice c.priced.prices.jobs
  pub places : length c.priced.prices.places ≡ devices
  pub place_prices : All (All IsPrice) c.priced.prices.places

-- the priorities fall, and the first of them is below a number
abbrev pub PrioritiesFall : ℕ → List PlannedClass → Type 0
PrioritiesFall below [] = Unit {0}
PrioritiesFall below (c ∷ classes) = (c.priority < below) × PrioritiesFall c.priority classes

-- the ids rise, and the first of them is above a number
abbrev pub StrandedRise : ℕ → List Stranded → Type 0
StrandedRise above [] = Unit {0}
StrandedRise above (s ∷ stranded) = (above < s.job) × StrandedRise s.job stranded

-- the number of jobs of all classes
abbrev pub jobs_in : List PlannedClass → ℕ
jobs_in [] = 0
jobs_in (c ∷ classes) = length c.problem.ids + jobs_in classes

pub record IsPlanInRange (named : NamedPlan) : Type 0 where
  pub few_devices : length named.devices ≤ DEVICES
  pub names : All (λ name. IsTrue (is_name name)) named.devices
  pub classes : All (IsClassInRange (length named.devices)) named.plan.classes
  pub fall : PrioritiesFall (HIGHEST_PRIORITY + 1) named.plan.classes
  pub stranded : All (λ s. IsJobId s.job) named.plan.stranded
  pub rise : StrandedRise 0 named.plan.stranded
  pub few_jobs : jobs_in named.plan.classes + length named.plan.stranded ≤ UNFINISHED_JOBS
