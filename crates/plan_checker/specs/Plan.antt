-- The verdict on a plan, and the definition of a proved plan.
use Rattle.std.specs.Prelude.{◌≡◌, ℕ, ◌<◌, Some, length, take, All, slice_get}
use Rattle.plan_prices.specs.declared.plan.PlannedClass.{PlannedClass}
use Rattle.plan_prices.specs.Plan.{PlanRecord}
use Rattle.plan_prices.specs.Prices.{IsProved}
use Rattle.plan_checker.specs.Beside.{Beside, NoneElsewhere, WaitsFollow}
use Rattle.plan_checker.specs.Verdict.{IsVerdict}
use Rattle.plan_checker.specs.declared.verdict.Verdict.{Verdict}
use Rattle.plan_checker.specs.declared.verdict.PlanVerdict.{PlanVerdict}
use Rattle.plan_checker.specs.declared.verdict.Verdict.TheVariants.{Yes as Proved, No as Faulty}
use Rattle.plan_checker.specs.declared.verdict.PlanVerdict.TheVariants.{Yes, No}

-- the context of the class at a place, where the highest class is at place 0
abbrev pub beside_at : PlanRecord → ℕ → Beside
beside_at plan place = record { above = take place plan.classes; stranded = plan.stranded }

-- the verdict on the class at a place
abbrev pub IsVerdictAt : PlanRecord → ℕ → Verdict → Type 0
IsVerdictAt plan place verdict = (class : PlannedClass) → slice_get plan.classes place ≡ Some class → IsVerdict (beside_at plan place) class.problem class.priced.way class.priced.prices class.priced.total verdict

-- all classes above a place have the verdict yes
abbrev pub YesAbove : PlanRecord → ℕ → Type 0
YesAbove plan place = (above : ℕ) → above < place → IsVerdictAt plan above Proved

-- all classes have the verdict yes; or the class at `place` is the first without it, and has this fault
abbrev pub IsPlanVerdict : PlanRecord → PlanVerdict → Type 0
IsPlanVerdict plan Yes = YesAbove plan (length plan.classes)
IsPlanVerdict plan (No place fault) = (place < length plan.classes) × YesAbove plan place × IsVerdictAt plan place (Faulty fault)

-- Each class is proved best, the waits of each class are those after the class above it, and no job is in two classes, or in a class and among the stranded. The definition doesn't restrict the priorities, and allows a job to be named twice among the stranded.
pub record IsProvedPlan (plan : PlanRecord) : Type 0 where
  pub proved : All (λ class. IsProved class.problem class.priced.way class.priced.prices class.priced.total) plan.classes
  pub waits : (place : ℕ) (class : PlannedClass) → slice_get plan.classes place ≡ Some class → WaitsFollow (take place plan.classes) class.problem
  pub once : (place : ℕ) (class : PlannedClass) → slice_get plan.classes place ≡ Some class → NoneElsewhere (beside_at plan place) class.problem
