use Rattle.std.proofs.Common.{ℕ, ◌<◌, get_or}
use Rattle.plan_prices.specs.declared.plan.PlannedClass.{PlannedClass}
use Rattle.plan_prices.specs.Plan.{HasOneListEach}
use Rattle.plan_checker.proofs.plan_verdict.has_one_list_each.Given as goal

abbrev pub invariant-loop-class : goal.invariant-loop-class
invariant-loop-class l = (k : ℕ) (d : PlannedClass) → k < l.class-index → HasOneListEach (get_or l.classes k d)
