use Rattle.std.proofs.Common.{ℕ, ◌<◌, get_or, Contains}
use Rattle.plan_prices.specs.declared.plan.PlannedClass.{PlannedClass}
use Rattle.plan_checker.proofs.beside.not_above.Given as goal

abbrev pub invariant-loop-class : goal.invariant-loop-class
invariant-loop-class l = (k : ℕ) (d : PlannedClass) → k < l.class-index → ¬ Contains (get_or l.above k d).problem.ids l.job
