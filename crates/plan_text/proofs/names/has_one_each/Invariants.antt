use Rattle.std.proofs.Common.{ℕ, ◌<◌, get_or}
use Rattle.plan_prices.specs.declared.plan.PlannedClass.{PlannedClass}
use Rattle.plan_text.specs.NamedPlan.{HasOneEach}
use Rattle.plan_text.proofs.names.has_one_each.Given as goal

abbrev pub invariant-loop-class : goal.invariant-loop-class
invariant-loop-class l = (k : ℕ) (d : PlannedClass) → k < l.class-index → HasOneEach l.devices (get_or l.classes k d)
