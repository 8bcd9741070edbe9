use Rattle.std.proofs.Common.{ℕ, ◌<◌, get_or, Option, IfSome}
use Rattle.plan_problem.specs.Time.{IsTime}
use Rattle.plan_problem.proofs.row.is_row.Given as goal

abbrev pub invariant-loop-entry : goal.invariant-loop-entry
invariant-loop-entry l = (k : ℕ) (d : Option ℕ) → k < l.entry-index → IfSome (get_or l.times k d) IsTime
