use Rattle.std.proofs.Common.{◌≡◌}
use Rattle.plan_solver.specs.Answer.{cost_of_columns}
use Rattle.plan_solver.proofs.answer.total.Given as goal

abbrev pub invariant-loop-column : goal.invariant-loop-column
invariant-loop-column l = l.sum ≡ cost_of_columns l.costs l.matching.columns.items l.matching.jobs.items l.column
