use Rattle.std.proofs.Common.{◌≡◌, map}
use Rattle.plan_solver.specs.Answer.{price_of_dual, duals_of_columns}
use Rattle.plan_solver.proofs.answer.place_prices.Given as goal

abbrev pub invariant-loop-column : goal.invariant-loop-column
invariant-loop-column l = l.prices.items ≡ map price_of_dual (duals_of_columns l.device l.matching.columns.items l.matching.duals.items l.column)
