use Rattle.std.proofs.Common.{◌≡◌, map, vec_len, ℕ}
use Rattle.plan_solver.specs.Answer.{of_devices, price_of_dual, duals_of_columns}
use Rattle.plan_solver.proofs.answer.prices.Given as goal

abbrev pub invariant-loop-device : goal.invariant-loop-device
invariant-loop-device l = l.places.items ≡ of_devices (λ (d : ℕ). map price_of_dual (duals_of_columns d l.matching.columns.items l.matching.duals.items (vec_len l.matching.columns))) l.device
