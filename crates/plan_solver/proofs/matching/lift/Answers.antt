use Rattle.std.proofs.Common.{arith}
use Rattle.plan_solver.proofs.Bounds.{price_low, dual_low}
use Rattle.plan_solver.proofs.matching.lift.Goals as goal

pub lift_by-requires-clause-prices_low : goal.lift_by-requires-clause-prices_low
lift_by-requires-clause-prices_low c = λ q lt. price_low c.args.costs.now c.args.matching.now c.args.free.now c.requires.matched c.requires.some q (omega (arith, c.requires.matched.prices))

pub lift_by-requires-clause-duals_low : goal.lift_by-requires-clause-duals_low
lift_by-requires-clause-duals_low c = λ k lt. dual_low c.args.costs.now c.args.matching.now c.args.free.now c.requires.matched c.requires.some k (omega (arith, c.requires.matched.duals))
