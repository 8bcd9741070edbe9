-- Prices and duals of a matching are no more than the greatest cost.
use Rattle.std.proofs.Common.{ℕ, ◌<◌, ◌≤◌, List, length, vec_len, get_or, arith}
use Rattle.plan_solver.specs.declared.costs.Costs.{Costs}
use Rattle.plan_solver.specs.declared.costs.Place.{Place}
use Rattle.plan_solver.specs.declared.costs.TheConstants.{UNABLE}
use Rattle.plan_solver.specs.declared.matching.Matching.{Matching}
use Rattle.plan_solver.specs.Costs.{cost_of, nowhere}
use Rattle.plan_solver.specs.Matching.{IsFairlyMatched}
use Rattle.plan_solver.proofs.Charges.{cost_of-low}

-- charged prices and duals are no more than a free place's cost
pub price_low : (t : Costs) (s : Matching) (free : List Place) → IsFairlyMatched (cost_of t) s free → 0 < length free → (q : ℕ) → q < vec_len s.columns → get_or s.prices.items q 0 ≤ UNABLE
price_low t s free h some q lt =
    omega (arith, h.fair_free.at q 0 (omega (arith, s.jobs.ok.0, h.jobs)) some, cost_of-low t (get_or s.jobs.items q 0) (get_or free 0 nowhere))

pub dual_low : (t : Costs) (s : Matching) (free : List Place) → IsFairlyMatched (cost_of t) s free → 0 < length free → (c : ℕ) → c < vec_len s.columns → get_or s.duals.items c 0 ≤ UNABLE
dual_low t s free h some c lt = omega (arith, h.tight.at c (omega (arith, s.columns.ok.0)), price_low t s free h some c lt)
