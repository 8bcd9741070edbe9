use Rattle.std.proofs.Common.{◌≡◌, ◌⊎◌, ℕ, ◌+◌, ◌-◌, ◌<◌, ◌≤◌, get_or}
use Rattle.plan_solver.specs.Costs.{cost_of, nowhere}
use Rattle.plan_solver.specs.Search.{IsExitOf}
use Rattle.plan_solver.proofs.search.nearest_free.Given as goal

abbrev pub invariant-loop-place : goal.invariant-loop-place
invariant-loop-place l = record {
  nearer : l.best.length ≤ l.fn.exit.length;
  every : (f : ℕ) → f < l.place → l.best.length ≤ l.origin.base + (cost_of l.costs l.job (get_or l.free f nowhere) - l.origin.price);
  edge : (l.best ≡ l.fn.exit) ⊎ IsExitOf (cost_of l.costs) l.job l.origin.price l.origin.base l.origin.column l.free l.best;
  kept : (f : ℕ) → f < l.place → get_or l.nears f 0 ≤ get_or l.fn.nears f 0;
  taken : (f : ℕ) → f < l.place → get_or l.nears f 0 ≤ l.origin.base + (cost_of l.costs l.job (get_or l.free f nowhere) - l.origin.price);
  rest : (f : ℕ) → l.place ≤ f → get_or l.nears f 0 ≡ get_or l.fn.nears f 0;
}
