use Rattle.std.proofs.Common.{ℕ, ◌+◌, ◌<◌, ◌≤◌, [], length, vec_len, get_or}
use Rattle.plan_solver.specs.AllPlaces.{place_on}
use Rattle.plan_solver.specs.Costs.{cost_of, nowhere}
use Rattle.plan_solver.proofs.fit.is_fair.Given as goal

abbrev pub invariant-loop-device : goal.invariant-loop-device
invariant-loop-device l = record {
  columns : (c : ℕ) → c < vec_len l.matching.columns → (get_or l.matching.columns.items c nowhere).device < l.device
      → get_or l.matching.prices.items l.q 0 ≤ cost_of l.costs (get_or l.matching.jobs.items l.q 0) (get_or l.matching.columns.items c nowhere) + get_or l.matching.duals.items c 0;
  next : (d : ℕ) → d < l.device → get_or l.matching.prices.items l.q 0 ≤ cost_of l.costs (get_or l.matching.jobs.items l.q 0) (place_on d (length (get_or l.by_device d [])));
}
