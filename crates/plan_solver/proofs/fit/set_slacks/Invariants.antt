use Rattle.std.proofs.Common.{◌≡◌, ℕ, ◌+◌, ◌<◌, ◌≤◌, length, vec_len, get_or}
use Rattle.plan_solver.specs.Costs.{cost_of, nowhere}
use Rattle.plan_solver.proofs.fit.set_slacks.Given as goal

abbrev pub invariant-loop-f : goal.invariant-loop-f
invariant-loop-f l = record {
  one_each : length l.slacks ≡ length l.fn.slacks;
  room : (q f : ℕ) → q < vec_len l.matching.columns → f < l.f → get_or l.matching.prices.items q 0 + get_or l.slacks f 0 ≤ cost_of l.costs (get_or l.matching.jobs.items q 0) (get_or l.free f nowhere);
}
