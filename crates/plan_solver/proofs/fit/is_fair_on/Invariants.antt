use Rattle.std.proofs.Common.{◌≡◌, ℕ, ◌+◌, ◌-◌, ◌*◌, ◌<◌, ◌≤◌, vec_len, get_or}
use Rattle.plan_solver.specs.declared.costs.TheConstants.{UNABLE}
use Rattle.plan_solver.specs.Costs.{cost_at, nowhere}
use Rattle.plan_solver.proofs.fit.is_fair_on.Given as goal

abbrev pub invariant-loop-after : goal.invariant-loop-after
invariant-loop-after l = record {
  left : l.left ≡ l.price - (get_or l.waits l.device UNABLE + l.after * get_or l.row l.device UNABLE);
  done : (c : ℕ) → c < vec_len l.matching.columns → (get_or l.matching.columns.items c nowhere).device ≡ l.device → (get_or l.matching.columns.items c nowhere).after < l.after
      → l.price ≤ cost_at l.waits l.row (get_or l.matching.columns.items c nowhere) + get_or l.matching.duals.items c 0;
}
