use Rattle.std.proofs.Common.{◌≡◌, ℕ, suc, ◌+◌, ◌*◌, ◌<◌, ◌≤◌, get_or, pos, ◌+ℤ◌, ◌≤ℤ◌}
use Rattle.base_types.specs.declared.limits.TheConstants.Limits.{JOB_TIME}
use Rattle.plan_checker.proofs.fairness.is_fair_on.Given as goal

abbrev pub invariant-loop-place : goal.invariant-loop-place
invariant-loop-place l = record {
  cost_is : l.cost ≡ pos (l.wait + l.place-index * l.time);
  small : l.place-index * l.time ≤ l.place-index * JOB_TIME;
  fair : (k : ℕ) → k < l.place-index → (l.price +ℤ get_or l.places k (pos 0)) ≤ℤ pos (l.wait + suc k * l.time);
}
