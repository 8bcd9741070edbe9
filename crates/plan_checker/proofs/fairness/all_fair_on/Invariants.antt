use Rattle.std.proofs.Common.{◌≡◌, ℕ, ◌<◌, get_or, pos, Some}
use Rattle.plan_problem.specs.Class.{time_in}
use Rattle.plan_checker.specs.Fair.{IsFairOn}
use Rattle.plan_checker.proofs.fairness.all_fair_on.Given as goal

abbrev pub invariant-loop-place : goal.invariant-loop-place
invariant-loop-place l = (k time : ℕ) → k < l.place → time_in l.class (get_or l.class.ids k 0) l.device ≡ Some time → IsFairOn l.wait time (get_or l.prices k (pos 0)) l.places
