use Rattle.std.proofs.Common.{◌≡◌, ℕ, ◌<◌, List, get_or, All}
use Rattle.plan_prices.proofs.way_start.start_of.Given as goal

abbrev pub invariant-loop-place : goal.invariant-loop-place
invariant-loop-place l = (k : ℕ) (d : List ℕ) → k < l.place → All (λ id. ¬ (id ≡ l.job)) (get_or l.way k d)
