use Rattle.std.proofs.Common.{ℕ, ◌<◌}
use Rattle.plan_prices.specs.Prices.{places_on}
use Rattle.plan_checker.specs.Fair.{AllFairOn}
use Rattle.plan_checker.proofs.fairness.all_fair.Given as goal

abbrev pub invariant-loop-place : goal.invariant-loop-place
invariant-loop-place l = (k : ℕ) → k < l.place → AllFairOn l.class k l.prices.jobs (places_on l.prices.places k)
