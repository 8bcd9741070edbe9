use Rattle.std.proofs.Common.{◌≡◌, ℕ, ◌<◌, length}
use Rattle.plan_prices.specs.Way.{queue_of}
use Rattle.plan_prices.specs.Prices.{places_on}
use Rattle.plan_checker.proofs.fairness.places_priced.Given as goal

abbrev pub invariant-loop-device : goal.invariant-loop-device
invariant-loop-device l = (k : ℕ) → k < l.device → length (places_on l.places k) ≡ length (queue_of l.way k)
