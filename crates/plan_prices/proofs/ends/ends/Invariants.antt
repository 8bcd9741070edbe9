use Rattle.std.proofs.Common.{◌≡◌, ℕ, ◌<◌, length, All}
use Rattle.plan_prices.specs.Way.{queue_of}
use Rattle.plan_prices.specs.OrderedSoFar.{IsEnd}
use Rattle.plan_prices.proofs.ends.ends.Given as goal

abbrev pub invariant-loop-place : goal.invariant-loop-place
invariant-loop-place l = (length l.ends.items ≡ length l.class.ids) × ((k : ℕ) → k < l.place → All (IsEnd l.class l.way l.ends.items) (queue_of l.way k))
