use Rattle.std.proofs.Common.{◌≡◌, ℕ, ◌<◌, get_or}
use Rattle.plan_prices.specs.Waits.{waits_after}
use Rattle.plan_prices.proofs.way_waits.leaves_waits.Given as goal

abbrev pub invariant-loop-place : goal.invariant-loop-place
invariant-loop-place l = (k : ℕ) → k < l.place → get_or l.next k 0 ≡ get_or (waits_after l.class l.way) k 0
