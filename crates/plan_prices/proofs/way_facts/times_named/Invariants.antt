use Rattle.std.proofs.Common.{◌≡◌, ◌*◌, ◌≤◌, ◌^◌, take}
use Rattle.plan_prices.proofs.Names.{times_in_lists}
use Rattle.plan_prices.proofs.way_facts.times_named.Given as goal

abbrev pub invariant-loop-queue : goal.invariant-loop-queue
invariant-loop-queue l = (l.named ≡ times_in_lists (take l.queue-index l.way) l.job) × (l.named ≤ 2 ^ 64 * l.queue-index)
