use Rattle.std.proofs.Common.{ℕ, ◌<◌, None, get_or}
use Rattle.std.specs.Option.{IsSome}
use Rattle.plan_prices.proofs.able.has_time.Given as goal

abbrev pub invariant-loop-time : goal.invariant-loop-time
invariant-loop-time l = (d : ℕ) → d < l.time-index → ¬ IsSome (get_or l.times d None)
