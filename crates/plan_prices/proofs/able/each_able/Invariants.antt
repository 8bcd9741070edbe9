use Rattle.std.proofs.Common.{ℕ, ◌<◌, [], None, get_or}
use Rattle.std.specs.Option.{IsSome}
use Rattle.plan_prices.proofs.able.each_able.Given as goal

abbrev pub invariant-loop-row : goal.invariant-loop-row
invariant-loop-row l = (j : ℕ) → j < l.row-index → (d : ℕ) × IsSome (get_or (get_or l.class.rows j []) d None)
