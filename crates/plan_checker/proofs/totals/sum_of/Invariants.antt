use Rattle.std.proofs.Common.{◌≡◌, ◌*◌, ◌^◌, drop, pos, ◌+ℤ◌, neg_ℤ, ◌≤ℤ◌}
use Rattle.plan_prices.specs.Prices.{sum_signed}
use Rattle.plan_checker.proofs.totals.sum_of.Given as goal

abbrev pub invariant-loop-price : goal.invariant-loop-price
invariant-loop-price l = record {
  sum_is : l.sum +ℤ sum_signed (drop l.price-index l.prices) ≡ sum_signed l.prices;
  low : neg_ℤ (pos (2 ^ 63 * l.price-index)) ≤ℤ l.sum;
  high : l.sum ≤ℤ pos (2 ^ 63 * l.price-index);
}
