use Rattle.std.proofs.Common.{◌≡◌, ◌*◌, ◌^◌, drop, pos, ◌+ℤ◌, neg_ℤ, ◌≤ℤ◌}
use Rattle.plan_prices.specs.Prices.{sum_lists}
use Rattle.plan_checker.proofs.totals.sum_of_lists.Given as goal

abbrev pub invariant-loop-prices : goal.invariant-loop-prices
invariant-loop-prices l = record {
  sum_is : l.sum +ℤ sum_lists (drop l.prices-index l.places) ≡ sum_lists l.places;
  low : neg_ℤ (pos (2 ^ 80 * l.prices-index)) ≤ℤ l.sum;
  high : l.sum ≤ℤ pos (2 ^ 80 * l.prices-index);
}
