use Rattle.std.proofs.Common.{arith}
use Rattle.std.proofs.lemmas.Int.{ints}
use Rattle.plan_checker.proofs.Fair.{sum_lists_step}
use Rattle.plan_checker.proofs.totals.sum_of_lists.Goals as goal

pub loop-prices-preserved : goal.loop-prices-preserved
loop-prices-preserved c = record {
  sum_is = omega (arith, ints, c.loop-prices.invariant.sum_is, sum_lists_step c.args.places.now c.loop-prices.prices-index c.prices-item.result c.prices.result.now c.loop-prices-test.true c.prices-item.is c.prices.ensures, c.sum_of-sum.ensures.sum);
  low = omega (arith, ints);
  high = omega (arith, ints);
}
