use Rattle.std.proofs.Common.{arith}
use Rattle.std.proofs.lemmas.Int.{ints}
use Rattle.plan_checker.proofs.Fair.{sum_signed_step}
use Rattle.plan_checker.proofs.totals.sum_of.Goals as goal

pub loop-price-preserved : goal.loop-price-preserved
loop-price-preserved c = record {
  sum_is = omega (arith, ints, c.loop-price.invariant.sum_is, sum_signed_step c.args.prices.now c.loop-price.price-index c.loop-price-test.true, c.from-sum.ensures);
  low = omega (arith, ints);
  high = omega (arith, ints);
}
