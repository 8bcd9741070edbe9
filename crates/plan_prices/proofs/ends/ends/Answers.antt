use Rattle.std.proofs.Common.{◌≡◌, length, ap, arith}
use Rattle.plan_prices.proofs.Written.{all_written, lists_more, lent_back}
use Rattle.plan_prices.proofs.ends.ends.Goals as goal

pub loop-place-preserved : goal.loop-place-preserved
loop-place-preserved c =
    let ends = c.loop-place.ends in
    let new = c.write_ends.new.ends in
    let len : ends.len ≡ length new = omega (arith, ends.ok.0, c.loop-place.invariant.0, c.write_ends.ensures.one_each) in
    rw (lent_back ends.len new ends.items len) (
      c.write_ends.ensures.one_each,
      lists_more c.args.class.now c.args.way.now c.loop-place.place c.new.result ends.items c.deref_mut.result.now new c.new.ensures c.deref_mut.ensures.value c.write_ends.ensures.stay c.write_ends.ensures.here c.loop-place.invariant.1,
    )

pub returns : goal.returns
returns c =
    all_written c.args.class.now c.ids.ensures.class c.args.way.now c.requires c.loop-place.ends.items c.loop-place.invariant.0
    (λ k l. c.loop-place.invariant.1 k (omega (arith, l, c.loop-place-test.false, ap length c.queues-place-end.ensures)))
