use Rattle.std.proofs.Common.{◌≡◌, ◌<◌, [], length, get_or, arith, ap, refl, sym, ◌∙◌}
use Rattle.plan_prices.proofs.Steps.{queue_at, total_step, total_end}
use Rattle.plan_prices.proofs.Bounds.{places_small}
use Rattle.plan_prices.proofs.Completions.{by_places}
use Rattle.plan_prices.specs.Total.{list_cost}
use Rattle.plan_problem.specs.Class.{wait_in}
use Rattle.plan_prices.proofs.way_total.total.Goals as goal

pub queue_total-sum-requires-clause-fits : goal.queue_total-sum-requires-clause-fits
queue_total-sum-requires-clause-fits c =
    let queue : c.jobs.result.now ≡ get_or c.args.way.now c.loop-place.place [] = queue_at c.args.way.now c.queues-queue-items.result.now c.loop-place.place c.queue-item.result c.jobs.result.now c.queues-queue-items.ensures c.loop-place-test.true c.queue-item.is c.jobs.ensures in
    let below : c.loop-place.place < length c.args.way.now = omega (arith, c.loop-place-test.true, ap length c.queues-queue-items.ensures) in
    omega (
      arith,
      places_small c.args.class.now c.ids-class.ensures.class c.args.way.now c.requires,
      c.loop-place.invariant,
      total_step c.args.class.now c.args.way.now c.loop-place.place (list_cost c.args.class.now c.new.result (wait_in c.args.class.now c.new.result) c.jobs.result.now) c.new.result c.jobs.result.now below c.new.ensures queue refl,
    )

pub overflow_add-sum : goal.overflow_add-sum
overflow_add-sum c =
    let queue : c.jobs.result.now ≡ get_or c.args.way.now c.loop-place.place [] = queue_at c.args.way.now c.queues-queue-items.result.now c.loop-place.place c.queue-item.result c.jobs.result.now c.queues-queue-items.ensures c.loop-place-test.true c.queue-item.is c.jobs.ensures in
    let below : c.loop-place.place < length c.args.way.now = omega (arith, c.loop-place-test.true, ap length c.queues-queue-items.ensures) in
    omega (
      arith,
      places_small c.args.class.now c.ids-class.ensures.class c.args.way.now c.requires,
      c.loop-place.invariant,
      total_step c.args.class.now c.args.way.now c.loop-place.place c.queue_total-sum.result c.new.result c.jobs.result.now below c.new.ensures queue c.queue_total-sum.ensures,
    )

pub returns-clause-completions : goal.returns-clause-completions
returns-clause-completions c =
    total_end c.args.class.now c.args.way.now c.queues-queue-items.result.now c.loop-place.place c.loop-place.sum c.queues-queue-items.ensures c.loop-place-test.false c.loop-place.invariant
    ∙ sym (by_places c.args.class.now c.ids-class.ensures.class c.args.way.now c.requires)
