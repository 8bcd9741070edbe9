use Rattle.plan_prices.proofs.Names.{times_named_end}
use Rattle.plan_prices.proofs.way_facts.times_named.Goals as goal

pub returns : goal.returns
returns c = times_named_end c.args.way.now c.queues-queue-items.result.now c.loop-queue.queue-index c.args.job c.loop-queue.named c.queues-queue-items.ensures c.loop-queue-test.false c.loop-queue.invariant.0
