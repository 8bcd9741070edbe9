use Rattle.std.proofs.Common.{IsSome}
use Rattle.plan_problem.specs.Class.{time_in}
use Rattle.plan_prices.proofs.Each.{each_more, some_since_is}
use Rattle.plan_prices.proofs.way_facts.is_able.Goals as goal

pub loop-job-preserved : goal.loop-job-preserved
loop-job-preserved c =
    each_more (λ job. IsSome (time_in c.args.class.now job c.args.device)) c.args.jobs.now c.loop-job.job-index c.job-item.result c.loop-job-test.true c.job-item.is
    (some_since_is _ (rw c.time.ensures.time at c.if-is_none.ensures)) c.loop-job.invariant
