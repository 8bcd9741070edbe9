use Rattle.std.proofs.Common.{◌<◌, length, arith}
use Rattle.plan_problem.specs.Class.{place_of}
use Rattle.plan_prices.proofs.Each.{each_more, match_since_some}
use Rattle.plan_prices.proofs.way_facts.knows.Goals as goal

pub loop-job-preserved : goal.loop-job-preserved
loop-job-preserved c =
    let m = match_since_some c.place.result _ _ c.if-is_none.ensures c.place.ensures in
    each_more (λ job. place_of c.args.class.now.ids job < length c.args.class.now.ids) c.args.jobs.now c.loop-job.job-index c.job-item.result c.loop-job-test.true c.job-item.is
    (omega (arith, m.1)) c.loop-job.invariant
