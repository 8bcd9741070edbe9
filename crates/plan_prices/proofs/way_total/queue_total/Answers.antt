use Rattle.std.proofs.Common.{◌≡◌, get_or, ap, ◌∙◌, arith}
use Rattle.std.proofs.lemmas.List.{get_or_default}
use Rattle.plan_problem.specs.Class.{Class, wait_in}
use Rattle.plan_prices.specs.Total.{time_on}
use Rattle.plan_prices.proofs.Totals.{list_cost_is}
use Rattle.plan_prices.proofs.Steps.{list_total_step, list_total_end}
use Rattle.plan_prices.proofs.way_total.queue_total.Goals as goal

pub overflow_add-free : goal.overflow_add-free
overflow_add-free c =
    let class : Class = c.args.class.now in
    let time : c.time_or_zero-free.result ≡ time_on class (get_or c.args.jobs.now c.loop-job.job-index 0) c.args.device = c.time_or_zero-free.ensures ∙ ap (λ j. time_on class j c.args.device) (c.job-item.is ∙ get_or_default c.args.jobs.now c.loop-job.job-index c.job-item.result 0 c.loop-job-test.true) in
    omega (
      arith,
      c.requires.fits,
      c.loop-job.invariant,
      list_cost_is class c.args.device (wait_in class c.args.device) c.args.jobs.now,
      list_total_step class c.args.device c.loop-job.free c.args.jobs.now c.loop-job.job-index c.time_or_zero-free.result c.loop-job-test.true time,
    )

pub overflow_add-sum : goal.overflow_add-sum
overflow_add-sum c =
    let class : Class = c.args.class.now in
    let time : c.time_or_zero-free.result ≡ time_on class (get_or c.args.jobs.now c.loop-job.job-index 0) c.args.device = c.time_or_zero-free.ensures ∙ ap (λ j. time_on class j c.args.device) (c.job-item.is ∙ get_or_default c.args.jobs.now c.loop-job.job-index c.job-item.result 0 c.loop-job-test.true) in
    omega (
      arith,
      c.requires.fits,
      c.loop-job.invariant,
      list_cost_is class c.args.device (wait_in class c.args.device) c.args.jobs.now,
      list_total_step class c.args.device c.loop-job.free c.args.jobs.now c.loop-job.job-index c.time_or_zero-free.result c.loop-job-test.true time,
    )

pub returns : goal.returns
returns c = list_total_end c.args.class.now c.args.device c.loop-job.free c.loop-job.sum c.loop-job.job-index c.args.jobs.now c.loop-job-test.false c.loop-job.invariant
