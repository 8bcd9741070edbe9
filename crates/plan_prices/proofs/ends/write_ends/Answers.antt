use Rattle.std.proofs.Common.{◌≡◌, ◌+◌, ◌<◌, [], length, take, get_or, ap, ◌∙◌, arith}
use Rattle.plan_problem.specs.Class.{wait_in}
use Rattle.plan_prices.specs.Way.{queue_of}
use Rattle.plan_prices.specs.Total.{busy_time}
use Rattle.plan_prices.proofs.Steps.{queue_at}
use Rattle.plan_prices.proofs.Written.{free_fits, busy_more, written_stay, written_more, length_written, list_written}
use Rattle.plan_prices.proofs.ends.write_ends.Goals as goal

pub overflow_add-free : goal.overflow_add-free
overflow_add-free c =
    let class = c.args.class.now in
    let way = c.args.way.now in
    let d = c.args.device in
    let jobs = c.jobs-job-items.result.now in
    let below : c.place.result < length c.queues.result.now = omega (arith, c.requires.device, c.place.ensures, ap length c.queues.ensures) in
    let queue : jobs ≡ queue_of way d = queue_at way c.queues.result.now c.place.result c.index-queues-place.result jobs c.queues.ensures below c.index-queues-place.is c.jobs-job-items.ensures ∙ ap (λ k. get_or way k []) c.place.ensures in
    omega (
      arith,
      free_fits class c.wait-free.ensures.class way c.requires.way d (c.loop-job.job-index + 1) (c.loop-job.free + c.time_or_zero-free.result) jobs queue
          (busy_more class d jobs c.loop-job.job-index c.job-item.result c.time_or_zero-free.result c.loop-job.free c.loop-job-test.true c.job-item.is c.time_or_zero-free.ensures c.loop-job.invariant.0),
    )

pub loop-job-preserved : goal.loop-job-preserved
loop-job-preserved c =
    let class = c.args.class.now in
    let way = c.args.way.now in
    let d = c.args.device in
    let i = c.loop-job.job-index in
    let x = c.job-item.result in
    let free = c.loop-job.free + c.time_or_zero-free.result in
    let jobs = c.jobs-job-items.result.now in
    let ends = c.loop-job.ends in
    let new = c.write_end.new.ends in
    let below : c.place.result < length c.queues.result.now = omega (arith, c.requires.device, c.place.ensures, ap length c.queues.ensures) in
    let queue : jobs ≡ queue_of way d = queue_at way c.queues.result.now c.place.result c.index-queues-place.result jobs c.queues.ensures below c.index-queues-place.is c.jobs-job-items.ensures ∙ ap (λ k. get_or way k []) c.place.ensures in
    let more : free ≡ wait_in class d + busy_time class d (take (i + 1) jobs) = busy_more class d jobs i x c.time_or_zero-free.result c.loop-job.free c.loop-job-test.true c.job-item.is c.time_or_zero-free.ensures c.loop-job.invariant.0 in (
      more,
      length_written class ends new x free c.write_end.ensures c.loop-job.invariant.1,
      (λ job h. written_stay class way c.requires.way d i x free jobs ends new c.requires.device queue c.loop-job-test.true c.job-item.is more c.loop-job.invariant.1 c.write_end.ensures job (c.loop-job.invariant.2 job h)),
      written_more class way c.requires.way d i x free jobs ends new c.requires.device queue c.loop-job-test.true c.job-item.is more c.loop-job.invariant.1 c.write_end.ensures c.loop-job.invariant.3,
    )

pub returns-clause-here : goal.returns-clause-here
returns-clause-here c =
    let way = c.args.way.now in
    let d = c.args.device in
    let jobs = c.jobs-job-items.result.now in
    let below : c.place.result < length c.queues.result.now = omega (arith, c.requires.device, c.place.ensures, ap length c.queues.ensures) in
    let queue : jobs ≡ queue_of way d = queue_at way c.queues.result.now c.place.result c.index-queues-place.result jobs c.queues.ensures below c.index-queues-place.is c.jobs-job-items.ensures ∙ ap (λ k. get_or way k []) c.place.ensures in
    list_written c.args.class.now way d c.loop-job.job-index jobs c.loop-job.ends queue c.loop-job-test.false c.loop-job.invariant.3
