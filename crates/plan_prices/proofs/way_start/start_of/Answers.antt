use Rattle.std.proofs.Common.{◌≡◌, ◌<◌, ◌≤◌, [], length, take, get_or, arith, sym, ap, ◌∙◌, All}
use Rattle.std.proofs.lemmas.List.{length-take}
use Rattle.base_types.specs.declared.limits.TheConstants.Limits.{UNFINISHED_JOBS}
use Rattle.plan_prices.proofs.Bounds.{queue_short, busy_fits}
use Rattle.plan_prices.proofs.Steps.{queue_at}
use Rattle.plan_prices.proofs.Names.{each_list_more, none_named}
use Rattle.plan_prices.proofs.Starts.{found_slot, none_found}
use Rattle.plan_prices.proofs.WayTimetable.{own_timetable, own_total, own_end}
use Rattle.plan_prices.proofs.way_start.start_of.Goals as goal

pub free_after-requires-clause-fits : goal.free_after-requires-clause-fits
free_after-requires-clause-fits c =
    let queue : c.jobs-jobs.result.now ≡ get_or c.args.way.now c.loop-place.place [] = queue_at c.args.way.now c.queues-queue-items.result.now c.loop-place.place c.queue-item.result c.jobs-jobs.result.now c.queues-queue-items.ensures c.loop-place-test.true c.queue-item.is c.jobs-jobs.ensures in
    let few : length c.jobs-jobs.result.now ≤ UNFINISHED_JOBS = rw queue (queue_short c.args.class.now c.ids-class.ensures.class c.args.way.now c.requires c.loop-place.place) in
    busy_fits c.args.class.now c.ids-class.ensures.class c.new-device.result (take c.in-Some.before c.jobs-jobs.result.now) (omega (arith, few, length-take c.in-Some.before c.jobs-jobs.result.now))

pub returns-in-Some-clause-start : goal.returns-in-Some-clause-start
returns-in-Some-clause-start c =
    let queue : c.jobs-jobs.result.now ≡ get_or c.args.way.now c.loop-place.place [] = queue_at c.args.way.now c.queues-queue-items.result.now c.loop-place.place c.queue-item.result c.jobs-jobs.result.now c.queues-queue-items.ensures c.loop-place-test.true c.queue-item.is c.jobs-jobs.ensures in
    let below : c.loop-place.place < length c.args.way.now = omega (arith, c.loop-place-test.true, ap length c.queues-queue-items.ensures) in
    found_slot c.args.class.now c.args.way.now c.loop-place.place c.new-device.result c.args.job c.in-Some.before c.jobs-jobs.result.now c.free_after.result below c.new-device.ensures queue (sym c.in-Some.is ∙ c.place_in.ensures) c.free_after.ensures

pub returns-in-Some-clause-completion : goal.returns-in-Some-clause-completion
returns-in-Some-clause-completion c =
    let queue : c.jobs-jobs.result.now ≡ get_or c.args.way.now c.loop-place.place [] = queue_at c.args.way.now c.queues-queue-items.result.now c.loop-place.place c.queue-item.result c.jobs-jobs.result.now c.queues-queue-items.ensures c.loop-place-test.true c.queue-item.is c.jobs-jobs.ensures in
    let below : c.loop-place.place < length c.args.way.now = omega (arith, c.loop-place-test.true, ap length c.queues-queue-items.ensures) in
    let found = found_slot c.args.class.now c.args.way.now c.loop-place.place c.new-device.result c.args.job c.in-Some.before c.jobs-jobs.result.now c.free_after.result below c.new-device.ensures queue (sym c.in-Some.is ∙ c.place_in.ensures) c.free_after.ensures in
    own_end c.args.class.now c.args.way.now c.requires (record { job = c.args.job; device = c.new-device.result; start = c.free_after.result }) found

pub returns-in-Some-clause-timetable : goal.returns-in-Some-clause-timetable
returns-in-Some-clause-timetable c = own_timetable c.args.class.now c.args.way.now c.requires

pub returns-in-Some-clause-total : goal.returns-in-Some-clause-total
returns-in-Some-clause-total c = own_total c.args.class.now c.ids-class.ensures.class c.args.way.now c.requires

pub loop-place-preserved : goal.loop-place-preserved
loop-place-preserved c =
    let queue : c.jobs-jobs.result.now ≡ get_or c.args.way.now c.loop-place.place [] = queue_at c.args.way.now c.queues-queue-items.result.now c.loop-place.place c.queue-item.result c.jobs-jobs.result.now c.queues-queue-items.ensures c.loop-place-test.true c.queue-item.is c.jobs-jobs.ensures in
    let below : c.loop-place.place < length c.args.way.now = omega (arith, c.loop-place-test.true, ap length c.queues-queue-items.ensures) in
    let none : All (λ id. ¬ (id ≡ c.args.job)) c.jobs-jobs.result.now = none_found c.jobs-jobs.result.now c.args.job (sym c.in_default.is ∙ c.place_in.ensures) in
    each_list_more (λ id. ¬ (id ≡ c.args.job)) c.args.way.now c.loop-place.place below (rw queue at none) c.loop-place.invariant

pub returns-clause-start : goal.returns-clause-start
returns-clause-start c = none_named c.args.way.now c.args.job (λ k d l. c.loop-place.invariant k d (omega (arith, c.loop-place-test.false, ap length c.queues-queue-items.ensures)))

pub returns-clause-timetable : goal.returns-clause-timetable
returns-clause-timetable c = own_timetable c.args.class.now c.args.way.now c.requires

pub returns-clause-total : goal.returns-clause-total
returns-clause-total c = own_total c.args.class.now c.ids-class.ensures.class c.args.way.now c.requires
