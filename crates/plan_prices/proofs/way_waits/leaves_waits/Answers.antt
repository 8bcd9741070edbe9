use Rattle.std.proofs.Common.{◌≡◌, ◌<◌, ◌≤◌, [], length, get_or, arith, rules, refl, sym, ap, ◌∙◌}
use Rattle.std.proofs.lemmas.List.{ext_get_or}
use Rattle.base_types.specs.declared.limits.TheConstants.Limits.{UNFINISHED_JOBS}
use Rattle.plan_prices.specs.Waits.{waits_after}
use Rattle.plan_prices.proofs.Bounds.{queue_short, busy_fits}
use Rattle.plan_prices.proofs.Steps.{queue_at, left_at, length-waits_from}
use Rattle.plan_prices.proofs.way_waits.leaves_waits.Goals as goal

pub free_after-requires-clause-fits : goal.free_after-requires-clause-fits
free_after-requires-clause-fits c =
    let queue : c.jobs.result.now ≡ get_or c.args.way.now c.loop-place.place [] = queue_at c.args.way.now c.queues-queue-items.result.now c.loop-place.place c.queue-item.result c.jobs.result.now c.queues-queue-items.ensures c.loop-place-test.true c.queue-item.is c.jobs.ensures in
    let few : length c.jobs.result.now ≤ UNFINISHED_JOBS = rw queue (queue_short c.args.class.now c.ids-class.ensures.class c.args.way.now c.requires.way c.loop-place.place) in
    busy_fits c.args.class.now c.ids-class.ensures.class c.new.result c.jobs.result.now few

pub returns-then-free_after-next : goal.returns-then-free_after-next
returns-then-free_after-next c =
    let queue : c.jobs.result.now ≡ get_or c.args.way.now c.loop-place.place [] = queue_at c.args.way.now c.queues-queue-items.result.now c.loop-place.place c.queue-item.result c.jobs.result.now c.queues-queue-items.ensures c.loop-place-test.true c.queue-item.is c.jobs.ensures in
    let below : c.loop-place.place < length c.args.way.now = omega (arith, c.loop-place-test.true, ap length c.queues-queue-items.ensures) in
    let left : c.free_after.result ≡ get_or (waits_after c.args.class.now c.args.way.now) c.loop-place.place 0 =
    left_at c.args.class.now c.args.way.now c.loop-place.place c.free_after.result c.new.result c.jobs.result.now below c.new.ensures queue c.free_after.ensures in
    ((λ h. absurd (search rules)), λ same. absurd (c.if-free_after-next.true (left ∙ ap (λ v. get_or v c.loop-place.place 0) (sym same))))

pub loop-place-preserved : goal.loop-place-preserved
loop-place-preserved c =
    let queue : c.jobs.result.now ≡ get_or c.args.way.now c.loop-place.place [] = queue_at c.args.way.now c.queues-queue-items.result.now c.loop-place.place c.queue-item.result c.jobs.result.now c.queues-queue-items.ensures c.loop-place-test.true c.queue-item.is c.jobs.ensures in
    let below : c.loop-place.place < length c.args.way.now = omega (arith, c.loop-place-test.true, ap length c.queues-queue-items.ensures) in
    let left : c.free_after.result ≡ get_or (waits_after c.args.class.now c.args.way.now) c.loop-place.place 0 =
    left_at c.args.class.now c.args.way.now c.loop-place.place c.free_after.result c.new.result c.jobs.result.now below c.new.ensures queue c.free_after.ensures in
    let here : get_or c.args.next.now c.loop-place.place 0 ≡ get_or (waits_after c.args.class.now c.args.way.now) c.loop-place.place 0 = sym c.if-free_after-next.false ∙ left in
    grind (arith, here, c.loop-place.invariant)

pub returns : goal.returns
returns c =
    let n : length (waits_after c.args.class.now c.args.way.now) ≡ length c.args.way.now = length-waits_from c.args.class.now 0 c.args.way.now in
    let m : length c.queues-queue-items.result.now ≡ length c.args.way.now = ap length c.queues-queue-items.ensures in
    ((λ _. ext_get_or 0 c.args.next.now (waits_after c.args.class.now c.args.way.now) (c.requires.next ∙ sym c.requires.way.one_list_each ∙ sym n) (λ k l. c.loop-place.invariant k (omega (arith, c.requires.next, c.requires.way.one_list_each)))), λ _. refl)
