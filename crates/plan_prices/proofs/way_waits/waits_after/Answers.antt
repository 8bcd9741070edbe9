use Rattle.std.proofs.Common.{◌≡◌, ◌≤◌, ◌∙◌, List, ℕ, [], ◌++◌, drop, length, get_or, sym, ap, subst, append-nil}
use Rattle.std.proofs.lemmas.List.{drop_all}
use Rattle.base_types.specs.declared.limits.TheConstants.Limits.{UNFINISHED_JOBS}
use Rattle.plan_prices.proofs.Steps.{queue_at}
use Rattle.plan_prices.specs.Waits.{waits_from, waits_after, GrowsByTimes}
use Rattle.plan_prices.proofs.Bounds.{queue_short, busy_fits}
use Rattle.plan_prices.proofs.Grows.{waits_from_length, waits_grow}
use Rattle.plan_prices.proofs.way_waits.waits_after.Goals as goal

pub free_after-requires-clause-fits : goal.free_after-requires-clause-fits
free_after-requires-clause-fits c =
    let queue : c.jobs.result.now ≡ get_or c.args.way.now c.loop-place.place [] = queue_at c.args.way.now c.queues-queue-items.result.now c.loop-place.place c.queue-item.result c.jobs.result.now c.queues-queue-items.ensures c.loop-place-test.true c.queue-item.is c.jobs.ensures in
    let few : length c.jobs.result.now ≤ UNFINISHED_JOBS = rw queue (queue_short c.args.class.now c.ids-class.ensures.class c.args.way.now c.requires c.loop-place.place) in
    busy_fits c.args.class.now c.ids-class.ensures.class c.new.result c.jobs.result.now few

pub returns-clause-one_each : goal.returns-clause-one_each
returns-clause-one_each c =
    let none : drop c.loop-place.place c.args.way.now ≡ [] = drop_all c.loop-place.place c.args.way.now (subst (λ (qs : List (List ℕ)). length qs ≤ c.loop-place.place) c.queues-queue-items.ensures c.loop-place-test.false) in
    let left : c.loop-place.after.items ≡ waits_after c.args.class.now c.args.way.now =
    sym (append-nil c.loop-place.after.items) ∙ (ap (λ (qs : List (List ℕ)). c.loop-place.after.items ++ waits_from c.args.class.now c.loop-place.place qs) (sym none) ∙ c.loop-place.invariant) in
    ap (λ (ws : List ℕ). length ws) left ∙ (waits_from_length c.args.class.now 0 c.args.way.now ∙ c.requires.one_list_each)

pub returns-clause-bounded : goal.returns-clause-bounded
returns-clause-bounded c =
    let none : drop c.loop-place.place c.args.way.now ≡ [] = drop_all c.loop-place.place c.args.way.now (subst (λ (qs : List (List ℕ)). length qs ≤ c.loop-place.place) c.queues-queue-items.ensures c.loop-place-test.false) in
    let left : c.loop-place.after.items ≡ waits_after c.args.class.now c.args.way.now =
    sym (append-nil c.loop-place.after.items) ∙ (ap (λ (qs : List (List ℕ)). c.loop-place.after.items ++ waits_from c.args.class.now c.loop-place.place qs) (sym none) ∙ c.loop-place.invariant) in
    subst (λ (ws : List ℕ). GrowsByTimes c.args.class.now ws) (sym left) (waits_grow c.args.class.now c.ids-class.ensures.class c.args.way.now c.requires)
