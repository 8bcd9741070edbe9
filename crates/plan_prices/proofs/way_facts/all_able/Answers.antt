use Rattle.std.proofs.Common.{◌≡◌, IsSome, All, [], get_or, refl, subst, sym, arith}
use Rattle.plan_problem.specs.Class.{time_in}
use Rattle.plan_prices.proofs.Each.{each_last, each_all_at, none_is_true, item_is, past_end}
use Rattle.plan_prices.proofs.way_facts.all_able.Goals as goal

pub returns-then-not-is_able : goal.returns-then-not-is_able
returns-then-not-is_able c =
    let i = c.loop-place.place in
    let e : c.jobs.result.now ≡ get_or c.args.way.now i [] = item_is c.queues-queue-items.result.now c.args.way.now i c.queue-item.result c.jobs.result.now [] c.queues-queue-items.ensures c.loop-place-test.true c.queue-item.is c.jobs.ensures in
    (none_is_true, λ all. c.if-not-is_able.ensures.1 (rw c.new.ensures (subst (λ q. All (λ job. IsSome (time_in c.args.class.now job i)) q) (sym e) (all i))))

pub loop-place-preserved : goal.loop-place-preserved
loop-place-preserved c =
    let i = c.loop-place.place in
    let e : c.jobs.result.now ≡ get_or c.args.way.now i [] = item_is c.queues-queue-items.result.now c.args.way.now i c.queue-item.result c.jobs.result.now [] c.queues-queue-items.ensures c.loop-place-test.true c.queue-item.is c.jobs.ensures in
    each_last (λ k. All (λ job. IsSome (time_in c.args.class.now job k)) (get_or c.args.way.now k [])) i (subst (λ q. All (λ job. IsSome (time_in c.args.class.now job i)) q) e (rw c.new.ensures at (c.if-not-is_able.ensures.0 refl))) c.loop-place.invariant

pub returns : goal.returns
returns c =
    (λ _. each_all_at (λ k q. All (λ job. IsSome (time_in c.args.class.now job k)) q) c.args.way.now [] c.loop-place.place (past_end _ _ _ c.queues-queue-items.ensures c.loop-place-test.false) (λ k j d l. absurd (omega arith)) c.loop-place.invariant, λ _. refl)
