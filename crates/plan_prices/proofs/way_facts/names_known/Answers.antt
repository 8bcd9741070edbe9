use Rattle.std.proofs.Common.{◌≡◌, ◌<◌, ◌≤◌, ℕ, List, All, [], rules, get_or, refl, length, arith, subst, sym}
use Rattle.plan_problem.specs.Class.{place_of}
use Rattle.plan_prices.proofs.Each.{each_more, past_end, none_is_true, item_is}
use Rattle.plan_prices.proofs.Names.{known_from_places, places_from_known}
use Rattle.plan_prices.proofs.way_facts.names_known.Goals as goal

pub returns-then-not-knows : goal.returns-then-not-knows
returns-then-not-knows c =
    let i = c.loop-queue.queue-index in
    let ids = c.args.class.now.ids in
    let e : c.jobs.result.now ≡ get_or c.args.way.now i [] = item_is c.queues-queue-items.result.now c.args.way.now i c.queue-item.result c.jobs.result.now [] c.queues-queue-items.ensures c.loop-queue-test.true c.queue-item.is c.jobs.ensures in (
      none_is_true,
      λ all. c.if-not-knows.ensures.1
          (subst (λ q. All (λ j. place_of ids j < length ids) q) (sym e) (places_from_known ids c.args.way.now all i [] (search rules))),
    )

pub loop-queue-preserved : goal.loop-queue-preserved
loop-queue-preserved c =
    let i = c.loop-queue.queue-index in
    let P : List ℕ → Type 0 = λ q. All (λ job. place_of c.args.class.now.ids job < length c.args.class.now.ids) q in
    let is : c.queue-item.result ≡ get_or c.args.way.now i c.queue-item.result = search rules in
    each_more P c.args.way.now i c.queue-item.result (search rules) is (subst P c.jobs.ensures (c.if-not-knows.ensures.0 refl)) c.loop-queue.invariant

pub returns : goal.returns
returns c =
    (λ _. known_from_places c.args.class.now.ids c.args.way.now (λ k d l. c.loop-queue.invariant k d (let e : length c.args.way.now ≤ c.loop-queue.queue-index = past_end _ _ _ c.queues-queue-items.ensures c.loop-queue-test.false in omega arith)), λ _. refl)
