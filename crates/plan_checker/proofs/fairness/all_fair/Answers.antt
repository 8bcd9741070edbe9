use Rattle.std.proofs.Common.{◌≡◌, ◌<◌, [], get_or, refl, ap, length, arith}
use Rattle.plan_prices.specs.Prices.{places_on}
use Rattle.plan_prices.proofs.Each.{each_last, none_is_true, item_is}
use Rattle.plan_checker.specs.Fair.{AllFairOn}
use Rattle.plan_checker.proofs.fairness.all_fair.Goals as goal

pub returns-then-not-all_fair_on : goal.returns-then-not-all_fair_on
returns-then-not-all_fair_on c =
    let i = c.loop-place.place in
    let p = c.args.prices.now in
    let e : c.prices.result.now ≡ get_or p.places i [] = item_is c.places-places-items.result.now p.places i c.places-item.result c.prices.result.now [] c.places-places-items.ensures c.loop-place-test.true c.places-item.is c.prices.ensures in
    let l : i < length p.places = (let m : length c.places-places-items.result.now ≡ length p.places = ap length c.places-places-items.ensures in omega arith) in (
      none_is_true,
      λ all. c.if-not-all_fair_on.ensures.1
          (let f : AllFairOn c.args.class.now i p.jobs (get_or p.places i []) = all i l in rw (c.new.ensures, e, c.jobs.ensures) f),
    )

pub loop-place-preserved : goal.loop-place-preserved
loop-place-preserved c =
    let i = c.loop-place.place in
    let p = c.args.prices.now in
    let e : c.prices.result.now ≡ get_or p.places i [] = item_is c.places-places-items.result.now p.places i c.places-item.result c.prices.result.now [] c.places-places-items.ensures c.loop-place-test.true c.places-item.is c.prices.ensures in
    each_last (λ k. AllFairOn c.args.class.now k p.jobs (places_on p.places k)) i
    (let f : AllFairOn c.args.class.now i c.jobs.result.now c.prices.result.now = rw c.new.ensures at (c.if-not-all_fair_on.ensures.0 refl) in rw (e, c.jobs.ensures) at f) c.loop-place.invariant

pub returns : goal.returns
returns c =
    (λ _ k l. c.loop-place.invariant k (let m : length c.places-places-items.result.now ≡ length c.args.prices.now.places = ap length c.places-places-items.ensures in omega arith), λ _. refl)
