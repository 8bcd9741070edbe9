use Rattle.std.proofs.Common.{◌≡◌, Some, None, arith, rules, inl, inr, length, ap, get_or, refl, pos}
use Rattle.std.proofs.lemmas.Int.{to_z-of_z}
use mir.Val.{SFits, to_z, of_z}
use mir.Syntax.{w64}
use Rattle.plan_problem.specs.Class.{wait_in}
use Rattle.plan_prices.proofs.Each.{last_or_before, none_is_true}
use Rattle.plan_checker.specs.Fair.{IsFairOn}
use Rattle.plan_checker.proofs.Fair.{read_time, fair_at_place, fair_for_all}
use Rattle.plan_checker.proofs.fairness.all_fair_on.Goals as goal
use Rattle.plan_checker.proofs.fairness.all_fair_on.Goals.{in-Some+else-not-is_fair_on, in_default}

pub returns-then-not-is_fair_on : goal.returns-then-not-is_fair_on
returns-then-not-is_fair_on c =
    let k = c.args.class.now in
    let f : SFits w64 (get_or c.args.prices.now c.loop-place.place (pos 0)) = search rules in (
      none_is_true,
      λ all. c.if-not-is_fair_on.ensures.1
          (let g : IsFairOn (wait_in k c.args.device) c.in-Some.time (get_or c.args.prices.now c.loop-place.place (pos 0)) c.args.places.now =
          fair_at_place k c.ids-job-items.ensures.class c.args.device c.args.prices.now c.args.places.now c.ids-job-items.result.now c.loop-place.place c.job-item.result c.in-Some.time c.ids-job-items.ensures.ids c.loop-place-test.true c.job-item.is c.in-Some.ensures.time all in
          rw (c.wait-wait.ensures.wait, to_z-of_z w64 (get_or c.args.prices.now c.loop-place.place (pos 0)) f) g),
    )

pub loop-place-preserved : goal.loop-place-preserved
loop-place-preserved c =
    λ k t h e. elim (last_or_before k c.loop-place.place h) [
      | inl lt ↦ c.loop-place.invariant k t lt e
      | inr same ↦ elim c.match-time.branch [
        | in-Some+else-not-is_fair_on w ↦
            let read : Some w.in-Some.time ≡ Some t = read_time c.args.class.now c.args.device c.ids-job-items.result.now c.loop-place.place k c.job-item.result t (Some w.in-Some.time) c.ids-job-items.ensures.ids c.loop-place-test.true c.job-item.is same w.in-Some.ensures.time e in
            let is : w.in-Some.time ≡ t = cc in
            let f : SFits w64 (get_or c.args.prices.now c.loop-place.place (pos 0)) = search rules in
            let g : IsFairOn c.wait-wait.result w.in-Some.time (to_z w64 (of_z w64 (get_or c.args.prices.now c.loop-place.place (pos 0)))) c.args.places.now = w.if-not-is_fair_on.ensures.0 refl in
            let h : IsFairOn c.wait-wait.result w.in-Some.time (get_or c.args.prices.now c.loop-place.place (pos 0)) c.args.places.now = rw (to_z-of_z w64 (get_or c.args.prices.now c.loop-place.place (pos 0)) f) at g in
            rw (same, ← is) h
        | in_default w ↦
            let read : None ≡ Some t = read_time c.args.class.now c.args.device c.ids-job-items.result.now c.loop-place.place k c.job-item.result t None c.ids-job-items.ensures.ids c.loop-place-test.true c.job-item.is same w.in_default.ensures.time e in
            absurd (cc)
      ]
    ]

pub returns : goal.returns
returns c = (λ _. fair_for_all c.args.class.now c.ids-job-items.ensures.class c.args.device c.wait-wait.result c.args.prices.now c.args.places.now c.loop-place.place c.wait-wait.ensures.wait (let e : length c.ids-job-items.result.now ≡ length c.args.class.now.ids = ap length c.ids-job-items.ensures.ids in omega arith) c.loop-place.invariant, λ _. refl)
