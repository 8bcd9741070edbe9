use Rattle.std.proofs.Common.{◌≡◌, vec_len, get_or, ap, sym, inl, inr, ◌∙◌, refl, arith, length}
use Rattle.std.proofs.lemmas.Bool.{cases_lt}
use Rattle.std.proofs.lemmas.List.{get_or_read}
use Rattle.plan_solver.specs.AllPlaces.{place_on}
use Rattle.plan_solver.specs.Costs.{nowhere}
use Rattle.plan_solver.proofs.PlaceCosts.{fair_on, left_more, left_none, left_placed}
use Rattle.plan_solver.proofs.fit.is_fair_on.Goals as goal

pub returns-then-time-left-clause-columns : goal.returns-then-time-left-clause-columns
returns-then-time-left-clause-columns c =
    let s = c.args.matching.now in
    let at = c.loop-after.after in
    let i = c.loop-after.invariant in
    let none = left_none c.args.waits.now c.args.row.now c.args.device at c.loop-after.left c.on_device-time.result c.args.price i.left c.on_device-time.ensures c.if-time-left.true in
    λ _ k lt on.
    let place = get_or s.columns.items k nowhere in
    elim (cases_lt place.after at) [
      | inl before ↦ i.done k lt on before
      | inr from ↦ fair_on c.args.waits.now c.args.row.now place c.args.device at c.args.price (get_or s.duals.items k 0) on from none c.requires.low
    ]

pub returns-then-time-left-clause-next : goal.returns-then-time-left-clause-next
returns-then-time-left-clause-next c = λ _.
    let at = c.loop-after.after in
    let none = left_none c.args.waits.now c.args.row.now c.args.device at c.loop-after.left c.on_device-time.result c.args.price c.loop-after.invariant.left c.on_device-time.ensures c.if-time-left.true in
    omega (arith, fair_on c.args.waits.now c.args.row.now (place_on c.args.device (length c.args.device_columns.now)) c.args.device at c.args.price 0 refl (omega (arith, c.loop-after-test.true)) none c.requires.low)

pub returns-clause-columns : goal.returns-clause-columns
returns-clause-columns c = λ _ k lt on.
    c.loop-after.invariant.done k lt on (omega (arith, c.requires.device_columns.within k (omega (arith, lt, c.args.matching.now.columns.ok.0)) on, c.loop-after-test.false))

pub returns-clause-next : goal.returns-clause-next
returns-clause-next c = λ _.
    let at = c.loop-after.after in
    let none = left_none c.args.waits.now c.args.row.now c.args.device at c.loop-after.left c.on_device-time.result c.args.price c.loop-after.invariant.left c.on_device-time.ensures c.if-time-left-2.false in
    omega (arith, fair_on c.args.waits.now c.args.row.now (place_on c.args.device (length c.args.device_columns.now)) c.args.device at c.args.price 0 refl (omega (arith, c.loop-after.auto.after-end)) none c.requires.low)

pub loop-after-preserved : goal.loop-after-preserved
loop-after-preserved c =
    let s = c.args.matching.now in
    let at = c.loop-after.after in
    let r = c.requires in
    let i = c.loop-after.invariant in
    let p = left_placed c.args.waits.now c.args.row.now s.columns.items c.args.device_columns.now c.args.device at (vec_len s.columns) c.loop-after.left c.on_device-time.result 0 0 c.args.price c.args.price r.device_columns c.loop-after-test.true (omega (arith, s.columns.ok.0)) i.left c.on_device-time.ensures c.if-time-left.false (omega arith) (omega (arith, r.low)) in
    let column = get_or c.args.device_columns.now at 0 in
    let dual : c.index.result.now ≡ get_or s.duals.items column 0 = get_or_read s.duals.items column _ (omega (arith, p.0, r.duals, s.duals.ok.0)) c.index.ensures 0 in
    record {
      left = left_more c.args.waits.now c.args.row.now c.args.device at c.loop-after.left c.on_device-time.result c.args.price i.left c.on_device-time.ensures;
      done = λ k lt on below. elim (cases_lt (get_or s.columns.items k nowhere).after at) [
        | inl before ↦ i.done k lt on before
        | inr from ↦
            let same : (get_or s.columns.items k nowhere).after ≡ at = omega arith in
            let here : column ≡ k = sym (ap (λ a. get_or c.args.device_columns.now a 0) same) ∙ r.device_columns.there k (omega (arith, lt, s.columns.ok.0)) on in
            rw (← here) (omega (arith, p.2, dual, c.if-index-left.false))
      ];
    }
