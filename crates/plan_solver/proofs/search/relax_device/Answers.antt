use Rattle.std.proofs.Common.{◌≡◌, ◌≢◌, ℕ, ◌+◌, ◌*◌, ◌<◌, vec_len, get_or, ap, sym, inl, inr, ◌∙◌, arith, rules}
use Rattle.std.specs.Global.{Vec}
use Rattle.std.proofs.lemmas.Bool.{cases_eq, cases_lt}
use Rattle.std.proofs.lemmas.List.{get_or_read}
use Rattle.plan_solver.specs.declared.costs.Place.{Place}
use Rattle.plan_solver.specs.declared.search.Exit.{Exit}
use Rattle.plan_solver.specs.declared.costs.TheConstants.{UNABLE}
use Rattle.plan_solver.specs.Costs.{nowhere}
use Rattle.plan_solver.proofs.Nearest.{relaxed_before, relaxed_here}
use Rattle.plan_solver.proofs.PlaceCosts.{dear_on, left_more, left_none, left_placed}
use Rattle.plan_solver.proofs.search.relax_device.Goals as goal

pub returns-then-time-left-clause-relaxed : goal.returns-then-time-left-clause-relaxed
returns-then-time-left-clause-relaxed c =
    let s = c.args.matching.now in
    let at = c.loop-after.after in
    let r = c.requires in
    let i = c.loop-after.invariant in
    let none = left_none c.args.waits.now c.args.row.now c.args.device at c.loop-after.left c.on_device-time.result c.args.ways.most i.left c.on_device-time.ensures c.if-time-left.true in
    λ k lt on.
    let place = get_or s.columns.items k nowhere in
    elim (cases_lt place.after at) [
      | inl before ↦ i.done k lt on before
      | inr from ↦
          let rest = i.rest k (omega arith) (λ _ _. from) in
          inl (dear_on c.args.waits.now c.args.row.now place c.args.device at (get_or c.args.waits.now c.args.device UNABLE + (at + 1) * get_or c.args.row.now c.args.device UNABLE) c.args.ways.base c.args.ways.price (get_or s.duals.items k 0) c.args.search.now.exit.length on from (omega arith) (omega (arith, none, r.most)) r.reach (r.fair k lt), rest.0, rest.1)
    ]

pub take_way-requires-clause-dual_low : goal.take_way-requires-clause-dual_low
take_way-requires-clause-dual_low c =
    let s = c.args.matching.now in
    let at = c.loop-after.after in
    let r = c.requires in
    let p = left_placed c.args.waits.now c.args.row.now s.columns.items c.args.device_columns.now c.args.device at (vec_len s.columns) c.loop-after.left c.on_device-time.result c.args.ways.base c.args.ways.price c.args.search.now.exit.length c.args.ways.most r.device_columns c.loop-after-test.true (omega (arith, s.columns.ok.0)) c.loop-after.invariant.left c.on_device-time.ensures c.if-time-left.false r.most r.reach in
    let column = get_or c.args.device_columns.now at 0 in
    let dual : c.index.result.now ≡ get_or s.duals.items column 0 = get_or_read s.duals.items column _ (omega (arith, p.0, r.sizes.duals, s.duals.ok.0)) c.index.ensures 0 in
    omega (arith, dual, r.duals_low column p.0)

pub take_way-requires-clause-fair : goal.take_way-requires-clause-fair
take_way-requires-clause-fair c =
    let s = c.args.matching.now in
    let at = c.loop-after.after in
    let r = c.requires in
    let p = left_placed c.args.waits.now c.args.row.now s.columns.items c.args.device_columns.now c.args.device at (vec_len s.columns) c.loop-after.left c.on_device-time.result c.args.ways.base c.args.ways.price c.args.search.now.exit.length c.args.ways.most r.device_columns c.loop-after-test.true (omega (arith, s.columns.ok.0)) c.loop-after.invariant.left c.on_device-time.ensures c.if-time-left.false r.most r.reach in
    let column = get_or c.args.device_columns.now at 0 in
    let dual : c.index.result.now ≡ get_or s.duals.items column 0 = get_or_read s.duals.items column _ (omega (arith, p.0, r.sizes.duals, s.duals.ok.0)) c.index.ensures 0 in
    omega (arith, p.2, dual, r.fair column p.0)

pub take_way-requires-clause-lengths_in : goal.take_way-requires-clause-lengths_in
take_way-requires-clause-lengths_in c =
    let s = c.args.matching.now in
    let at = c.loop-after.after in
    let r = c.requires in
    let p = left_placed c.args.waits.now c.args.row.now s.columns.items c.args.device_columns.now c.args.device at (vec_len s.columns) c.loop-after.left c.on_device-time.result c.args.ways.base c.args.ways.price c.args.search.now.exit.length c.args.ways.most r.device_columns c.loop-after-test.true (omega (arith, s.columns.ok.0)) c.loop-after.invariant.left c.on_device-time.ensures c.if-time-left.false r.most r.reach in
    let column = get_or c.args.device_columns.now at 0 in
    let dual : c.index.result.now ≡ get_or s.duals.items column 0 = get_or_read s.duals.items column _ (omega (arith, p.0, r.sizes.duals, s.duals.ok.0)) c.index.ensures 0 in
    omega (arith, p.0, c.loop-after.invariant.sizes.lengths)

pub take_way-requires-clause-left : goal.take_way-requires-clause-left
take_way-requires-clause-left c =
    let s = c.args.matching.now in
    let at = c.loop-after.after in
    let r = c.requires in
    let p = left_placed c.args.waits.now c.args.row.now s.columns.items c.args.device_columns.now c.args.device at (vec_len s.columns) c.loop-after.left c.on_device-time.result c.args.ways.base c.args.ways.price c.args.search.now.exit.length c.args.ways.most r.device_columns c.loop-after-test.true (omega (arith, s.columns.ok.0)) c.loop-after.invariant.left c.on_device-time.ensures c.if-time-left.false r.most r.reach in
    let column = get_or c.args.device_columns.now at 0 in
    let dual : c.index.result.now ≡ get_or s.duals.items column 0 = get_or_read s.duals.items column _ (omega (arith, p.0, r.sizes.duals, s.duals.ok.0)) c.index.ensures 0 in
    omega (arith, c.loop-after.invariant.left)

pub loop-after-preserved : goal.loop-after-preserved
loop-after-preserved c =
    let s = c.args.matching.now in
    let at = c.loop-after.after in
    let r = c.requires in
    let p = left_placed c.args.waits.now c.args.row.now s.columns.items c.args.device_columns.now c.args.device at (vec_len s.columns) c.loop-after.left c.on_device-time.result c.args.ways.base c.args.ways.price c.args.search.now.exit.length c.args.ways.most r.device_columns c.loop-after-test.true (omega (arith, s.columns.ok.0)) c.loop-after.invariant.left c.on_device-time.ensures c.if-time-left.false r.most r.reach in
    let column = get_or c.args.device_columns.now at 0 in
    let dual : c.index.result.now ≡ get_or s.duals.items column 0 = get_or_read s.duals.items column _ (omega (arith, p.0, r.sizes.duals, s.duals.ok.0)) c.index.ensures 0 in
    let i = c.loop-after.invariant in
    let t = c.take_way.ensures in
    let rank = ap (λ (v : Vec ℕ). get_or v.items column 0) i.ranks in
    let reach = ap (λ (e : Exit). e.length) i.exit in
    let on : (get_or s.columns.items column nowhere).device ≡ c.args.device = ap (λ (x : Place). x.device) p.1 in
    let reaches : (get_or s.columns.items column nowhere).after ≡ at = ap (λ (x : Place). x.after) p.1 in
    let rest = i.rest column (omega (arith, p.0)) (λ _ _. omega (arith, reaches)) in
    record {
      listed = t.listed;
      sizes = search rules;
      ranks = search rules;
      exit = search rules;
      settled = search rules;
      nears = search rules;
      left = left_more c.args.waits.now c.args.row.now c.args.device at c.loop-after.left c.on_device-time.result c.args.ways.most i.left c.on_device-time.ensures;
      done = λ k lt is below. elim (cases_eq k column) [
        | inl e ↦ rw e (relaxed_here _ _ _ _ _ _ _ _ _ _ _ _ _ t.relaxed (sym reach) (sym rank) (omega (arith, p.2, dual)) (sym rest.0) (sym rest.1))
        | inr d ↦
            let other = t.others k d in
            let before : (get_or s.columns.items k nowhere).after < at = elim (cases_eq (get_or s.columns.items k nowhere).after at) [
              | inl same ↦ absurd (d (sym (r.device_columns.there k (omega (arith, lt, s.columns.ok.0)) is) ∙ ap (λ a. get_or c.args.device_columns.now a 0) same))
              | inr ne ↦ omega arith
            ] in
            relaxed_before _ _ _ _ _ _ _ _ _ _ (i.done k lt is before) other.0 other.1
      ];
      rest = λ k le far.
          let apart : k ≢ column = λ e. let lt : k < vec_len s.columns = omega (arith, e, p.0) in omega (arith, far lt (ap (λ a. (get_or s.columns.items a nowhere).device) e ∙ on), ap (λ a. (get_or s.columns.items a nowhere).after) e, reaches) in
          let other = t.others k apart in
          let old = i.rest k le (λ lt is. omega (arith, far lt is)) in
          (other.0 ∙ old.0, other.1 ∙ old.1);
    }
