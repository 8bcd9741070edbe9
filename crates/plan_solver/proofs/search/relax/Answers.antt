use Rattle.std.proofs.Common.{◌≡◌, ◌∙◌, ◌+◌, ◌-◌, List, [], ℕ, get_or, ap, refl, inl, inr, sym, subst, arith, rules}
use Rattle.std.proofs.lemmas.List.{get_or_read}
use Rattle.std.specs.Global.{Vec}
use Rattle.std.proofs.lemmas.Bool.{cases_eq}
use Rattle.plan_solver.specs.declared.search.Exit.{Exit}
use Rattle.plan_solver.specs.Costs.{cost_at, cost_of, nowhere, row_of}
use Rattle.plan_solver.proofs.Nearest.{relaxed_before, relaxed_here}
use Rattle.plan_solver.specs.DeviceColumns.{AreColumnsOf}
use Rattle.plan_solver.proofs.search.relax.Goals as goal

pub relax_device-requires-clause-device_columns : goal.relax_device-requires-clause-device_columns
relax_device-requires-clause-device_columns c =
    let at = c.loop-device.device in
    let is : c.columns-device_columns.result.now ≡ get_or c.args.by_device.now at [] = c.columns-device_columns.ensures ∙ get_or_read c.args.by_device.now at c.index-by_device-device.result c.loop-device-test.true c.index-by_device-device.is [] in
    subst (λ (l : List ℕ). AreColumnsOf at c.args.matching.now.columns.items l) (sym is) (c.requires.by_device.device_columns at (omega (arith, c.loop-device-test.true, c.requires.by_device.one_each)))

pub loop-device-preserved : goal.loop-device-preserved
loop-device-preserved c =
    let i = c.loop-device.invariant in
    let t = c.relax_device.ensures in
    let s = c.args.matching.now in
    let x = c.args.search.now in
    let q = c.args.q in
    let base : c.index-base.result.now ≡ get_or x.lengths.items q 0 = get_or_read x.lengths.items q _ (omega (arith, c.requires.here, c.requires.sizes.lengths, x.lengths.ok.0)) c.index-base.ensures 0 in
    let price : c.index-price.result.now ≡ get_or s.prices.items q 0 = get_or_read s.prices.items q _ (omega (arith, c.requires.here, c.requires.sizes.prices, s.prices.ok.0)) c.index-price.ensures 0 in
    let job : c.index.result.now ≡ get_or s.jobs.items q 0 = get_or_read s.jobs.items q _ (omega (arith, c.requires.here, c.requires.sizes.jobs, s.jobs.ok.0)) c.index.ensures 0 in
    let row : c.row-row.result.now ≡ row_of c.args.costs.now (get_or s.jobs.items q 0) = c.row-row.ensures ∙ ap (λ j. row_of c.args.costs.now j) job in
    let charged : (k : ℕ) → get_or x.lengths.items q 0 + (cost_of c.args.costs.now (get_or s.jobs.items q 0) (get_or s.columns.items k nowhere) + get_or s.duals.items k 0 - get_or s.prices.items q 0) ≡ c.index-base.result.now + (cost_at c.deref.result.now c.row-row.result.now (get_or s.columns.items k nowhere) + get_or s.duals.items k 0 - c.index-price.result.now) = λ k. rw (base, price, row, c.deref.ensures.value) refl in
    record {
      sizes = t.sizes;
      listed = t.listed;
      ranks = search rules;
      exit = search rules;
      settled = search rules;
      nears = search rules;
      root = search rules;
      own = search rules;
      done = λ k lt below. elim (cases_eq (get_or c.args.matching.now.columns.items k nowhere).device c.loop-device.device) [
        | inl here ↦
            let was = i.rest k lt (omega (arith, here)) in
            relaxed_here _ _ _ _ _ _ _ _ _ _ _ _ _ (t.relaxed k lt here) (sym (ap (λ (e : Exit). e.length) i.exit)) (sym (ap (λ (v : Vec ℕ). get_or v.items k 0) i.ranks)) (charged k) (sym was.0) (sym was.1)
        | inr other ↦
            let same = t.others k lt other in
            relaxed_before _ _ _ _ _ _ _ _ _ _ (i.done k lt (omega (arith, below, other))) same.0 same.1
      ];
      rest = λ k lt after. search rules;
    }
