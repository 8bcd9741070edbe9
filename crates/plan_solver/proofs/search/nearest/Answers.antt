use Rattle.std.proofs.Common.{◌≤◌, get_or, ap, subst, ◌∙◌, arith, inl, inr}
use Rattle.std.proofs.lemmas.Bool.{cases_lt}
use Rattle.plan_solver.specs.declared.search.TheConstants.{FAR}
use Rattle.plan_solver.proofs.Nearest.{found_low, nearest_of}
use Rattle.plan_solver.proofs.search.nearest.Goals as goal

pub returns : goal.returns
returns c =
    let x = c.args.search.now in
    let i = c.loop-at.invariant in
    let r = c.requires in
    nearest_of x.lengths.items x.ranks.items c.args.columns x.exit.length c.loop-at.least c.loop-at.nearest i.found (λ k lt unsettled. elim (cases_lt (get_or x.lengths.items k 0) FAR) [
      | inl short ↦
          let at = r.listed.columns.there k (omega (arith, lt, r.listed.len, r.lengths_in)) unsettled short in
          subst (λ n. c.loop-at.least ≤ get_or x.lengths.items n 0) at.2 (i.least at.0 (omega (arith, at.1, c.loop-at-test.false)) (ap (λ n. get_or x.ranks.items n 0) at.2 ∙ unsettled))
      | inr far ↦ omega (arith, far, r.near, found_low x.lengths.items x.ranks.items c.args.columns x.exit.length c.loop-at.least c.loop-at.nearest i.found)
    ])
