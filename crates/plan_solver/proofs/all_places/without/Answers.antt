use Rattle.plan_solver.proofs.Gaps.{kept_all, kept_more, only_more}
use Rattle.plan_solver.proofs.all_places.without.Goals as goal

pub loop-place-preserved : goal.loop-place-preserved
loop-place-preserved c =
    let i = c.loop-place.invariant in
    let step = c.in_ok-push_unless.ensures {u = tt} in
    let at = c.loop-place.place-index in
    record {
      kept = kept_more c.args.places.now c.loop-place.left.items _ c.args.taken at c.loop-place-test.true step i.kept;
      only = only_more c.args.places.now c.loop-place.left.items _ c.args.taken at c.loop-place-test.true step i.only;
    }

pub returns-clause-kept : goal.returns-clause-kept
returns-clause-kept c = kept_all c.args.places.now c.loop-place.left.items c.args.taken c.loop-place.place-index c.loop-place-test.false c.loop-place.invariant.kept
