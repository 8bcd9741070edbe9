use Rattle.std.proofs.lemmas.List.Elements.{Contains-append_left}
use Rattle.plan_solver.proofs.Gaps.{pushed_only, pushed_there}
use Rattle.plan_solver.proofs.all_places.push_places.Goals as goal

pub loop-after-preserved : goal.loop-after-preserved
loop-after-preserved c =
    let e = (c.in_ok-push.ensures {u = tt}).items in
    let i = c.loop-after.invariant in
    record {
      there = rw e (pushed_there c.loop-after.places.items c.args.device c.loop-after.after i.there);
      kept = λ p found. rw e (Contains-append_left c.loop-after.places.items _ p (i.kept p found));
      only = rw e (pushed_only c.args.places.now.items c.loop-after.places.items c.args.device c.loop-after.after i.only);
    }
