use Rattle.plan_solver.proofs.Gaps.{devices_only, devices_there}
use Rattle.plan_solver.proofs.all_places.all_places.Goals as goal

pub loop-device-preserved : goal.loop-device-preserved
loop-device-preserved c =
    let i = c.loop-device.invariant in
    let pushed = c.in_ok-push_places.ensures {u = tt} in
    record {
      there = devices_there c.loop-device.device c.args.jobs c.loop-device.places.items _ i.there pushed.kept pushed.there;
      only = devices_only c.loop-device.device c.loop-device.places.items _ i.only pushed.only;
    }
