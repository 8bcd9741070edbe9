use Rattle.std.proofs.Common.{refl}
use Rattle.server.proofs.Steps.{reporting_from}
use Rattle.server.proofs.DeviceOrders.{decides}
use Rattle.server.proofs.Joins.{joins_openly}
use Rattle.server.proofs.engine.Engine.handle.Goals as goal

pub returns : goal.returns
returns g c =
    joins_openly (reporting_from _ _ _ _ _ _ _ _ _ c.self.view_is refl (decides _ _ _ _ _ _ c.args.moment c.args.event _ c.handle-handled.ensures c.undispatched_after-self-inside.ensures))
    c.is_undispatched-undispatched.ensures c.order-unsent.ensures
