use Rattle.std.proofs.Common.{refl, ap}
use Rattle.server.specs.Happening.{StartsBy}
use Rattle.server.proofs.Steps.{reporting_then, reporting_from}
use Rattle.server.proofs.DeviceOrders.{started_as, starts_none, orders_none, orders_as}
use Rattle.server.proofs.engine.Engine.order.Goals as goal

pub returns-in_default : goal.returns-in_default
returns-in_default g c = orders_none _ _ _ c.args.handled.now c.in_default.is

pub returns-in-Planned : goal.returns-in-Planned
returns-in-Planned g c =
    orders_as _ _ _ _ _ _ _ _ c.in-Some.is (reporting_then _ _ _ _ _ _ _ _ _ _ _ (rw c.deref.ensures.value at c.send_all-unsent.ensures)
    (started_as _ _ _ _ _ _ _ _ (ap StartsBy c.in-Planned.is) (reporting_from _ _ _ _ _ _ _ _ _ c.self.view_is refl (c.start_all.ensures _ refl refl))))

pub returns-in-Query : goal.returns-in-Query
returns-in-Query g c = orders_as _ _ _ _ _ _ _ _ c.in-Some.is (starts_none _ _ _ _ _ _ _ _ (ap StartsBy c.in-Query.is) (rw c.deref.ensures.value at c.send_all-unsent.ensures))

pub returns-in-OutOfMemory : goal.returns-in-OutOfMemory
returns-in-OutOfMemory g c = orders_as _ _ _ _ _ _ _ _ c.in-Some.is (starts_none _ _ _ _ _ _ _ _ (ap StartsBy c.in-OutOfMemory.is) (rw c.deref.ensures.value at c.send_all-unsent.ensures))

pub returns-in-Idle : goal.returns-in-Idle
returns-in-Idle g c = orders_as _ _ _ _ _ _ _ _ c.in-Some.is (starts_none _ _ _ _ _ _ _ _ (ap StartsBy c.in-Idle.is) (rw c.deref.ensures.value at c.send_all-unsent.ensures))
