use Rattle.server.proofs.DeviceOrders.{starts_nowhere, starts_there}
use Rattle.server.proofs.starting.start.Goals as goal

pub returns-in_default : goal.returns-in_default
returns-in_default g c = λ a core same. starts_nowhere _ _ a c.args.connections.now.slots c.args.started c.in_default.ensures.none same

pub returns : goal.returns
returns g c = λ a core same.
    starts_there _ _ _ a c.args.core.now c.args.connections.now.slots c.enqueue-broke.new.connections.slots c.args.started c.in-Some.key c.enqueue-broke.result c.notify.result core same c.in-Some.ensures.some c.in-Some.ensures.lowest (rw c.job_message.ensures at c.enqueue-broke.ensures.enqueues) c.notify.ensures.notified c.notify.ensures.refused
