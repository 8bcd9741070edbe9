use Rattle.std.proofs.Common.{refl}
use Rattle.server.proofs.Steps.{quietly_from}
use Rattle.server.proofs.DueBytes.{enqueues}
use Rattle.server.proofs.engine.Engine.enqueue.Goals as goal

pub returns : goal.returns
returns g c = quietly_from _ _ _ _ _ _ _ _ c.self.view_is refl (enqueues _ _ _ _ _ _ _ c.enqueue-broke.result c.enqueue-broke.ensures.enqueues (c.enqueue-broke.ensures.full c.requires) c.notify.ensures.notified)
