use Rattle.std.proofs.Common.{refl}
use Rattle.server.specs.Answering.{Responds}
use Rattle.server.proofs.Steps.{quietly_from}
use Rattle.server.proofs.DeviceOrders.{breaks}
use Rattle.server.proofs.Joins.{notifies_then}
use Rattle.server.proofs.ResponseBytes.{as_equal}
use Rattle.server.proofs.engine.Engine.answer_command.Goals as goal

pub returns-in-None : goal.returns-in-None
returns-in-None g c =
    as_equal _ (Responds c.args.origin.key c.args.origin.id) c.args.reply _ _ _ _ _ c.in-None.is
    (notifies_then c.refused.ensures
    (quietly_from _ _ _ _ _ _ _ _ c.self.view_is refl (breaks _ _ _ _ _ c.break_off.ensures)))
