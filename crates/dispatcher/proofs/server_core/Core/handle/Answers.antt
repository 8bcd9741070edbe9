use Rattle.std.proofs.Common.{subst}
use Rattle.print_room.specs.State.{State}
use Rattle.dispatcher.specs.Step.{Step}
use Rattle.dispatcher.proofs.Runs.{comes}
use Rattle.dispatcher.proofs.server_core.Core.handle.Goals as goal

pub returns : goal.returns
returns g c =
    let step = subst (λ (s : State). Step s c.args.timed.event c.args.timed.moment c.in-Ok.effects c.apply.new.room) c.self.view_is c.in-Ok.ensures.ok in
    comes g.L.Observer.notified c.args.self.now _ _ _ _ _ c.args.timed _ c.in-Ok.effects c.deref.result.now c.dispatch_after-dispatch.result c.is_query-is_query.ensures step c.deref.ensures.value c.notify_cancels.ensures c.dispatch_after-dispatch.ensures
