use Rattle.dispatcher.proofs.Runs.{follows_planned}
use Rattle.dispatcher.proofs.server_core.Core.dispatch_after.Goals as goal

pub returns-in-Ok-true : goal.returns-in-Ok-true
returns-in-Ok-true g c = follows_planned g.L.Observer.notified _ c.in-Ok-true.field-0 _ _ _ _ _ _ _ c.if-is_query.false c.in-Ok-true.field-0-test c.in-Ok-true.ensures.planned c.in-Ok-true.ensures.ends c.dispatched.ensures.plan c.dispatched.ensures.started c.dispatched-in-Ok-true.ensures
