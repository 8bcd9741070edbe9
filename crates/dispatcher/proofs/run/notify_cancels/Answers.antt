use Rattle.dispatcher.proofs.Runs.{notifies_next}
use Rattle.dispatcher.proofs.run.notify_cancels.Goals as goal

pub loop-cancel-preserved : goal.loop-cancel-preserved
loop-cancel-preserved g c = notifies_next g.L.Observer.notified _ _ _ c.args.cancels.now c.loop-cancel.cancel-index c.cancel-item.result c.loop-cancel-test.true c.cancel-item.is c.loop-cancel.invariant c.canceled.ensures
