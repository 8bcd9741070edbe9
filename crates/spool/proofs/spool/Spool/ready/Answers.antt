use Rattle.spool.proofs.RisingIds.{ready_increase}
use Rattle.spool.proofs.spool.Spool.ready.Goals as goal

pub returns-clause-rising : goal.returns-clause-rising
returns-clause-rising c = rw (c.after_finished.ensures.ready c.args.printers.now) (ready_increase c.args.self.now c.after_finished.ensures.kept c.args.printers.now)
