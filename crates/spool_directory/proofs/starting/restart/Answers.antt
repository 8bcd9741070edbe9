use Rattle.spool_directory.proofs.Started.{restarted}
use Rattle.spool_directory.proofs.starting.restart.Goals as goal

pub returns-in-Ok : goal.returns-in-Ok
returns-in-Ok c = restarted c.args.resumption c.in-Ok.restarted c.requires (c.in-Ok.ensures {u = tt})
