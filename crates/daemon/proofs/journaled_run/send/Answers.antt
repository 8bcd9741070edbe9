use Rattle.daemon.proofs.Journal.{keep_files}
use Rattle.daemon.proofs.journaled_run.send.Goals as goal

pub returns : goal.returns
returns g c = keep_files c.args.server.now c.store_all.new.server c.write.new.server _ _ c.store_all.ensures.filed c.write.ensures
