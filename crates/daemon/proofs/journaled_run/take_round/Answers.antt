use Rattle.daemon.proofs.Journal.{files_keep}
use Rattle.daemon.proofs.journaled_run.take_round.Goals as goal

pub returns-then-holds : goal.returns-then-holds
returns-then-holds g c = files_keep c.args.server.now c.read.new.server c.send.new.server _ _ c.read.ensures c.send.ensures

pub returns-then-is_due : goal.returns-then-is_due
returns-then-is_due g c = files_keep c.args.server.now c.read.new.server c.store_all.new.server _ _ c.read.ensures c.store_all.ensures.filed
