use Rattle.spool_directory.proofs.Started.{renewed}
use Rattle.spool_directory.proofs.directory.Directory.renewed_engine.Goals as goal

pub returns-in-Ok-take_over : goal.returns-in-Ok-take_over
returns-in-Ok-take_over c = renewed c.args.settings c.args.first _ _ c.in-Ok.engine c.take_over.new.engine c.requires.limits c.in-Ok.ensures c.requires.empty c.in-Ok-take_over.ensures
