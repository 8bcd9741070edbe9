use Rattle.server.proofs.Laws.{one_run}
use Rattle.server.proofs.law.trace_is_one_run.Goals as goal

pub returns : goal.returns
returns c trace old new runs = one_run trace old new runs
