use Rattle.daemon.proofs.Turns.{has_turned}
use Rattle.daemon.proofs.law.turns_are_one_trace.Goals as goal

pub returns : goal.returns
returns c = has_turned
