use Rattle.server.proofs.Laws.{at_most_one}
use Rattle.server.proofs.law.action_is_one_event.Goals as goal

pub returns : goal.returns
returns c action old new refines = at_most_one action old new refines
