use Rattle.dispatcher.proofs.Once.{same_end}
use Rattle.dispatcher.proofs.law.one_step.Goals as goal

pub returns : goal.returns
returns c = same_end
