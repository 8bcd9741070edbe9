use Rattle.journal.proofs.Quiet.{unchanged}
use Rattle.journal.proofs.law.quiet_turns_change_nothing.Goals as goal

pub returns : goal.returns
returns c = unchanged
