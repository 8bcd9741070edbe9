use Rattle.std.proofs.Common.{rules}
use Rattle.journal.proofs.Played.{begins}
use Rattle.journal.proofs.resumption.Resumption.new.Goals as goal

pub returns : goal.returns
returns c = begins _ _ (search rules) c.new-5.ensures (search rules) (search rules)
