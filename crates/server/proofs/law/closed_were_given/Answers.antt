use Rattle.server.proofs.Laws.{all_taken}
use Rattle.server.proofs.law.closed_were_given.Goals as goal

pub returns : goal.returns
returns c opening trace ledger runs = all_taken opening trace ledger runs
