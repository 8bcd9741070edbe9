use Rattle.promises.proofs.ReadIsActedOn.{all_acted_on}
use Rattle.promises.proofs.DueByTurns.{are_answered}
use Rattle.promises.proofs.ClientItems.{all_first, gone_first}
use Rattle.promises.proofs.bytes.clients_are_answered.Goals as goal

pub returns : goal.returns
returns c opening trace ledger runs = are_answered opening trace ledger runs (all_acted_on opening trace ledger runs) (all_first opening trace ledger runs) (gone_first opening trace ledger runs)
