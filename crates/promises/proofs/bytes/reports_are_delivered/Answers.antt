use Rattle.promises.proofs.ReadBeforeClosed.{all_ended}
use Rattle.promises.proofs.ReadIsActedOn.{all_acted_on}
use Rattle.promises.proofs.OneRunOfTheCore.{are_delivered}
use Rattle.promises.proofs.bytes.reports_are_delivered.Goals as goal

pub returns : goal.returns
returns c opening trace ledger runs = are_delivered opening trace ledger runs (all_acted_on opening trace ledger runs) (all_ended opening trace ledger runs)
