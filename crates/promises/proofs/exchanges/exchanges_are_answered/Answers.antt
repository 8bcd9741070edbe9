use Rattle.promises.proofs.ClientExchanges.{acts_are_exchanges, by_exchanges}
use Rattle.promises.proofs.ReadIsActedOn.{all_acted_on}
use Rattle.promises.proofs.DueByTurns.{are_answered}
use Rattle.promises.proofs.ClientItems.{all_first, gone_first}
use Rattle.promises.proofs.exchanges.exchanges_are_answered.Goals as goal

pub returns-clause-acts : goal.returns-clause-acts
returns-clause-acts c = acts_are_exchanges c.exchanges_in_order.ensures c.some_parse.ensures.some c.given_first.ensures.first

pub returns-clause-due : goal.returns-clause-due
returns-clause-due c opening trace ledger runs =
    by_exchanges c.exchanges_in_order.ensures c.some_parse.ensures.some c.given_first.ensures.first opening trace ledger (are_answered opening trace ledger runs (all_acted_on opening trace ledger runs) (all_first opening trace ledger runs) (gone_first opening trace ledger runs))
