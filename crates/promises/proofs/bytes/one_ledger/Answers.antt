use Rattle.promises.proofs.UniqueTurns.{leads_to_one}
use Rattle.promises.proofs.bytes.one_ledger.Goals as goal

pub returns : goal.returns
returns c = leads_to_one c.one_step.ensures c.same_needs.ensures.query c.one_ask.ensures c.one_asked.ensures
