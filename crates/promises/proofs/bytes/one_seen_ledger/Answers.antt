use Rattle.promises.proofs.SameTurns.{seen_leads_to_one}
use Rattle.promises.proofs.bytes.one_seen_ledger.Goals as goal

pub returns : goal.returns
returns c =
    seen_leads_to_one c.one_step.ensures c.same_needs.ensures.query c.one_ask.ensures c.one_asked.ensures c.some_parse.ensures.some c.given_first.ensures.first c.one_prefix.ensures.last c.one_parse.ensures.one c.one_prefix-2.ensures.last
