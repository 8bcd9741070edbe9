use Rattle.connections.proofs.Choices.{asks_one}
use Rattle.connections.proofs.law.one_ask.Goals as goal

pub returns : goal.returns
returns c = asks_one (record {
  http = c.one_prefix.ensures;
  lpd = (c.one_prefix-2.ensures).one;
  lpd_ends = (c.one_prefix-2.ensures).last;
  link = (c.one_prefix-3.ensures).one;
  link_ends = (c.one_prefix-3.ensures).last;
  asked = c.one_asked.ensures;
})
