use Rattle.http_front.proofs.EveryStreamParses.{parses_some, gives_prefix}
use Rattle.http_front.proofs.law.some_parse.Goals as goal

pub returns-clause-some : goal.returns-clause-some
returns-clause-some c = parses_some

pub returns-clause-prefix : goal.returns-clause-prefix
returns-clause-prefix c = gives_prefix
