use Rattle.http_front.specs.declared.awaited.Awaited.TheVariants.{Head}
use Rattle.http_front.proofs.Laws.{parses_one}
use Rattle.http_front.proofs.ReaderPlace.{all_stays}
use Rattle.http_front.proofs.law.one_parse.Goals as goal

pub returns-clause-one : goal.returns-clause-one
returns-clause-one c = λ stream given parsed x y. parses_one x.0 y.0 Head stream given parsed x.1 y.1

pub returns-clause-prefix : goal.returns-clause-prefix
returns-clause-prefix c = all_stays
