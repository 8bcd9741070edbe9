use Rattle.lpd.specs.declared.reader.Awaited.TheVariants.{Command}
use Rattle.lpd.proofs.Streams.{parses_some, parses_one}
use Rattle.lpd.proofs.law.one_parse.Goals as goal

pub returns-clause-some : goal.returns-clause-some
returns-clause-some c = λ stream. parses_some Command stream

pub returns-clause-one : goal.returns-clause-one
returns-clause-one c = parses_one Command
