use Rattle.lpd.specs.declared.reader.Awaited.TheVariants.{Command}
use Rattle.lpd.proofs.Streams.{leads_one, none_follows}
use Rattle.lpd.proofs.law.one_prefix.Goals as goal

pub returns-clause-one : goal.returns-clause-one
returns-clause-one c = λ stream one other x y long. leads_one Command stream one other x.next y.next x.left y.left x.leads y.leads long

pub returns-clause-last : goal.returns-clause-last
returns-clause-last c = λ stream items parsed ending x y. none_follows Command stream items parsed x.next x.left ending x.leads y
