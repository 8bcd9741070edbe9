use Rattle.http_front.specs.declared.awaited.Awaited.TheVariants.{Head}
use Rattle.http_front.proofs.Laws.{leads_one}
use Rattle.http_front.proofs.law.one_prefix.Goals as goal

pub returns : goal.returns
returns c = λ stream one other x y same. leads_one x.leads.0 y.leads.0 Head stream one other x.next x.left y.next y.left x.leads.1 y.leads.1 same
