use Rattle.http_front.specs.declared.awaited.Awaited.TheVariants.{Head}
use Rattle.http_front.specs.Order.{Between}
use Rattle.http_front.proofs.Orders.{order_in}
use Rattle.http_front.proofs.law.exchanges_in_order.Goals as goal

pub returns : goal.returns
returns c = λ stream parsed x. order_in x.0 Between Head stream parsed tt x.1
