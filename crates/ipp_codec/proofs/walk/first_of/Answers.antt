use Rattle.std.proofs.Common.{arith}
use Rattle.ipp_codec.proofs.ElementViews.{first_shown}
use Rattle.ipp_codec.proofs.walk.first_of.Goals as goal

pub returns : goal.returns
returns c = first_shown _ _ (λ i. omega (arith, c.type_inv.bytes i)) c.element_of.ensures
