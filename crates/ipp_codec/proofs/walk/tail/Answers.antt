use Rattle.ipp_codec.proofs.ElementViews.{nothing_after}
use Rattle.ipp_codec.proofs.walk.tail.Goals as goal

pub returns-clause-levels : goal.returns-clause-levels
returns-clause-levels c = nothing_after c.loop-element.open c.loop-element.rest.now c.args.bytes.now c.loop-element.invariant.0 c.in_default.ensures
