use Rattle.std.proofs.Common.{ap, List}
use Rattle.ipp_codec.specs.Shown.{Level, top}
use Rattle.ipp_codec.proofs.ElementViews.{shown-nil}
use Rattle.ipp_codec.proofs.view.AttributesIterator.next.Goals as goal

pub returns-in_default-clause-steps : goal.returns-in_default-clause-steps
returns-in_default-clause-steps c = (c.in_default.ensures, ap (λ (ls : List Level). (top ls).attributes) shown-nil)
