use Rattle.std.proofs.Common.{ap, sym, ◌∙◌, Option, List, []}
use Rattle.ipp_codec.specs.declared.view.ValueView.{ValueView}
use Rattle.ipp_codec.specs.Shown.{Level, top}
use Rattle.ipp_codec.specs.Views.{with_first, level}
use Rattle.ipp_codec.proofs.ElementViews.{shown-nil}
use Rattle.ipp_codec.proofs.view.ValuesIterator.next.Goals as goal

pub returns-in_default-next_value-clause-steps : goal.returns-in_default-next_value-clause-steps
returns-in_default-next_value-clause-steps c = (
  ap (λ (o : Option ValueView). with_first o (level c.args.self.now.rest.now).values) (sym c.take.ensures.value ∙ c.in_default.is) ∙ c.in_default-next_value.ensures,
  ap (λ (o : Option ValueView). with_first o (level []).values) c.take.ensures.after ∙ ap (λ (ls : List Level). (top ls).values) shown-nil,
)
