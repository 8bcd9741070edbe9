use Rattle.std.proofs.Common.{◌≡◌, ◌∙◌, List, length, map, ap, sym, subst, arith}
use Rattle.std.specs.List.{AllByRecursion}
use Rattle.std.specs.Vec.{with_items}
use Rattle.std.proofs.lemmas.List.{with_items_is}
use Rattle.ipp_codec.specs.Grammar.{IsAttribute}
use Rattle.ipp_codec.specs.Message.{IppAttribute}
use Rattle.job_template.specs.Unsupported.{returned}
use Rattle.job_template.proofs.Spelt.{all_returned}
use Rattle.job_template.proofs.request_attributes.RequestAttributes.make_returned.Goals as goal

pub invariant_of-self : goal.invariant_of-self
invariant_of-self c =
    let old = c.self.inside.attributes in
    let new = c.make_each_returned.new.attributes in
    let are : (with_items old new).items ≡ map returned old.items =
    with_items_is old new (omega (arith, c.make_each_returned.auto.attributes, old.ok.0, ap length c.deref_mut.ensures.value))
    ∙ (c.make_each_returned.ensures ∙ ap (λ (l : List IppAttribute). map returned l) c.deref_mut.ensures.value) in
    subst (AllByRecursion IsAttribute) (sym are) (all_returned old.items c.self.invariant)
