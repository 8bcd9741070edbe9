use Rattle.std.proofs.Common.{◌∙◌, Bool, List, ap, filter, not, rules, subst, sym}
use Rattle.std.specs.List.{AllByRecursion}
use Rattle.std.proofs.lemmas.Fn.{filter_same}
use Rattle.ipp_codec.specs.Grammar.{IsAttribute}
use Rattle.ipp_codec.specs.Message.{IppAttribute}
use Rattle.job_template.specs.Template.{is_supported}
use Rattle.job_template.proofs.Spelt.{all_kept}
use Rattle.job_template.proofs.request_attributes.RequestAttributes.keep_unsupported.Goals as goal

pub returns : goal.returns
returns c =
    let test : IppAttribute → Bool = λ a. not (is_supported c.args.offer.now a) in
    filter_same _ test _ (λ x b f' k. search rules) _ _ c.retain.ensures.filtered
    ∙ ap (λ (xs : List IppAttribute). filter test xs) c.self.view_is

pub invariant_of-self : goal.invariant_of-self
invariant_of-self c =
    let test : IppAttribute → Bool = λ a. not (is_supported c.args.offer.now a) in
    subst (AllByRecursion IsAttribute) (sym (filter_same _ test _ (λ x b f' k. search rules) _ _ c.retain.ensures.filtered)) (all_kept test c.self.inside.attributes.items c.self.invariant)
