-- The attributes returned from attributes with a spelling have a spelling.
use Rattle.std.proofs.Common.{Bool, true, false, cond, List, [], ◌∷◌, inl, inr, arith, map, filter, is_some}
use Rattle.std.specs.List.{AllByRecursion}
use Rattle.ipp_codec.specs.Message.{plain, IppAttribute}
use Rattle.ipp_codec.specs.Grammar.{IsCollectionTag, IsPlain, IsAttribute}
use Rattle.ipp_codec.specs.Tag as tags
use Rattle.job_template.specs.TemplateName.{template_name}
use Rattle.job_template.specs.Unsupported.{returned}

unsupported_tag : ¬ (IsCollectionTag tags.unsupported)
unsupported_tag (inl h) = omega (arith, h)
unsupported_tag (inr (inl h)) = omega (arith, h)
unsupported_tag (inr (inr h)) = omega (arith, h)

unsupported_is : IsPlain tags.unsupported []
unsupported_is = record { tag_from = omega arith; tag_below = omega arith; no_collection = unsupported_tag; length = omega arith; shape = record { integer = λ h. absurd (omega (arith, h)); boolean = λ h. absurd (omega (arith, h)); enumeration = λ h. absurd (omega (arith, h)); date = λ h. absurd (omega (arith, h)); resolution = λ h. absurd (omega (arith, h)); range = λ h. absurd (omega (arith, h)); text = λ h. absurd (omega (arith, h)); name = λ h. absurd (omega (arith, h)) } }

returned_by : (attribute : IppAttribute) (known : Bool) → IsAttribute attribute → IsAttribute (cond known attribute (record { name = attribute.name; first = plain tags.unsupported []; others = [] }))
returned_by attribute true is = is
returned_by attribute false is = record { name = is.name; first = unsupported_is; others = tt }

pub all_returned : (attributes : List IppAttribute) → AllByRecursion IsAttribute attributes → AllByRecursion IsAttribute (map returned attributes)
all_returned [] all = tt
all_returned (attribute ∷ later) all = (returned_by attribute (is_some (template_name attribute.name)) all.0, all_returned later all.1)

pub all_kept : (test : IppAttribute → Bool) (attributes : List IppAttribute) → AllByRecursion IsAttribute attributes → AllByRecursion IsAttribute (filter test attributes)
all_kept test [] all = tt
all_kept test (attribute ∷ later) all =
    elim (test attribute) as (λ b. AllByRecursion IsAttribute (cond b (attribute ∷ filter test later) (filter test later))) [
      | true ↦ (all.0, all_kept test later all.1)
      | false ↦ all_kept test later all.1
    ]
