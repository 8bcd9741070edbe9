-- The written bytes are the spelling; the meaning of an owned collection.
use Rattle.std.proofs.Common.{◌≡◌, ℕ, List, [], ◌∷◌, ◌++◌, refl, sym, ap, ◌∙◌, append_assoc}
use Rattle.ipp_codec.specs.declared.value.Value.TheOpen as layer
use Rattle.ipp_codec.specs.Message.{IppValue, plain, collection, IppValues, no_value, value_and, IppMembers, no_member, member_and, IppAttribute, IppGroup, values_of}
use Rattle.ipp_codec.specs.Spelling.{Element, finish, value_bytes, bytes_of, value_then, values_then, members_then, attributes_then, elements}
use Rattle.ipp_codec.specs.Written.{value_written, values_written, members_written, attributes_written, groups_written}

mutual
  value_is : (name : List ℕ) (v : IppValue) (es : List Element) → bytes_of (value_then name v es) ≡ value_written name v ++ bytes_of es
  value_is name (plain tag bytes) es = refl
  value_is name (collection ms) es =
      ap (λ (t : List ℕ). value_bytes 0x34 name [] ++ t) (members_is ms (finish ∷ es) ∙ sym (append_assoc (members_written ms) (value_bytes 0x37 [] []) (bytes_of es)))
      ∙ sym (append_assoc (value_bytes 0x34 name []) (members_written ms ++ value_bytes 0x37 [] []) (bytes_of es))

  values_is : (vs : IppValues) (es : List Element) → bytes_of (values_then vs es) ≡ values_written vs ++ bytes_of es
  values_is no_value es = refl
  values_is (value_and v vs) es =
      value_is [] v (values_then vs es) ∙ ap (λ (t : List ℕ). value_written [] v ++ t) (values_is vs es) ∙ sym (append_assoc (value_written [] v) (values_written vs) (bytes_of es))

  members_is : (ms : IppMembers) (es : List Element) → bytes_of (members_then ms es) ≡ members_written ms ++ bytes_of es
  members_is no_member es = refl
  members_is (member_and name v vs ms) es =
      let first = value_bytes 0x4A [] name in
      let values = value_written [] v ++ values_written vs in
      ap (λ (t : List ℕ). first ++ t)
      (value_is [] v (values_then vs (members_then ms es))
      ∙ ap (λ (t : List ℕ). value_written [] v ++ t) (values_is vs (members_then ms es))
      ∙ sym (append_assoc (value_written [] v) (values_written vs) (bytes_of (members_then ms es)))
      ∙ ap (λ (t : List ℕ). values ++ t) (members_is ms es))
      ∙ sym (append_assoc first values (members_written ms ++ bytes_of es))
      ∙ sym (append_assoc (first ++ values) (members_written ms) (bytes_of es))

attributes_is : (xs : List IppAttribute) (es : List Element) → bytes_of (attributes_then xs es) ≡ attributes_written xs ++ bytes_of es
attributes_is [] es = refl
attributes_is (a ∷ xs) es =
    let values = value_written a.name a.first ++ values_written (values_of a.others) in
    value_is a.name a.first (values_then (values_of a.others) (attributes_then xs es))
    ∙ ap (λ (t : List ℕ). value_written a.name a.first ++ t) (values_is (values_of a.others) (attributes_then xs es))
    ∙ sym (append_assoc (value_written a.name a.first) (values_written (values_of a.others)) (bytes_of (attributes_then xs es)))
    ∙ ap (λ (t : List ℕ). values ++ t) (attributes_is xs es)
    ∙ sym (append_assoc values (attributes_written xs) (bytes_of es))

pub groups_is : (gs : List IppGroup) → groups_written gs ≡ bytes_of (elements gs)
groups_is [] = refl
groups_is (g ∷ gs) =
    ap (λ (t : List ℕ). g.tag ∷ t) (ap (λ (t : List ℕ). attributes_written g.attributes ++ t) (groups_is gs) ∙ sym (attributes_is g.attributes (elements gs)))
