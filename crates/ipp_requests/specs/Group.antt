-- The groups of requests (RFC 8011, sections 4.1.4, 4.1.5 and 4.2.1.1).
use Rattle.std.specs.Prelude.{ℕ, List, [], ◌∷◌, ◌++◌, map, codes, ℤ}
use Rattle.std.specs.Int.{w32, to_be_bytes}
use Rattle.ipp_codec.specs.Message.{IppAttribute, IppGroup, plain}
use Rattle.ipp_codec.specs.Typed.{bytes_of_integer}
use Rattle.ipp_codec.specs.Tag as tags

abbrev pub attribute_of : ℕ → List ℕ → List ℕ → IppAttribute
attribute_of tag name bytes = record { name = name; first = plain tag bytes; others = [] }

abbrev pub number_of : List ℕ → ℕ → IppAttribute
number_of name number = attribute_of 0x21 name (to_be_bytes w32 number)

abbrev pub values_of : ℕ → List ℕ → List ℕ → List (List ℕ) → IppAttribute
values_of tag name first others = record { name = name; first = plain tag first; others = map (λ bytes. plain tag bytes) others }

abbrev pub with_more : IppAttribute → IppGroup → IppGroup
with_more attribute group = record group { attributes = group.attributes ++ attribute ∷ [] }

-- an attribute needs at least one value
abbrev pub with_values : ℕ → List ℕ → List (List ℕ) → IppGroup → IppGroup
with_values tag name [] group = group
with_values tag name (first ∷ others) group = with_more (values_of tag name first others) group

abbrev pub user : IppAttribute
user = attribute_of 0x42 (codes "requesting-user-name") (codes "printd")

-- charset and natural language come first (RFC 8011, section 4.1.4)
abbrev pub about_printer : List ℕ → IppGroup
about_printer uri = record {
  tag = tags.operation_attributes;
  attributes =
      attribute_of 0x47 (codes "attributes-charset") (codes "utf-8")
      ∷ attribute_of 0x48 (codes "attributes-natural-language") (codes "en")
      ∷ attribute_of 0x45 (codes "printer-uri") uri
      ∷ [];
}

-- a request that a user of this name sends
abbrev pub from_user : List ℕ → List ℕ → IppGroup
from_user uri name = with_more (attribute_of 0x42 (codes "requesting-user-name") name) (about_printer uri)

abbrev pub about_job : List ℕ → ℤ → IppGroup
about_job uri job = with_more user (with_more (attribute_of 0x21 (codes "job-id") (bytes_of_integer job)) (about_printer uri))
