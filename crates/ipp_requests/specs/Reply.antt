-- The content of a reply: of each name the first attribute in the first group of a tag.
use Rattle.std.specs.Prelude.{ℕ, ◌==◌, nat_lt, Bool, false, List, ◌∷◌, find, Option}
use Rattle.std.specs.List.{list_any}
use Rattle.std.specs.Option.{option_map_or, option_and_then}
use Rattle.std.specs.Int.{w32, to_be_bytes}
use Rattle.std.specs.Str.{bytes_eq}
use Rattle.std.specs.Prelude.{ℤ}
use Rattle.ipp_codec.specs.Message.{IppAttribute, IppGroup, IppMessage, bytes_in}
use Rattle.ipp_codec.specs.Typed.{integer_in}

abbrev pub is_successful : ℕ → Bool
is_successful status = nat_lt status 256

abbrev pub group_in : ℕ → List IppGroup → Option IppGroup
group_in tag groups = find (λ group. group.tag == tag) groups

abbrev pub attribute_named : List ℕ → List IppAttribute → Option IppAttribute
attribute_named name attributes = find (λ attribute. bytes_eq attribute.name name) attributes

abbrev pub first_in : ℕ → List ℕ → IppMessage → Option IppAttribute
first_in tag name reply = option_and_then (λ group. attribute_named name group.attributes) (group_in tag reply.groups)

abbrev pub number_in : ℕ → List ℕ → IppMessage → Option ℤ
number_in tag name reply = option_and_then (λ attribute. integer_in attribute.first) (first_in tag name reply)

abbrev pub has_value : List ℕ → IppAttribute → Bool
has_value bytes attribute = list_any (λ value. bytes_eq (bytes_in value) bytes) (attribute.first ∷ attribute.others)

abbrev pub lists : ℕ → List ℕ → List ℕ → IppMessage → Bool
lists tag name bytes reply = option_map_or (has_value bytes) (first_in tag name reply) false

abbrev pub lists_number : ℕ → List ℕ → ℕ → IppMessage → Bool
lists_number tag name number reply = lists tag name (to_be_bytes w32 number) reply
