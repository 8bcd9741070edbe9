-- The values of a group's attributes (RFC 8011, sections 4.1.4 and 5.1).
use Rattle.std.specs.Prelude.{ℕ, ◌+◌, ◌*◌, ◌==◌, not, Bool, true, false, if◌then◌else◌, List, [], ◌∷◌, drop, filter, find, Option, is_some, option_map, option_to_list, unwrap_or}
use Rattle.std.specs.List.{list_all}
use Rattle.std.specs.Option.{option_map_or, option_and_then}
use Rattle.std.specs.Str.{bytes_eq}
use Rattle.ipp_codec.specs.Message.{IppValue, tag_of, bytes_in, IppAttribute, IppGroup}
use Rattle.ipp_codec.specs.Typed.{integer_in, unsigned, boolean_in}
use Rattle.ipp_codec.specs.Tag as tags
use Rattle.ipp_operations.specs.declared.operation_attribute.OperationAttribute.{OperationAttribute}
use Rattle.ipp_operations.specs.OperationAttribute.{attribute_name, attribute_syntax, acting_values}
use Rattle.ipp_operations.specs.Syntax.{has_syntax}

-- the first attribute of a name
abbrev pub first_named : List ℕ → List IppAttribute → Option IppAttribute
first_named name attributes = find (λ attribute. bytes_eq attribute.name name) attributes

-- an attribute of the group, if the group has it
abbrev pub attribute_of : OperationAttribute → IppGroup → Option IppAttribute
attribute_of which group = first_named (attribute_name which) group.attributes

abbrev pub has : OperationAttribute → IppGroup → Bool
has which group = is_some (attribute_of which group)

-- the first value of an attribute
abbrev pub value_of : OperationAttribute → IppGroup → Option IppValue
value_of which group = option_map (λ attribute. attribute.first) (attribute_of which group)

-- each value of the attribute that is read has a tag of its syntax; true if the group doesn't have the attribute
abbrev pub is_tagged : IppGroup → OperationAttribute → Bool
is_tagged group which = option_map_or (λ attribute. list_all (has_syntax (attribute_syntax which)) (acting_values which attribute)) (attribute_of which group) true

-- the attribute with all its values, unchanged
abbrev pub as_it_came : OperationAttribute → IppGroup → List IppAttribute
as_it_came which group = option_to_list (attribute_of which group)

-- the first attribute of each name, in order
abbrev pub first_of_each : List IppAttribute → List IppAttribute
first_of_each [] = []
first_of_each (attribute ∷ later) = attribute ∷ filter (λ other. not (bytes_eq other.name attribute.name)) (first_of_each later)

-- the bytes after a counted string and the length of the next
abbrev pub after_language : List ℕ → List ℕ
after_language (high ∷ low ∷ bytes) = drop (256 * high + low + 2) bytes
after_language _ = []

-- the text of a name, without its language (RFC 8010, section 3.9)
abbrev pub name_in : IppValue → List ℕ
name_in value = if tag_of value == tags.name_with_language then after_language (bytes_in value) else bytes_in value

-- the attribute's name, or a default if the group doesn't have it
abbrev pub name_or : OperationAttribute → List ℕ → IppGroup → List ℕ
name_or which default group = option_map_or name_in (value_of which group) default

-- the bytes of the attribute, if the group has it
abbrev pub bytes_of : OperationAttribute → IppGroup → Option (List ℕ)
bytes_of which group = option_map bytes_in (value_of which group)

-- the integer of the attribute, if the group has it and it isn't negative
abbrev pub number_of : OperationAttribute → IppGroup → Option ℕ
number_of which group = option_and_then unsigned (option_and_then integer_in (value_of which group))

-- the truth value of the attribute; false if the group doesn't have it
abbrev pub truth_of : OperationAttribute → IppGroup → Bool
truth_of which group = unwrap_or (option_and_then boolean_in (value_of which group)) false
