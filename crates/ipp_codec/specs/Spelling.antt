-- The one spelling of a message (RFC 8010, section 3.1): a header, elements in order, and an end byte.
use Rattle.std.specs.Prelude.{ℕ, List, [], ◌∷◌, ◌++◌, length}
use Rattle.std.specs.List.{flat_map}
use Rattle.std.specs.Int.{w16, w32, to_be_bytes}
use Rattle.ipp_codec.specs.Message.{IppValue, plain, collection, IppValues, no_value, value_and, IppMembers, no_member, member_and, IppAttribute, IppGroup, IppMessage, values_of}

-- an element of a head: a group's tag, a value with its tag and name, or a part of a collection
pub data Element : Type 0 where
  opening : ℕ → Element
  plainly : ℕ → List ℕ → List ℕ → Element
  begin : List ℕ → Element
  named : List ℕ → Element
  finish : Element

-- two bytes of length, and the bytes
abbrev pub counted : List ℕ → List ℕ
counted bytes = to_be_bytes w16 (length bytes) ++ bytes

-- a tag, a name and a value (RFC 8010, section 3.1.4)
abbrev pub value_bytes : ℕ → List ℕ → List ℕ → List ℕ
value_bytes tag name bytes = tag ∷ (counted name ++ counted bytes)

-- begCollection, memberAttrName and endCollection are values of their own tags (RFC 8010, section 3.1.6)
abbrev pub element_bytes : Element → List ℕ
element_bytes (opening tag) = tag ∷ []
element_bytes (plainly tag name bytes) = value_bytes tag name bytes
element_bytes (begin name) = value_bytes 0x34 name []
element_bytes (named name) = value_bytes 0x4A [] name
element_bytes finish = value_bytes 0x37 [] []

abbrev mutual
  -- the elements of a value with this name, before others
  pub value_then : List ℕ → IppValue → List Element → List Element
  value_then name (plain tag bytes) es = plainly tag name bytes ∷ es
  value_then name (collection ms) es = begin name ∷ members_then ms (finish ∷ es)

  -- the elements of further values, which have no names, before others
  pub values_then : IppValues → List Element → List Element
  values_then no_value es = es
  values_then (value_and v vs) es = value_then [] v (values_then vs es)

  pub members_then : IppMembers → List Element → List Element
  members_then no_member es = es
  members_then (member_and name v vs ms) es = named name ∷ value_then [] v (values_then vs (members_then ms es))

-- the elements of attributes, before others
abbrev pub attributes_then : List IppAttribute → List Element → List Element
attributes_then [] es = es
attributes_then (a ∷ xs) es = value_then a.name a.first (values_then (values_of a.others) (attributes_then xs es))

-- the elements of groups
abbrev pub elements : List IppGroup → List Element
elements [] = []
elements (g ∷ gs) = opening g.tag ∷ attributes_then g.attributes (elements gs)

-- the bytes of elements, one after the other
abbrev pub bytes_of : List Element → List ℕ
bytes_of es = flat_map element_bytes es

-- version, code and request-id (RFC 8010, section 3.1.1)
abbrev pub header : IppMessage → List ℕ
header m = m.major ∷ m.minor ∷ (to_be_bytes w16 m.code ++ to_be_bytes w32 m.request_id)

-- the header, the groups and the end byte
abbrev pub spelling : IppMessage → List ℕ
spelling m = header m ++ (bytes_of (elements m.groups) ++ 3 ∷ [])
