-- The content of an IPP message (RFC 8010, section 3.1): groups of attributes, whose values may be collections.
use Rattle.std.specs.Prelude.{ℕ, List, [], ◌∷◌}

mutual
  -- a value: a tag and bytes, or the members of a collection (RFC 8010, section 3.1.6)
  pub data IppValue : Type 0 where
    plain : ℕ → List ℕ → IppValue
    collection : IppMembers → IppValue

  -- values, in order
  pub data IppValues : Type 0 where
    no_value : IppValues
    value_and : IppValue → IppValues → IppValues

  -- a member's name, its first value, its other values, and the members after it
  pub data IppMembers : Type 0 where
    no_member : IppMembers
    member_and : List ℕ → IppValue → IppValues → IppMembers → IppMembers

-- a member of a collection, with at least one value
pub record IppMember : Type 0 where
  pub name : List ℕ
  pub first : IppValue
  pub others : List IppValue

-- an attribute, with at least one value
pub record IppAttribute : Type 0 where
  pub name : List ℕ
  pub first : IppValue
  pub others : List IppValue

-- a group: its tag and its attributes
pub record IppGroup : Type 0 where
  pub tag : ℕ
  pub attributes : List IppAttribute

-- a message; its code is that of an operation in a request, and that of a status in a response
pub record IppMessage : Type 0 where
  pub major : ℕ
  pub minor : ℕ
  pub code : ℕ
  pub request_id : ℕ
  pub groups : List IppGroup

-- ---- values and members as lists

-- a list of values as values
abbrev pub values_of : List IppValue → IppValues
values_of [] = no_value
values_of (v ∷ vs) = value_and v (values_of vs)

-- values as a list
abbrev pub values_in : IppValues → List IppValue
values_in no_value = []
values_in (value_and v vs) = v ∷ values_in vs

-- a list of members as members
abbrev pub members_of : List IppMember → IppMembers
members_of [] = no_member
members_of (m ∷ ms) = member_and m.name m.first (values_of m.others) (members_of ms)

-- members as a list
abbrev pub members_in : IppMembers → List IppMember
members_in no_member = []
members_in (member_and name first others ms) = record { name = name; first = first; others = values_in others } ∷ members_in ms

-- the tag of a value; a collection has that of begCollection
abbrev pub tag_of : IppValue → ℕ
tag_of (plain tag bytes) = tag
tag_of (collection members) = 0x34

-- the bytes of a value; a collection has none
abbrev pub bytes_in : IppValue → List ℕ
bytes_in (plain tag bytes) = bytes
bytes_in (collection members) = []

-- the members of a collection; any other value has none
abbrev pub members_within : IppValue → List IppMember
members_within (plain tag bytes) = []
members_within (collection members) = members_in members
