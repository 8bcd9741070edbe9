-- The bytes of each part of a message, as the encoder writes them.
use Rattle.std.specs.Prelude.{ℕ, List, [], ◌∷◌, ◌++◌}
use Rattle.std.specs.Int.{w16, w32, to_be_bytes}
use Rattle.ipp_codec.specs.Message.{IppValue, plain, collection, IppValues, no_value, value_and, IppMembers, no_member, member_and, IppAttribute, IppGroup, values_of}
use Rattle.ipp_codec.specs.Spelling.{value_bytes}

abbrev mutual
  -- a value with this name
  pub value_written : List ℕ → IppValue → List ℕ
  value_written name (plain tag bytes) = value_bytes tag name bytes
  value_written name (collection members) = value_bytes 0x34 name [] ++ (members_written members ++ value_bytes 0x37 [] [])

  -- further values, without names
  pub values_written : IppValues → List ℕ
  values_written no_value = []
  values_written (value_and v vs) = value_written [] v ++ values_written vs

  -- members, each with its name first
  pub members_written : IppMembers → List ℕ
  members_written no_member = []
  members_written (member_and name v vs ms) = (value_bytes 0x4A [] name ++ (value_written [] v ++ values_written vs)) ++ members_written ms

-- attributes, in order
abbrev pub attributes_written : List IppAttribute → List ℕ
attributes_written [] = []
attributes_written (a ∷ xs) = (value_written a.name a.first ++ values_written (values_of a.others)) ++ attributes_written xs

-- groups, each with its tag first
abbrev pub groups_written : List IppGroup → List ℕ
groups_written [] = []
groups_written (g ∷ gs) = (g.tag ∷ attributes_written g.attributes) ++ groups_written gs

-- version, code and request-id
abbrev pub header_bytes : ℕ → ℕ → ℕ → ℕ → List ℕ
header_bytes major minor code request_id = major ∷ minor ∷ (to_be_bytes w16 code ++ to_be_bytes w32 request_id)
