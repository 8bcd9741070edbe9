-- The parts of messages as trees of numbers. Proofs use the trees as codes where a type's model is made of such parts.
use Rattle.std.specs.Prelude.{◌≡◌, ℕ, List, [], ◌∷◌, refl}
use Rattle.std.specs.Coded.{Coded, code_by, coded×, coded_list, coded_ℕ}
use base.Stored.{Gv, gnil, gnum, gcons}
use Rattle.ipp_codec.specs.Message.{IppValue, plain, collection, IppValues, no_value, value_and, IppMembers, no_member, member_and, IppAttribute, IppGroup, IppMessage}

-- a tree is its own code
abbrev tree_code : Coded Gv
tree_code = record { code = λ tree. tree; inj = λ x y same. same }

abbrev number_in : Gv → ℕ
number_in (gnum number) = number
number_in _ = 0

abbrev of_bytes : List ℕ → Gv
of_bytes [] = gnil
of_bytes (byte ∷ bytes) = gcons (gnum byte) (of_bytes bytes)

abbrev to_bytes : Gv → List ℕ
to_bytes (gcons byte bytes) = number_in byte ∷ to_bytes bytes
to_bytes _ = []

bytes_back : (bytes : List ℕ) → to_bytes (of_bytes bytes) ≡ bytes
bytes_back [] = refl
bytes_back (byte ∷ bytes) = λ i. byte ∷ bytes_back bytes i

abbrev mutual
  of_value : IppValue → Gv
  of_value (plain tag bytes) = gcons (gnum tag) (of_bytes bytes)
  of_value (collection members) = gcons gnil (of_members members)

  of_values : IppValues → Gv
  of_values no_value = gnil
  of_values (value_and value values) = gcons (of_value value) (of_values values)

  of_members : IppMembers → Gv
  of_members no_member = gnil
  of_members (member_and name first others members) =
      gcons (of_bytes name) (gcons (of_value first) (gcons (of_values others) (of_members members)))

abbrev mutual
  to_value : Gv → IppValue
  to_value (gcons (gnum tag) bytes) = plain tag (to_bytes bytes)
  to_value (gcons gnil members) = collection (to_members members)
  to_value _ = plain 0 []

  to_values : Gv → IppValues
  to_values (gcons value values) = value_and (to_value value) (to_values values)
  to_values _ = no_value

  to_members : Gv → IppMembers
  to_members (gcons name (gcons first (gcons others members))) =
      member_and (to_bytes name) (to_value first) (to_values others) (to_members members)
  to_members _ = no_member

mutual
  pub value_back : (value : IppValue) → to_value (of_value value) ≡ value
  value_back (plain tag bytes) = λ i. plain tag (bytes_back bytes i)
  value_back (collection members) = λ i. collection (members_back members i)

  values_back : (values : IppValues) → to_values (of_values values) ≡ values
  values_back no_value = refl
  values_back (value_and value values) = λ i. value_and (value_back value i) (values_back values i)

  members_back : (members : IppMembers) → to_members (of_members members) ≡ members
  members_back no_member = refl
  members_back (member_and name first others members) =
      λ i. member_and (bytes_back name i) (value_back first i) (values_back others i) (members_back members i)

abbrev pub value_code : Coded IppValue
value_code = code_by Gv tree_code of_value to_value value_back

abbrev pub attribute_code : Coded IppAttribute
attribute_code =
    code_by (List ℕ × (IppValue × List IppValue)) (coded× (coded_list coded_ℕ) (coded× value_code (coded_list value_code)))
    (λ a. (a.name, (a.first, a.others))) (λ p. record { name = p.0; first = p.1.0; others = p.1.1 }) (λ _. refl)

abbrev pub group_code : Coded IppGroup
group_code =
    code_by (ℕ × List IppAttribute) (coded× coded_ℕ (coded_list attribute_code))
    (λ g. (g.tag, g.attributes)) (λ p. record { tag = p.0; attributes = p.1 }) (λ _. refl)

abbrev pub message_code : Coded IppMessage
message_code =
    code_by (ℕ × (ℕ × (ℕ × (ℕ × List IppGroup)))) (coded× coded_ℕ (coded× coded_ℕ (coded× coded_ℕ (coded× coded_ℕ (coded_list group_code)))))
    (λ m. (m.major, (m.minor, (m.code, (m.request_id, m.groups)))))
    (λ p. record { major = p.0; minor = p.1.0; code = p.1.1.0; request_id = p.1.1.1.0; groups = p.1.1.1.1 }) (λ _. refl)
