-- After the last entry of a slab each key is free.
use Rattle.std.proofs.Common.{◌≡◌, ◌≤◌, ℕ, zero, suc, ◌+◌, List, [], ◌∷◌, ◌++◌, length, refl, ap, arith, Option, Some, None}
use Rattle.std.specs.Prelude.{slice_index_or}
use Rattle.slab.specs.Slab.{entries_from}

-- a list's first element, and the elements after it
abbrev first_of : {A : Type 0} → A → List A → A
first_of other [] = other
first_of other (x ∷ xs) = x

abbrev rest_of : {A : Type 0} → List A → List A
rest_of [] = []
rest_of (x ∷ xs) = xs

-- where no entry is left, each key is free
pub none_left : {T : Type 0} → (slots : List (Option T)) (from key : ℕ) → entries_from from slots ≡ [] → slice_index_or slots key None ≡ None
none_left [] from zero none = refl
none_left [] from (suc key) none = refl
none_left (None ∷ slots) from zero none = refl
none_left (None ∷ slots) from (suc key) none = none_left slots (from + 1) key none
none_left (Some x ∷ slots) from key none = absurd cc

-- the last entry has no lesser key than the first slot
least : {T : Type 0} → (slots : List (Option T)) (from : ℕ) (prefix : List (ℕ × T)) (last : ℕ × T) → entries_from from slots ≡ prefix ++ last ∷ [] → from ≤ last.0
least [] from [] last are = absurd cc
least [] from (x ∷ prefix) last are = absurd cc
least (None ∷ slots) from prefix last are = omega (arith, least slots (from + 1) prefix last are)
least (Some x ∷ slots) from [] last are =
    let first : from ≡ last.0 = ap (λ entries. (first_of last entries).0) are in
    omega (arith, first)
least (Some x ∷ slots) from (y ∷ prefix) last are = omega (arith, least slots (from + 1) prefix last (ap rest_of are))

-- the last entry is one of the slots
pub within : {T : Type 0} → (slots : List (Option T)) (from : ℕ) (prefix : List (ℕ × T)) (last : ℕ × T) → entries_from from slots ≡ prefix ++ last ∷ [] → last.0 + 1 ≤ from + length slots
within [] from [] last are = absurd cc
within [] from (x ∷ prefix) last are = absurd cc
within (None ∷ slots) from prefix last are = omega (arith, within slots (from + 1) prefix last are)
within (Some x ∷ slots) from [] last are =
    let first : from ≡ last.0 = ap (λ entries. (first_of last entries).0) are in
    omega (arith, first)
within (Some x ∷ slots) from (y ∷ prefix) last are = omega (arith, within slots (from + 1) prefix last (ap rest_of are))

-- after the last entry each key is free
pub none_after : {T : Type 0} → (slots : List (Option T)) (from : ℕ) (prefix : List (ℕ × T)) (last : ℕ × T) (key : ℕ) → entries_from from slots ≡ prefix ++ last ∷ [] → last.0 + 1 ≤ from + key → slice_index_or slots key None ≡ None
none_after [] from prefix last zero are tail = refl
none_after [] from prefix last (suc key) are tail = refl
none_after (None ∷ slots) from prefix last zero are tail = refl
none_after (None ∷ slots) from prefix last (suc key) are tail = none_after slots (from + 1) prefix last key are (omega (arith, tail))
none_after (Some x ∷ slots) from [] last zero are tail =
    let first : from ≡ last.0 = ap (λ entries. (first_of last entries).0) are in
    absurd (omega (arith, tail, first))
none_after (Some x ∷ slots) from [] last (suc key) are tail = none_left slots (from + 1) key (ap rest_of are)
none_after (Some x ∷ slots) from (y ∷ prefix) last zero are tail = absurd (omega (arith, tail, least slots (from + 1) prefix last (ap rest_of are)))
none_after (Some x ∷ slots) from (y ∷ prefix) last (suc key) are tail = none_after slots (from + 1) prefix last key (ap rest_of are) (omega (arith, tail))
