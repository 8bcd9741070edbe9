-- The first byte that passes, where more bytes follow.
use Rattle.std.specs.Prelude.{ℕ, ◌≡◌, ◌++◌, ◌⊎◌, ◌<◌, ◌≤◌, Bool, true, false, List, length, Some, None, position, slice_index_or}
use Rattle.std.specs.List.{position_or_len}
use Rattle.std.proofs.Common.{rules, arith, sym, ◌∙◌, inl, inr}
use Rattle.std.proofs.lemmas.List.Sums.{fails_before_first, position_or_len_is}
use Rattle.std.proofs.lemmas.Bool.{cases_lt, true≢false}
use Rattle.std.proofs.lemmas.List.Quantifiers.{position-Some}
use Rattle.std.proofs.lemmas.List.{get_or_append_left, length-append}

pub position_before : (p : ℕ → Bool) (xs ys : List ℕ) (i : ℕ) → position p xs ≡ Some i → position p (xs ++ ys) ≡ Some i
position_before p xs ys i found =
    let at : (i < length xs) × (p (slice_index_or xs i 0) ≡ true) × ((k : ℕ) → k < i → p (slice_index_or xs k 0) ≡ false) = position-Some p xs i 0 found in
    let long : i < length (xs ++ ys) = rw (length-append xs ys) (omega (arith, at.0)) in
    let same : position_or_len p (xs ++ ys) ≡ i =
    position_or_len_is p (xs ++ ys) i 0 (omega (arith, long)) (λ k low. rw (get_or_append_left xs ys 0 k (omega (arith, low, at.0))) (at.2 k low)) (λ _. rw (get_or_append_left xs ys 0 i at.0) at.1) in
    search (rules, same, long)

-- if no byte passes, each byte fails
pub each_fails : (p : ℕ → Bool) (xs : List ℕ) → position p xs ≡ None → (k d : ℕ) → k < length xs → p (slice_index_or xs k d) ≡ false
each_fails p xs absent k d low =
    let far : length xs ≤ position_or_len p xs = search rules in
    fails_before_first p xs k d (omega (arith, low, far))

-- if no byte among the first passes, the first byte that passes is after them
pub passes_late : (p : ℕ → Bool) (xs : List ℕ) (most i : ℕ) → ((k : ℕ) → k < most → p (slice_index_or xs k 0) ≡ false) → position p xs ≡ Some i → most ≤ i
passes_late p xs most i fails found = late (cases_lt i most)
  where
    at : (i < length xs) × (p (slice_index_or xs i 0) ≡ true) × ((k : ℕ) → k < i → p (slice_index_or xs k 0) ≡ false)
    at = position-Some p xs i 0 found

    late : (i < most) ⊎ (most ≤ i) → most ≤ i
    late (inl low) = absurd (true≢false (sym at.1 ∙ fails i low))
    late (inr high) = high
