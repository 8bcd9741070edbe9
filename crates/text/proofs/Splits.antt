-- The text before the first byte that passes, and the texts into which the rest is cut.
use Rattle.std.specs.Prelude.{ℕ, ◌≡◌, ◌++◌, ◌+◌, ◌<◌, ◌≤◌, Bool, false, List, [], ◌∷◌, length, take, drop, Option, Some, None, position, slice_index_or}
use Rattle.std.specs.List.{slice_split}
use Rattle.std.proofs.Common.{rules, arith, refl}
use Rattle.std.proofs.lemmas.List.Splits.{slice_split_none, slice_split_first, length-slice_split}
use Rattle.std.proofs.lemmas.List.Quantifiers.{position-Some}
use Rattle.std.proofs.lemmas.List.{take-append-le, drop-append-le, length-take-le}
use Rattle.text.proofs.Positions.{position_before, each_fails, passes_late}

pub split_at : (p : ℕ → Bool) (xs : List ℕ) (i : ℕ) → position p xs ≡ Some i → slice_split p xs ≡ take i xs ∷ slice_split p (drop (i + 1) xs)
split_at p xs i found = search (rules, slice_split_first)

pub split_nowhere : (p : ℕ → Bool) (xs : List ℕ) → position p xs ≡ None → slice_split p xs ≡ xs ∷ []
split_nowhere p xs absent =
    slice_split_none p xs (each_fails p xs absent)

-- a text is cut into one part at least
pub record Parts (p : ℕ → Bool) (xs : List ℕ) : Type 0 where
  pub first : List ℕ
  pub later : List (List ℕ)
  pub cut : slice_split p xs ≡ first ∷ later

parts_of : (p : ℕ → Bool) (xs : List ℕ) (parts : List (List ℕ)) (count : ℕ) → slice_split p xs ≡ parts → length parts ≡ count + 1 → Parts p xs
parts_of p xs [] count cut many = absurd (omega (arith, many))
parts_of p xs (part ∷ parts) count cut many = record { first = part; later = parts; cut = cut }

pub parts : (p : ℕ → Bool) (xs : List ℕ) → Parts p xs
parts p xs = parts_of p xs (slice_split p xs) _ refl (length-slice_split p xs)

-- if more bytes follow, the first text is the same
pub split_before : (p : ℕ → Bool) (xs ys : List ℕ) (i : ℕ) → position p xs ≡ Some i → slice_split p (xs ++ ys) ≡ take i xs ∷ slice_split p (drop (i + 1) xs ++ ys)
split_before p xs ys i found =
    let at : i < length xs = search (rules, position-Some p xs i 0 found) in
    let first : take i (xs ++ ys) ≡ take i xs = take-append-le i xs ys (omega (arith, at)) in
    let rest : drop (i + 1) (xs ++ ys) ≡ drop (i + 1) xs ++ ys = drop-append-le (i + 1) xs ys (omega (arith, at)) in
    search (rules, split_at p (xs ++ ys) i (position_before p xs ys i found), first, rest)

-- if no byte among the first passes, the first text has at least these bytes
pub first_is_long : (p : ℕ → Bool) (xs : List ℕ) (n : ℕ) → n ≤ length xs → ((k : ℕ) → k < n → p (slice_index_or xs k 0) ≡ false) → (it : Parts p xs) × (n ≤ length it.first)
first_is_long p xs n many fails = by_position (position p xs) refl
  where
    by_position : (o : Option ℕ) → position p xs ≡ o → (it : Parts p xs) × (n ≤ length it.first)
    by_position None absent = (record { first = xs; later = []; cut = split_nowhere p xs absent }, many)
    by_position (Some i) found =
        let within : i < length xs = search (rules, position-Some p xs i 0 found) in
        (record { first = take i xs; later = slice_split p (drop (i + 1) xs); cut = split_at p xs i found }, rw (length-take-le i xs (omega (arith, within))) (passes_late p xs n i fails found))
