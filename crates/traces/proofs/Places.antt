-- A place in a list, or its end.
use Rattle.std.proofs.Common.{◌≡◌, ◌≤◌, ℕ, Bool, cond, not, nat_lt, List, length, position, unwrap_or, Some, None, arith}
use Rattle.std.proofs.lemmas.List.Sums.{prefix_len-le-length}
use Rattle.std.specs.List.{position_or_len}

-- the place, or the end where there is none
pub place_or_end : {A : Type 0} (test : A → Bool) (xs : List A) → unwrap_or (position test xs) (length xs) ≡ position_or_len test xs
place_or_end test xs = at_end (position_or_len test xs) (length xs) (prefix_len-le-length (λ x. not (test x)) xs)
  where
    at_end : (n len : ℕ) → n ≤ len → unwrap_or (cond (nat_lt n len) (Some n) None) len ≡ n
    at_end n len le = grind arith
