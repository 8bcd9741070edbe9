-- The jobs in columns: each is below the number of jobs, and no two are the same.
use Rattle.std.proofs.Common.{◌≡◌, ◌≢◌, ℕ, ◌+◌, ◌<◌, false, eqb, List, length, get_or, arith}
use Rattle.std.specs.List.{range_with_len, IsDistinct}
use Rattle.std.specs.List.Sorted.{IsPermutation}
use Rattle.std.proofs.lemmas.Bool.Decides.{nat_tests}
use Rattle.std.proofs.lemmas.Map.Keys.{IsDistinct-IsPermutation, IsDistinct-from_apart, apart_from_distinct}
use Rattle.std.proofs.lemmas.List.FromFn.{get_or-range_with_len, length-range_with_len}
use Rattle.std.proofs.lemmas.List.Sorted.{All-permutation}

eqb-flips : (x y : ℕ) → eqb x y ≡ eqb y x
eqb-flips x y = grind (arith, nat_tests)

eqb-apart : (x y : ℕ) → x < y → eqb x y ≡ false
eqb-apart x y lt = grind (arith, nat_tests)

eqb-same : (x y : ℕ) → x ≡ y → eqb x y ≡ false → ⊥
eqb-same x y e f = grind (arith, nat_tests)

range-distinct : (n : ℕ) → IsDistinct eqb (range_with_len 0 n)
range-distinct n = IsDistinct-from_apart eqb (range_with_len 0 n) (λ i j d lt below.
    let len = length-range_with_len 0 n in
    rw (get_or-range_with_len 0 n i d (omega arith), get_or-range_with_len 0 n j d (omega arith)) (eqb-apart (0 + i) (0 + j) (omega arith)))

pub jobs-apart : (n : ℕ) (jobs : List ℕ) → IsPermutation (range_with_len 0 n) jobs → (i j : ℕ) → i < j → j < length jobs → get_or jobs i 0 ≢ get_or jobs j 0
jobs-apart n jobs p i j lt below e =
    eqb-same _ _ e (apart_from_distinct eqb jobs i j 0 (IsDistinct-IsPermutation eqb eqb-flips (range_with_len 0 n) jobs p (range-distinct n)) lt below)

pub jobs-below : (n : ℕ) (jobs : List ℕ) → IsPermutation (range_with_len 0 n) jobs → (c : ℕ) → c < length jobs → get_or jobs c 0 < n
jobs-below n jobs p c lt =
    All-permutation (λ j. j < n) (range_with_len 0 n) jobs p (λ k d below. rw (get_or-range_with_len 0 n k d (omega (arith, below, length-range_with_len 0 n))) (omega (arith, below, length-range_with_len 0 n))) c 0 lt
