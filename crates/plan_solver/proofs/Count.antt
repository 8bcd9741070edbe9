-- How many columns are unsettled.
use Rattle.std.proofs.Common.{◌≡◌, ◌≢◌, ℕ, ◌+◌, ◌<◌, ◌≤◌, List, [], ◌∷◌, length, get_or, set, sum_by, arith}
use Rattle.std.proofs.lemmas.Bool.Decides.{nat_tests}
use Rattle.std.proofs.lemmas.List.Sums.{sum_by-cons, sum_by-set}
use Rattle.plan_solver.specs.declared.search.TheConstants.{UNSETTLED}
use Rattle.plan_solver.specs.Search.{open_of, open_count}

open_of-le : (r : ℕ) → open_of r ≤ 1
open_of-le r = grind (arith, nat_tests)

open_of-settled : (r : ℕ) → r ≢ UNSETTLED → open_of r ≡ 0
open_of-settled r ne = grind (arith, nat_tests)

open_of-unsettled : (r : ℕ) → r ≡ UNSETTLED → open_of r ≡ 1
open_of-unsettled r e = grind (arith, nat_tests)

open_sum-le : (xs : List ℕ) → sum_by open_of xs ≤ length xs
open_sum-le [] = omega arith
open_sum-le (x ∷ xs) = omega (arith, sum_by-cons open_of x xs, open_of-le x, open_sum-le xs)

pub open_count-le : (xs : List ℕ) → open_count xs ≤ length xs
unfolding open_count
open_count-le xs = open_sum-le xs

-- a column that is settled is one unsettled column less
pub open_count-set : (ranks : List ℕ) (c top : ℕ) → c < length ranks → get_or ranks c 0 ≡ UNSETTLED → top ≢ UNSETTLED → open_count (set ranks c top) + 1 ≡ open_count ranks
unfolding open_count
open_count-set ranks c top lt e ne =
    omega (arith, sum_by-set open_of ranks c top 0 lt, open_of-settled top ne, open_of-unsettled (get_or ranks c 0) e)
