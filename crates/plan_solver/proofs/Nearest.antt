-- The columns that were looked at so far.
use Rattle.std.proofs.Common.{◌≡◌, ℕ, ◌<◌, ◌≤◌, List, Option, Some, None, get_or, arith}
use Rattle.plan_solver.specs.declared.search.TheConstants.{UNSETTLED}
use Rattle.plan_solver.specs.Search.{IsNearestOf, IsRelaxed}

-- `least` is the length of the nearest unsettled one of the first n columns, or as far as `reach`
abbrev pub IsFound : List ℕ → List ℕ → (n reach least : ℕ) → Option ℕ → Type 0
IsFound lengths ranks n reach least None = least ≡ reach
IsFound lengths ranks n reach least (Some c) = (c < n) × (get_or ranks c 0 ≡ UNSETTLED) × (get_or lengths c 0 ≡ least) × (least < reach)

pub found_low : (lengths ranks : List ℕ) (n reach least : ℕ) (r : Option ℕ) → IsFound lengths ranks n reach least r → least ≤ reach
found_low lengths ranks n reach least None h = omega (arith, h)
found_low lengths ranks n reach least (Some c) h = omega (arith, h.3)

pub nearest_of : (lengths ranks : List ℕ) (n reach least : ℕ) (r : Option ℕ) → IsFound lengths ranks n reach least r → ((k : ℕ) → k < n → get_or ranks k 0 ≡ UNSETTLED → least ≤ get_or lengths k 0) → IsNearestOf lengths ranks n reach r
nearest_of lengths ranks n reach least None h all = λ k lt e. omega (arith, all k lt e, h)
nearest_of lengths ranks n reach least (Some c) h all = (h.0, h.1, omega (arith, h.2, h.3), λ k lt e. omega (arith, all k lt e, h.2))

-- the column that is looked at, and a column that was looked at
pub relaxed_here : (e e' r r' o x x' l l' f f' m g : ℕ) → IsRelaxed e r o x l m f g → e' ≡ e → r' ≡ r → x' ≡ x → l' ≡ l → f' ≡ f → IsRelaxed e' r' o x' l' m f' g
relaxed_here e e' r r' o x x' l l' f f' m g h ee er ex el ef = rw (ee, er, ex, el, ef) h

pub relaxed_before : (reach r o x l m m' f g g' : ℕ) → IsRelaxed reach r o x l m f g → m' ≡ m → g' ≡ g → IsRelaxed reach r o x l m' f g'
relaxed_before reach r o x l m m' f g g' h em eg = rw (em, eg) h
