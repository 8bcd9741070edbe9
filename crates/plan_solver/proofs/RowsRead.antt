-- The rows that were read so far.
use Rattle.std.proofs.Common.{◌≡◌, ℕ, ◌+◌, ◌*◌, ◌<◌, ◌≤◌, List, [], ◌∷◌, ◌++◌, length, get_or, arith, inl, inr}
use Rattle.std.specs.Option.{unwrap_or}
use Rattle.std.proofs.lemmas.Bool.{cases_eq}
use Rattle.std.proofs.lemmas.List.{get_or_push, get_or_append_left}
use Rattle.std.proofs.Math.Nat.{suc-mul}
use Rattle.plan_problem.specs.Class.{Class, time_in}
use Rattle.plan_solver.specs.declared.costs.TheConstants.{UNABLE}
use Rattle.plan_solver.specs.Entries.{IsReadRow}

pub rows_more : (c : Class) (ids : List ℕ) (rows rows' : List (List ℕ)) (row : List ℕ) (m devices job : ℕ)
    → length rows ≡ m → rows' ≡ rows ++ row ∷ [] → job ≡ get_or ids m 0 → IsReadRow c job devices row
    → ((j d : ℕ) → j < m → d < devices → get_or (get_or rows j []) d UNABLE ≡ unwrap_or (time_in c (get_or ids j 0) d) UNABLE)
    → (j d : ℕ) → j < m + 1 → d < devices → get_or (get_or rows' j []) d UNABLE ≡ unwrap_or (time_in c (get_or ids j 0) d) UNABLE
rows_more c ids rows rows' row m devices job len er ej read before j d lj ld = elim (cases_eq j m) [
  | inl e ↦ rw (er, e, get_or_push rows row [] m len, ← ej) (read.times d ld)
  | inr ne ↦ rw (er, get_or_append_left rows (row ∷ []) [] j (omega arith)) (before j d (omega arith) ld)
]

pub looked_more : (old m devices new before : ℕ) → before ≤ old + m * devices → new ≤ before + devices → new ≤ old + (m + 1) * devices
looked_more old m devices new before le more = omega (arith, le, more, suc-mul m devices)
