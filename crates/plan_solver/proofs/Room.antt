-- By how much all prices may rise, after one job more has a column.
use Rattle.std.proofs.Common.{◌≡◌, ℕ, ◌+◌, ◌-◌, ◌<◌, ◌≤◌, ◌≢◌, List, [], ◌∷◌, ◌++◌, length, get_or, ap, inl, inr, arith}
use Rattle.std.proofs.lemmas.Bool.{cases_eq}
use Rattle.std.proofs.lemmas.List.{get_or_append_left}
use Rattle.plan_solver.specs.declared.costs.Place.{Place}
use Rattle.plan_solver.specs.declared.search.TheConstants.{UNSETTLED}
use Rattle.plan_solver.specs.Costs.{nowhere}
use Rattle.plan_solver.specs.Search.{AreNears}
use Rattle.plan_solver.specs.Matching.{AreMoved, HasRoom}

-- prices P' are raised from P: an unsettled job has its price still
pub room_up : (cost : ℕ → Place → ℕ) (J0 P0 jobs P P' L R N : List ℕ) (free : List Place) (K K' : List ℕ) (reach n job : ℕ)
    → jobs ≡ J0 ++ job ∷ [] → P ≡ P0 ++ 0 ∷ [] → length J0 ≡ n → length P0 ≡ n
    → HasRoom cost J0 P0 free K → length K ≤ length free → get_or R n 0 ≡ 0
    → ((q : ℕ) → q < n → get_or R q 0 ≡ UNSETTLED → reach ≤ get_or L q 0)
    → ((q : ℕ) → q ≤ n → get_or R q 0 ≢ UNSETTLED → get_or L q 0 ≤ reach)
    → ((q : ℕ) → q ≤ n → get_or P' q 0 ≡ get_or P q 0 + (reach - get_or L q 0))
    → ((q f : ℕ) → q ≤ n → f < length free → get_or P' q 0 ≤ cost (get_or jobs q 0) (get_or free f nowhere))
    → AreNears cost jobs P free L R N n
    → ((f : ℕ) → f < length K → get_or K' f 0 ≤ get_or K f 0)
    → ((f : ℕ) → f < length K → get_or K' f 0 ≤ get_or N f 0 - reach)
    → (q f : ℕ) → q ≤ n → f < length K → get_or P' q 0 + get_or K' f 0 ≤ cost (get_or jobs q 0) (get_or free f nowhere)
room_up cost J0 P0 jobs P P' L R N free K K' reach n job ej ep lj lp room few root far within up fair nears less near q f le lf = elim (cases_eq (get_or R q 0) UNSETTLED) [
  | inr settled ↦ omega (arith, within q le settled, up q le, fair q f le (omega arith), nears.at q f le (omega arith) settled, near f lf)
  | inl unsettled ↦
      let old : q < n = elim (cases_eq q n) [
        | inl e ↦ absurd (omega (arith, unsettled, ap (λ k. get_or R k 0) e, root))
        | inr d ↦ omega arith
      ] in
      let price : get_or P q 0 ≡ get_or P0 q 0 = rw ep (get_or_append_left P0 (0 ∷ []) 0 q (omega arith)) in
      rw (ej, get_or_append_left J0 (job ∷ []) 0 q (omega arith)) (omega (arith, far q old unsettled, price, up q le, room.at q f (omega arith) lf, less f lf))
]

-- jobs and prices that move together keep it
pub room_moved : (cost : ℕ → Place → ℕ) (jobs jobs' P P' F R : List ℕ) (free : List Place) (K : List ℕ) (m n : ℕ)
    → ((c : ℕ) → c ≤ n → get_or F c 0 ≤ n)
    → ((c : ℕ) → c ≤ n → AreMoved jobs jobs' P P' F R n c)
    → ((q f : ℕ) → q ≤ n → f < m → get_or P q 0 + get_or K f 0 ≤ cost (get_or jobs q 0) (get_or free f nowhere))
    → (q f : ℕ) → q ≤ n → f < m → get_or P' q 0 + get_or K f 0 ≤ cost (get_or jobs' q 0) (get_or free f nowhere)
room_moved cost jobs jobs' P P' F R free K m n inside moved room q f le lf = elim (moved q le) [
  | inl k ↦ rw (k.0, k.1) (room q f le lf)
  | inr k ↦ rw (k.0, k.1) (room (get_or F q 0) f (inside q le) lf)
]
