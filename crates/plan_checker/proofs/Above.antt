-- The classes above a class, and the waits that they leave.
use Rattle.std.proofs.Common.{◌≡◌, ◌==◌, ℕ, zero, suc, ◌-◌, ◌<◌, ◌≤◌, List, length, get_or, Option, Some, None, MatchOption, is_some, false, true, Contains, arith, sym, ap, ◌∙◌, subst}
use Rattle.std.specs.Prelude.{slice_get}
use Rattle.std.proofs.lemmas.Option.{get_or_from_slice_get, slice_get-get_or}
use Rattle.plan_problem.specs.Class.{Class, place_of}
use Rattle.plan_problem.proofs.Places.{place_below}
use Rattle.plan_prices.specs.declared.plan.PlannedClass.{PlannedClass}
use Rattle.plan_prices.specs.Way.{IsWay}
use Rattle.plan_prices.specs.Waits.{waits_after}
use Rattle.plan_prices.proofs.Each.{match_since_some}
use Rattle.plan_prices.proofs.Names.{contains_from_place}
use Rattle.plan_prices.proofs.Steps.{length-waits_from}
use Rattle.plan_checker.specs.Beside.{WaitsFollow, AboveHaveWays}

-- a job that a class finds is one of its jobs
pub found_job : (ids : List ℕ) (job : ℕ) (place : Option ℕ) → is_some place ≡ true → MatchOption place (place_of ids job ≡ length ids) (λ at. (place_of ids job ≡ at) × (at < length ids)) → Contains ids job
found_job ids job place some match =
    let at = match_since_some place _ _ some match in
    let same : place_of ids job ≡ at.0 = at.1.0 in
    let below : at.0 < length ids = at.1.1 in
    contains_from_place ids job (omega arith)

match_since_none : {X : Type 0} (o : Option X) (A : Type 0) (B : X → Type 0) → is_some o ≡ false → MatchOption o A B → A
match_since_none None A B h m = m
match_since_none (Some x) A B h m = absurd (cc)

-- a job that the search doesn't find isn't in the class
pub missed_job : (ids : List ℕ) (job : ℕ) (place : Option ℕ) → is_some place ≡ false → MatchOption place (place_of ids job ≡ length ids) (λ at. (place_of ids job ≡ at) × (at < length ids)) → ¬ Contains ids job
missed_job ids job place none match known =
    let past : place_of ids job ≡ length ids = match_since_none place _ _ none match in
    let below : place_of ids job < length ids = place_below ids job known in
    omega arith

-- a class leaves as many waits as it has
pub left_length : (class : PlannedClass) → IsWay class.problem class.priced.way → length (waits_after class.problem class.priced.way) ≡ length class.problem.waits
left_length class way = length-waits_from class.problem 0 class.priced.way ∙ way.one_list_each

pub filled : (n : ℕ) → false ≡ (n == 0) → 1 ≤ n
filled zero e = absurd (cc)
filled (suc n) e = omega arith

module _ (above : List PlannedClass) (last : PlannedClass) (is : last ≡ get_or above (length above - 1) last) where
  -- the class just above is the last of those above
  pub last_is : (place : ℕ) (class : PlannedClass) → suc place ≡ length above → slice_get above place ≡ Some class → last ≡ class
  last_is place class end found =
      let here : length above - 1 ≡ place = omega arith in
      is ∙ ap (λ k. get_or above k last) here ∙ get_or_from_slice_get above place class last found

  module _ (some : 1 ≤ length above) where
    last_found : slice_get above (length above - 1) ≡ Some last
    last_found = slice_get-get_or above (length above - 1) last (omega arith) ∙ ap Some (sym is)

    -- waits that follow are those that it leaves
    pub follow_last : (c : Class) → WaitsFollow above c → c.waits ≡ waits_after last.problem last.priced.way
    follow_last c follow = follow (length above - 1) last (omega arith) last_found

    pub last_way : AboveHaveWays above → IsWay last.problem last.priced.way
    last_way ways = subst (λ class. IsWay class.problem class.priced.way) (sym is) (ways (length above - 1) last (omega arith))
