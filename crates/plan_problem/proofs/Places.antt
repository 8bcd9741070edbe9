-- The places of a class's jobs, and which pairs have a time.
use Rattle.std.proofs.Common.{◌≡◌, ◌==◌, ℕ, ◌<◌, ◌≤◌, List, [], length, get_or, Option, None, Some, Result, Ok, Err, MatchOption, Contains, arith, refl, sym, ◌∙◌, not, eqb, inl, inr}
use Rattle.std.specs.List.{position_or_len}
use Rattle.std.specs.List.Sorted.{IsBinarySearchResult, IsStrictlyIncreasing}
use Rattle.std.specs.Ordering.{nat_cmp}
use Rattle.std.specs.Result.{result_ok}
use Rattle.std.proofs.lemmas.Bool.{cases_lt, ne_eqb, eq-eqb, eqb-true, both_ways}
use Rattle.std.proofs.lemmas.List.{get_or_past}
use Rattle.std.proofs.lemmas.List.Sums.{prefix_len-le-length, position_or_len_is, passes_at_first, fails_before_first}
use Rattle.std.proofs.lemmas.List.Kept.{AllPairs-from_increasing}
use Rattle.std.proofs.lemmas.List.Sorted.{searched}
use Rattle.plan_problem.specs.Class.{Class, IsClass, place_of, time_in}

-- the job at a place is at that place
pub place_at : (ids : List ℕ) → IsStrictlyIncreasing ids → (place : ℕ) → place < length ids → place_of ids (get_or ids place 0) ≡ place
place_at ids up place below =
    position_or_len_is (λ id. id == get_or ids place 0) ids place 0 (omega arith)
    (λ k before. ne_eqb (get_or ids k 0) (get_or ids place 0) (λ e. let rises : get_or ids k 0 < get_or ids place 0 = AllPairs-from_increasing ids up k place 0 before below in omega arith))
    (λ _. eq-eqb (get_or ids place 0) (get_or ids place 0) refl)

-- the job at its place in the class
pub at_place : (ids : List ℕ) (job : ℕ) → place_of ids job < length ids → get_or ids (place_of ids job) 0 ≡ job
at_place ids job below = eqb-true (get_or ids (place_of ids job) 0) job (passes_at_first (λ id. id == job) ids 0 below)

-- the result of a search among jobs by rising id
pub found_at : (ids : List ℕ) (job place : ℕ) → IsStrictlyIncreasing ids → place < length ids → get_or ids place 0 ≡ job → place_of ids job ≡ place
found_at ids job place up below e = rw (← e) (place_at ids up place below)

pub not_found : (ids : List ℕ) (job place : ℕ) → ((k : ℕ) → k < place → get_or ids k 0 < job) → ((k : ℕ) → place ≤ k → k < length ids → job < get_or ids k 0) → place_of ids job ≡ length ids
not_found ids job place before after = elim (cases_lt (place_of ids job) (length ids)) [
  | inr past ↦ omega (arith, past, prefix_len-le-length (λ id. not (id == job)) ids)
  | inl below ↦
      let at = at_place ids job below in
      elim (cases_lt (place_of ids job) place) [
        | inl low ↦ absurd (omega (arith, at, before (place_of ids job) low))
        | inr high ↦ absurd (omega (arith, at, after (place_of ids job) high below))
      ]
]

rises : (ids : List ℕ) → IsStrictlyIncreasing ids → (i j : ℕ) → i ≤ j → j < length ids → get_or ids i 0 ≤ get_or ids j 0
rises ids up i j le below = elim (cases_lt i j) [
  | inl before ↦ (let above : get_or ids i 0 < get_or ids j 0 = AllPairs-from_increasing ids up i j 0 before below in omega arith)
  | inr same ↦ rw (let e : i ≡ j = omega arith in e) (omega arith)
]

pub place_found : (ids : List ℕ) (job : ℕ) (r : Result ℕ ℕ) → IsStrictlyIncreasing ids → IsBinarySearchResult (λ y. nat_cmp y job) ids r → MatchOption (result_ok r) (place_of ids job ≡ length ids) (λ place. (place_of ids job ≡ place) × (place < length ids))
place_found ids job (Ok place) up found = let at = searched ids job (Ok place) found (rises ids up) in (found_at ids job place up at.0 at.1, at.0)
place_found ids job (Err place) up found = let at = searched ids job (Err place) found (rises ids up) in not_found ids job place at.1 at.2

-- a job of the class is at a place below their number
pub place_below : (ids : List ℕ) (job : ℕ) → Contains ids job → place_of ids job < length ids
place_below ids job known = elim (cases_lt (place_of ids job) (length ids)) [
  | inl below ↦ below
  | inr past ↦
      let before : known.0 < position_or_len (λ id. id == job) ids = omega (arith, known.1) in
      absurd (both_ways (eqb (get_or ids known.0 job) job) (fails_before_first (λ id. id == job) ids known.0 job before) (eq-eqb (get_or ids known.0 job) job known.2))
]

-- a job with a time is one of the class
pub timed_place : (c : Class) → IsClass c → (job device time : ℕ) → time_in c job device ≡ Some time → place_of c.ids job < length c.ids
timed_place c class job device time e = elim (cases_lt (place_of c.ids job) (length c.ids)) [
  | inl below ↦ below
  | inr past ↦
      let no_row : get_or c.rows (place_of c.ids job) [] ≡ [] = get_or_past c.rows (place_of c.ids job) [] (omega (arith, class.one_row_each)) in
      absurd (let none : None ≡ Some time = (rw no_row at e) in cc)
]

-- the device of such a pair is a device of the class
pub timed_device : (c : Class) → IsClass c → (job device time : ℕ) → time_in c job device ≡ Some time → device < length c.waits
timed_device c class job device time e = elim (cases_lt device (length c.waits)) [
  | inl below ↦ below
  | inr past ↦
      let row : place_of c.ids job < length c.rows = (let known : place_of c.ids job < length c.ids = timed_place c class job device time e in omega (arith, known, class.one_row_each)) in
      let width : length (get_or c.rows (place_of c.ids job) []) ≡ length c.waits = class.one_time_each (place_of c.ids job) [] row in
      let no_entry : get_or (get_or c.rows (place_of c.ids job) []) device None ≡ None = get_or_past (get_or c.rows (place_of c.ids job) []) device None (omega (arith, width)) in
      absurd (let none : None ≡ Some time = sym no_entry ∙ e in cc)
]

none_or : (entry : Option ℕ) → ((time : ℕ) → entry ≡ Some time → ⊥) → entry ≡ None
none_or None none = refl
none_or (Some time) none = absurd (none time refl)

-- beyond the devices there are no times
pub untimed : (c : Class) → IsClass c → (job device : ℕ) → length c.waits ≤ device → time_in c job device ≡ None
untimed c class job device past = none_or (time_in c job device) (λ time e. omega (arith, timed_device c class job device time e, past))
