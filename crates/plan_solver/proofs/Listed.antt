-- The list of the columns that were reached.
use Rattle.std.proofs.Common.{◌≡◌, ◌≢◌, ℕ, ◌+◌, ◌<◌, ◌≤◌, List, [], ◌∷◌, length, get_or, set, sum_by, inl, inr, ◌∙◌, sym, arith}
use Rattle.std.proofs.lemmas.Bool.{cases_eq}
use Rattle.std.proofs.lemmas.Bool.Decides.{nat_tests}
use Rattle.std.proofs.lemmas.List.{get_or-set_same, get_or-set_other}
use Rattle.std.proofs.lemmas.List.Sums.{sum_by-cons, sum_by-set}
use Rattle.plan_solver.specs.declared.search.TheConstants.{UNSETTLED, FAR}
use Rattle.plan_solver.specs.Search.{AreListed, IsNoted, far_of, far_count}

far_of-le : (x : ℕ) → far_of x ≤ 1
far_of-le x = grind (arith, nat_tests)

far_of-far : (x : ℕ) → FAR ≤ x → far_of x ≡ 1
far_of-far x far = grind (arith, nat_tests)

far_of-near : (x : ℕ) → x < FAR → far_of x ≡ 0
far_of-near x near = grind (arith, nat_tests)

far_sum-le : (xs : List ℕ) → sum_by far_of xs ≤ length xs
far_sum-le [] = omega arith
far_sum-le (x ∷ xs) = omega (arith, sum_by-cons far_of x xs, far_of-le x, far_sum-le xs)

pub far_count-le : (xs : List ℕ) → far_count xs ≤ length xs
unfolding far_count
far_count-le xs = far_sum-le xs

-- a column that is reached is one far column less
pub far_count-reached : (lengths : List ℕ) (c new : ℕ) → c < length lengths → FAR ≤ get_or lengths c 0 → new < FAR → far_count (set lengths c new) + 1 ≡ far_count lengths
unfolding far_count
far_count-reached lengths c new lt far near =
    omega (arith, sum_by-set far_of lengths c new 0 lt, far_of-near new near, far_of-far (get_or lengths c 0) far)

far_count-same : (lengths : List ℕ) (c new : ℕ) → c < length lengths → get_or lengths c 0 < FAR → new < FAR → far_count (set lengths c new) ≡ far_count lengths
unfolding far_count
far_count-same lengths c new lt was near =
    omega (arith, sum_by-set far_of lengths c new 0 lt, far_of-near new near, far_of-near (get_or lengths c 0) was)

-- there is room for a column that no way reached
pub listed_room : (lengths ranks reached : List ℕ) (count len c : ℕ) → AreListed lengths ranks reached count len → c < length lengths → FAR ≤ get_or lengths c 0 → count + 1 < len
listed_room lengths ranks reached count len c h lt far = omega (arith, h.room, far_count-reached lengths c 0 lt far (omega arith))

listed_new : (lengths ranks reached : List ℕ) (count len c new : ℕ) → AreListed lengths ranks reached count len → length reached ≡ len → length lengths ≡ len → c + 1 < len → FAR ≤ get_or lengths c 0 → new < FAR → AreListed (set lengths c new) ranks (set reached count c) (count + 1) len
listed_new lengths ranks reached count len c new h lr ll inside far near =
    let room = listed_room lengths ranks reached count len c h (omega arith) far in
    let here : get_or (set reached count c) count 0 ≡ c = get_or-set_same reached count c 0 (omega arith) in
    record {
      room = omega (arith, h.room, far_count-reached lengths c new (omega arith) far near);
      known = λ i lt. elim (cases_eq i count) [
        | inl e ↦ rw (e, here) inside
        | inr d ↦ rw (get_or-set_other reached count i c 0 d) (h.known i (omega arith))
      ];
      there = λ k lt still short. elim (cases_eq k c) [
        | inl e ↦ (count, omega arith, here ∙ sym e)
        | inr d ↦
            let old = h.there k lt still (rw (← get_or-set_other lengths c k new 0 d) short) in
            let apart : old.0 ≢ count = omega (arith, old.1) in
            (old.0, omega (arith, old.1), get_or-set_other reached count old.0 c 0 apart ∙ old.2)
      ];
    }

listed_again : (lengths ranks reached : List ℕ) (count len c new : ℕ) → AreListed lengths ranks reached count len → length lengths ≡ len → c + 1 < len → get_or ranks c 0 ≡ UNSETTLED → get_or lengths c 0 < FAR → new < FAR → AreListed (set lengths c new) ranks reached count len
listed_again lengths ranks reached count len c new h ll inside unsettled was near =
    record {
      room = omega (arith, h.room, far_count-same lengths c new (omega arith) was near);
      known = h.known;
      there = λ k lt still short. elim (cases_eq k c) [
        | inl e ↦ rw e (h.there c inside unsettled was)
        | inr d ↦ h.there k lt still (rw (← get_or-set_other lengths c k new 0 d) short)
      ];
    }

-- a column is reached
pub listed_more : (lengths ranks reached reached' : List ℕ) (count count' len c new : ℕ) → AreListed lengths ranks reached count len → length reached ≡ len → length lengths ≡ len → c + 1 < len → get_or ranks c 0 ≡ UNSETTLED → new < FAR → IsNoted (get_or lengths c 0) c reached reached' count count' → AreListed (set lengths c new) ranks reached' count' len
listed_more lengths ranks reached reached' count count' len c new h lr ll inside unsettled near noted = elim noted [
  | inl k ↦ rw (k.1, k.2) (listed_new lengths ranks reached count len c new h lr ll inside k.0 near)
  | inr k ↦ rw (k.1, k.2) (listed_again lengths ranks reached count len c new h ll inside unsettled k.0 near)
]

-- a column is settled
pub listed_settled : (lengths ranks reached : List ℕ) (count len c top : ℕ) → AreListed lengths ranks reached count len → get_or ranks c 0 ≡ UNSETTLED → AreListed lengths (set ranks c top) reached count len
listed_settled lengths ranks reached count len c top h unsettled = record {
  room = h.room;
  known = h.known;
  there = λ k lt still short. elim (cases_eq k c) [
    | inl e ↦ rw e (h.there c (rw (← e) lt) unsettled (rw (← e) short))
    | inr d ↦ h.there k lt (sym (get_or-set_other ranks c k top 0 d) ∙ still) short
  ];
}
