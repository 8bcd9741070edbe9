-- Prices and duals after they were raised, and after the path's jobs moved on.
use Rattle.std.proofs.Common.{◌≡◌, ◌≢◌, ◌⊎◌, ℕ, ◌+◌, ◌-◌, ◌<◌, ◌≤◌, List, [], ◌∷◌, ◌++◌, length, get_or, ap, inl, inr, arith}
use Rattle.std.proofs.lemmas.Bool.{cases_eq}
use Rattle.std.proofs.lemmas.List.{get_or_push, get_or_append_left}
use Rattle.plan_solver.specs.declared.costs.Place.{Place}
use Rattle.plan_solver.specs.declared.search.Exit.{Exit}
use Rattle.plan_solver.specs.declared.search.TheConstants.{UNSETTLED, FAR}
use Rattle.plan_solver.specs.Costs.{nowhere}
use Rattle.plan_solver.specs.Matching.{IsFair, IsTight, AreMoved}
use Rattle.plan_solver.specs.Search.{IsSearched}

-- P and V are the prices and duals before, P' and V' those after
pub record Raises (cost : ℕ → Place → ℕ) (jobs P : List ℕ) (columns : List Place) (V : List ℕ) (free : List Place) (L F R P' V' : List ℕ) (E : Exit) (top n : ℕ) : Type 0 where
  pub fair : (q c : ℕ) → q ≤ n → c < n → get_or P q 0 ≤ cost (get_or jobs q 0) (get_or columns c nowhere) + get_or V c 0
  pub fair_free : (q f : ℕ) → q ≤ n → f < length free → get_or P q 0 ≤ cost (get_or jobs q 0) (get_or free f nowhere)
  pub tight : (c : ℕ) → c < n → get_or P c 0 ≡ cost (get_or jobs c 0) (get_or columns c nowhere) + get_or V c 0
  pub searched : IsSearched cost jobs P columns V free L F R E top n
  pub far : (c : ℕ) → c < n → get_or R c 0 ≡ UNSETTLED → E.length ≤ get_or L c 0
  pub price_up : (q : ℕ) → q ≤ n → get_or P' q 0 ≡ get_or P q 0 + (E.length - get_or L q 0)
  pub dual_up : (c : ℕ) → c < n → get_or V' c 0 ≡ get_or V c 0 + (E.length - get_or L c 0)

-- a column that isn't settled is as far as the exit
far_or_settled : {cost : ℕ → Place → ℕ} {jobs P : List ℕ} {columns : List Place} {V : List ℕ} {free : List Place} {L F R P' V' : List ℕ} {E : Exit} {top n : ℕ} → Raises cost jobs P columns V free L F R P' V' E top n → (q : ℕ) → q ≤ n → (E.length ≤ get_or L q 0) ⊎ (get_or R q 0 ≢ UNSETTLED)
far_or_settled {R} {n} h q le = elim (cases_eq (get_or R q 0) UNSETTLED) [
  | inr ne ↦ inr ne
  | inl e ↦ elim (cases_eq q n) [
    | inr d ↦ inl (h.far q (omega arith) e)
    | inl same ↦ inr (λ x. omega (arith, x, ap (λ k. get_or R k 0) same, h.searched.root_rank))
  ]
]

fair_up : {cost : ℕ → Place → ℕ} {jobs P : List ℕ} {columns : List Place} {V : List ℕ} {free : List Place} {L F R P' V' : List ℕ} {E : Exit} {top n : ℕ} → Raises cost jobs P columns V free L F R P' V' E top n → (q c : ℕ) → q ≤ n → c < n → get_or P' q 0 ≤ cost (get_or jobs q 0) (get_or columns c nowhere) + get_or V' c 0
fair_up h q c le lt =
    let p = h.price_up q le in
    let v = h.dual_up c lt in
    elim (far_or_settled h q le) [
      | inl far ↦ omega (arith, h.fair q c le lt)
      | inr ne ↦ elim (h.searched.onward q c le lt ne) [
        | inl near ↦ omega (arith, near, h.searched.within q le ne)
        | inr far ↦ omega (arith, far, h.searched.within q le ne)
      ]
    ]

pub free_up : {cost : ℕ → Place → ℕ} {jobs P : List ℕ} {columns : List Place} {V : List ℕ} {free : List Place} {L F R P' V' : List ℕ} {E : Exit} {top n : ℕ} → Raises cost jobs P columns V free L F R P' V' E top n → (q f : ℕ) → q ≤ n → f < length free → get_or P' q 0 ≤ cost (get_or jobs q 0) (get_or free f nowhere)
free_up h q f le lt =
    let p = h.price_up q le in
    elim (far_or_settled h q le) [
      | inl far ↦ omega (arith, h.fair_free q f le lt)
      | inr ne ↦ omega (arith, h.searched.out q f le lt ne, h.searched.within q le ne)
    ]

tight_up : {cost : ℕ → Place → ℕ} {jobs P : List ℕ} {columns : List Place} {V : List ℕ} {free : List Place} {L F R P' V' : List ℕ} {E : Exit} {top n : ℕ} → Raises cost jobs P columns V free L F R P' V' E top n → (c : ℕ) → c < n → get_or P' c 0 ≡ cost (get_or jobs c 0) (get_or columns c nowhere) + get_or V' c 0
tight_up h c lt = omega (arith, h.price_up c (omega arith), h.dual_up c lt, h.tight c lt)

-- the job from which a settled column was reached pays its charge there
edge_up : {cost : ℕ → Place → ℕ} {jobs P : List ℕ} {columns : List Place} {V : List ℕ} {free : List Place} {L F R P' V' : List ℕ} {E : Exit} {top n : ℕ} → Raises cost jobs P columns V free L F R P' V' E top n → (c : ℕ) → c < n → get_or R c 0 ≢ UNSETTLED → get_or P' (get_or F c 0) 0 ≡ cost (get_or jobs (get_or F c 0) 0) (get_or columns c nowhere) + get_or V' c 0
edge_up {L} {F} h c lt ne =
    let from = h.searched.origin c lt in
    let near : get_or L c 0 < FAR = omega (arith, h.searched.within c (omega arith) ne, h.searched.near) in
    omega (arith, h.price_up (get_or F c 0) from, h.dual_up c lt, h.searched.edge c lt near, h.searched.within c (omega arith) ne, h.searched.within (get_or F c 0) from (h.searched.origin_settled c lt))

exit_up : {cost : ℕ → Place → ℕ} {jobs P : List ℕ} {columns : List Place} {V : List ℕ} {free : List Place} {L F R P' V' : List ℕ} {E : Exit} {top n : ℕ} → Raises cost jobs P columns V free L F R P' V' E top n → get_or P' E.from 0 ≡ cost (get_or jobs E.from 0) (get_or free E.place nowhere)
exit_up {E} h =
    omega (arith, h.price_up E.from h.searched.exit_origin, h.searched.exit_edge, h.searched.within E.from h.searched.exit_origin h.searched.exit_settled)

-- then the free place becomes column n, and jobs move along the path
pub record Moves (cost : ℕ → Place → ℕ) (jobs P : List ℕ) (columns : List Place) (V : List ℕ) (free : List Place) (L F R P' V' : List ℕ) (columns' : List Place) (V'' F' R' jobs' P'' : List ℕ) (E : Exit) (top n : ℕ) : Type 0 where
  pub raised : Raises cost jobs P columns V free L F R P' V' E top n
  pub room : top < UNSETTLED
  pub column : (c : ℕ) → c < n → get_or columns' c nowhere ≡ get_or columns c nowhere
  pub column_new : get_or columns' n nowhere ≡ get_or free E.place nowhere
  pub dual : (c : ℕ) → c < n → get_or V'' c 0 ≡ get_or V' c 0
  pub dual_new : get_or V'' n 0 ≡ 0
  pub from : (c : ℕ) → c < n → get_or F' c 0 ≡ get_or F c 0
  pub from_new : get_or F' n 0 ≡ E.from
  pub rank : (c : ℕ) → c < n → get_or R' c 0 ≡ get_or R c 0
  pub rank_new : get_or R' n 0 ≡ top
  pub moved : (c : ℕ) → c ≤ n → AreMoved jobs jobs' P' P'' F' R' n c

-- who sits at c now sat somewhere, at the same price
sat : {cost : ℕ → Place → ℕ} {jobs P : List ℕ} {columns : List Place} {V : List ℕ} {free : List Place} {L F R P' V' : List ℕ} {columns' : List Place} {V'' F' R' jobs' P'' : List ℕ} {E : Exit} {top n : ℕ} → Moves cost jobs P columns V free L F R P' V' columns' V'' F' R' jobs' P'' E top n → (q : ℕ) → q ≤ n → (p : ℕ) × (p ≤ n) × (get_or jobs' q 0 ≡ get_or jobs p 0) × (get_or P'' q 0 ≡ get_or P' p 0)
sat {F'} {E} {n} h q le = elim (h.moved q le) [
  | inl k ↦ (q, le, k.0, k.1)
  | inr k ↦
      let from_in : get_or F' q 0 ≤ n = elim (cases_eq q n) [
        | inl e ↦ rw (e, h.from_new) h.raised.searched.exit_origin
        | inr d ↦ let lt : q < n = omega arith in rw (h.from q lt) (h.raised.searched.origin q lt)
      ] in
      (get_or F' q 0, from_in, k.0, k.1)
]

-- each job is charged at most the cost of a place for it
fair_at : {cost : ℕ → Place → ℕ} {jobs P : List ℕ} {columns : List Place} {V : List ℕ} {free : List Place} {L F R P' V' : List ℕ} {columns' : List Place} {V'' F' R' jobs' P'' : List ℕ} {E : Exit} {top n : ℕ} → Moves cost jobs P columns V free L F R P' V' columns' V'' F' R' jobs' P'' E top n → (p c : ℕ) → p ≤ n → c ≤ n → get_or P' p 0 ≤ cost (get_or jobs p 0) (get_or columns' c nowhere) + get_or V'' c 0
fair_at {E} {n} h p c lp lc = elim (cases_eq c n) [
  | inl e ↦ rw (e, h.column_new, h.dual_new) (omega (arith, free_up h.raised p E.place lp h.raised.searched.exit_place))
  | inr d ↦ let lt : c < n = omega arith in rw (h.column c lt, h.dual c lt) (fair_up h.raised p c lp lt)
]

pub fair_now : {cost : ℕ → Place → ℕ} {jobs P : List ℕ} {columns : List Place} {V : List ℕ} {free : List Place} {L F R P' V' : List ℕ} {columns' : List Place} {V'' F' R' jobs' P'' : List ℕ} {E : Exit} {top n : ℕ} → Moves cost jobs P columns V free L F R P' V' columns' V'' F' R' jobs' P'' E top n → (q c : ℕ) → q ≤ n → c ≤ n → get_or P'' q 0 ≤ cost (get_or jobs' q 0) (get_or columns' c nowhere) + get_or V'' c 0
fair_now h q c lq lc = let s = sat h q lq in rw (s.2, s.3) (fair_at h s.0 c s.1 lc)

pub free_now : {cost : ℕ → Place → ℕ} {jobs P : List ℕ} {columns : List Place} {V : List ℕ} {free : List Place} {L F R P' V' : List ℕ} {columns' : List Place} {V'' F' R' jobs' P'' : List ℕ} {E : Exit} {top n : ℕ} → Moves cost jobs P columns V free L F R P' V' columns' V'' F' R' jobs' P'' E top n → (q f : ℕ) → q ≤ n → f < length free → get_or P'' q 0 ≤ cost (get_or jobs' q 0) (get_or free f nowhere)
free_now h q f lq lf = let s = sat h q lq in rw (s.2, s.3) (free_up h.raised s.0 f s.1 lf)

pub tight_now : {cost : ℕ → Place → ℕ} {jobs P : List ℕ} {columns : List Place} {V : List ℕ} {free : List Place} {L F R P' V' : List ℕ} {columns' : List Place} {V'' F' R' jobs' P'' : List ℕ} {E : Exit} {top n : ℕ} → Moves cost jobs P columns V free L F R P' V' columns' V'' F' R' jobs' P'' E top n → (c : ℕ) → c ≤ n → get_or P'' c 0 ≡ cost (get_or jobs' c 0) (get_or columns' c nowhere) + get_or V'' c 0
tight_now {E} {n} h c le = elim (h.moved c le) [
  | inl k ↦
      let lt : c < n = omega (arith, k.2) in
      rw (k.0, k.1, h.column c lt, h.dual c lt) (tight_up h.raised c lt)
  | inr k ↦ elim (cases_eq c n) [
    | inl e ↦ rw (k.0, k.1, e, h.from_new, h.column_new, h.dual_new) (omega (arith, exit_up h.raised))
    | inr d ↦
        let lt : c < n = omega arith in
        rw (k.0, k.1, h.from c lt, h.column c lt, h.dual c lt) (edge_up h.raised c lt (λ e. omega (arith, k.2, h.rank c lt, h.rank_new, e, h.room)))
  ]
]

-- the conditions of the walk along the path
pub from_in : {cost : ℕ → Place → ℕ} {jobs P : List ℕ} {columns : List Place} {V : List ℕ} {free : List Place} {L F R P' V' : List ℕ} {E : Exit} {top n : ℕ} → Raises cost jobs P columns V free L F R P' V' E top n → (F' : List ℕ) → ((c : ℕ) → c < n → get_or F' c 0 ≡ get_or F c 0) → get_or F' n 0 ≡ E.from → (c : ℕ) → c ≤ n → get_or F' c 0 ≤ n
from_in {n} h F' same new c le = elim (cases_eq c n) [
  | inl e ↦ rw (e, new) h.searched.exit_origin
  | inr d ↦ let lt : c < n = omega arith in rw (same c lt) (h.searched.origin c lt)
]

pub falls_along : {cost : ℕ → Place → ℕ} {jobs P : List ℕ} {columns : List Place} {V : List ℕ} {free : List Place} {L F R P' V' : List ℕ} {E : Exit} {top n : ℕ} → Raises cost jobs P columns V free L F R P' V' E top n → (F' R' : List ℕ) → ((c : ℕ) → c < n → get_or F' c 0 ≡ get_or F c 0) → get_or F' n 0 ≡ E.from → ((c : ℕ) → c < n → get_or R' c 0 ≡ get_or R c 0) → get_or R' n 0 ≡ top → (c : ℕ) → c ≤ n → get_or F' c 0 ≢ n → get_or R' (get_or F' c 0) 0 < get_or R' c 0
falls_along {F} {R} {E} {n} h F' R' same new rank rank_new c le ne = elim (cases_eq c n) [
  | inl e ↦
      let is : get_or F' c 0 ≡ E.from = rw e new in
      let lt : E.from < n = omega (arith, h.searched.exit_origin, ne, is) in
      rw (is, rank E.from lt, e, rank_new) (h.searched.ranked E.from h.searched.exit_origin h.searched.exit_settled)
  | inr d ↦
      let lt : c < n = omega arith in
      let below : get_or F c 0 < n = omega (arith, h.searched.origin c lt, ne, same c lt) in
      rw (same c lt, rank (get_or F c 0) below, rank c lt) (h.searched.falling c lt)
]

-- with the new job at the end, charged nothing
pub raises_from : (cost : ℕ → Place → ℕ) (J0 P0 jobs P : List ℕ) (columns : List Place) (V : List ℕ) (free : List Place) (L F R P' V' : List ℕ) (E : Exit) (top n job : ℕ)
    → jobs ≡ J0 ++ job ∷ [] → P ≡ P0 ++ 0 ∷ [] → length J0 ≡ n → length P0 ≡ n → length columns ≡ n
    → IsFair cost J0 P0 columns V → IsFair cost J0 P0 free [] → IsTight cost J0 P0 columns V
    → IsSearched cost jobs P columns V free L F R E top n
    → ((c : ℕ) → c < n → get_or R c 0 ≡ UNSETTLED → E.length ≤ get_or L c 0)
    → ((q : ℕ) → q ≤ n → get_or P' q 0 ≡ get_or P q 0 + (E.length - get_or L q 0))
    → ((c : ℕ) → c < n → get_or V' c 0 ≡ get_or V c 0 + (E.length - get_or L c 0))
    → Raises cost jobs P columns V free L F R P' V' E top n
raises_from cost J0 P0 jobs P columns V free L F R P' V' E top n job ej ep lj lp ls fair fair_free tight searched far price_up dual_up =
    let new : get_or P n 0 ≡ 0 = rw ep (get_or_push P0 0 0 n lp) in
    let job_at : (q : ℕ) → q < n → get_or jobs q 0 ≡ get_or J0 q 0 = λ q lt. rw ej (get_or_append_left J0 (job ∷ []) 0 q (omega arith)) in
    let price_at : (q : ℕ) → q < n → get_or P q 0 ≡ get_or P0 q 0 = λ q lt. rw ep (get_or_append_left P0 (0 ∷ []) 0 q (omega arith)) in
    record {
      fair = λ q c le lt. elim (cases_eq q n) [
        | inl e ↦ rw (e, new) (omega arith)
        | inr d ↦ let below : q < n = omega arith in rw (job_at q below, price_at q below) (fair.at q c (omega arith) (omega arith))
      ];
      fair_free = λ q f le lt. elim (cases_eq q n) [
        | inl e ↦ rw (e, new) (omega arith)
        | inr d ↦ let below : q < n = omega arith in rw (job_at q below, price_at q below) (omega (arith, fair_free.at q f (omega arith) lt))
      ];
      tight = λ c lt. rw (job_at c lt, price_at c lt) (tight.at c (omega arith));
      searched = searched;
      far = far;
      price_up = price_up;
      dual_up = dual_up;
    }
