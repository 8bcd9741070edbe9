-- The search once the new job's own ways are taken.
use Rattle.std.proofs.Common.{◌≡◌, ◌≢◌, ◌⊎◌, ℕ, ◌+◌, ◌-◌, ◌<◌, ◌≤◌, List, length, get_or, ap, inl, inr, ◌∙◌, arith}
use Rattle.std.proofs.lemmas.Bool.{cases_eq}
use Rattle.plan_solver.specs.declared.costs.Place.{Place}
use Rattle.plan_solver.specs.declared.search.Exit.{Exit}
use Rattle.plan_solver.specs.declared.search.TheConstants.{UNSETTLED, FAR}
use Rattle.plan_solver.specs.declared.costs.TheConstants.{UNABLE}
use Rattle.plan_solver.specs.Costs.{nowhere}
use Rattle.plan_solver.specs.Search.{AreNears, IsRelaxed, IsSearched}

pub record Begins (cost : ℕ → Place → ℕ) (jobs prices : List ℕ) (columns : List Place) (duals : List ℕ) (free : List Place) (L F L' F' R : List ℕ) (E E' : Exit) (n : ℕ) : Type 0 where
  pub low : (job : ℕ) (place : Place) → cost job place ≤ UNABLE
  pub duals_low : (c : ℕ) → c < n → get_or duals c 0 ≤ UNABLE
  pub uncharged : get_or prices n 0 ≡ 0
  pub some : 0 < length free
  pub far : (c : ℕ) → c < n → get_or L c 0 ≡ FAR
  pub root : get_or L n 0 ≡ 0
  pub from_root : (c : ℕ) → c < n → get_or F c 0 ≡ n
  pub unsettled : (c : ℕ) → c < n → get_or R c 0 ≡ UNSETTLED
  pub root_rank : get_or R n 0 ≡ 0
  pub far_exit : E.length ≡ FAR
  pub relaxed : (c : ℕ) → c < n → IsRelaxed E'.length (get_or R c 0) n (get_or L n 0 + (cost (get_or jobs n 0) (get_or columns c nowhere) + get_or duals c 0 - get_or prices n 0)) (get_or L c 0) (get_or L' c 0) (get_or F c 0) (get_or F' c 0)
  pub rest : get_or L' n 0 ≡ get_or L n 0
  pub exit_every : (f : ℕ) → f < length free → E'.length ≤ get_or L n 0 + (cost (get_or jobs n 0) (get_or free f nowhere) - get_or prices n 0)
  pub exit_edge : (E' ≡ E) ⊎ ((E'.place < length free) × (E'.length ≡ get_or L n 0 + (cost (get_or jobs n 0) (get_or free E'.place nowhere) - get_or prices n 0)) × (E'.from ≡ n))

at_root : {cost : ℕ → Place → ℕ} {jobs prices : List ℕ} {columns : List Place} {duals : List ℕ} {free : List Place} {L F L' F' R : List ℕ} {E E' : Exit} {n : ℕ} → Begins cost jobs prices columns duals free L F L' F' R E E' n → get_or L' n 0 ≡ 0
at_root h = h.rest ∙ h.root

-- a column is reached from the new job, or it is no nearer than the exit
reached : {cost : ℕ → Place → ℕ} {jobs prices : List ℕ} {columns : List Place} {duals : List ℕ} {free : List Place} {L F L' F' R : List ℕ} {E E' : Exit} {n : ℕ} → Begins cost jobs prices columns duals free L F L' F' R E E' n → (c : ℕ) → c < n → ((get_or L' c 0 ≡ cost (get_or jobs n 0) (get_or columns c nowhere) + get_or duals c 0) ⊎ ((get_or L' c 0 ≡ FAR) × (E'.length ≤ cost (get_or jobs n 0) (get_or columns c nowhere) + get_or duals c 0))) × (get_or F' c 0 ≡ n)
reached {cost} {jobs} {columns} {n} h c lt =
    let low = h.low (get_or jobs n 0) (get_or columns c nowhere) in
    let dual = h.duals_low c lt in
    let far = h.far c lt in
    let root = h.root in
    let uncharged = h.uncharged in
    elim (h.relaxed c lt) [
      | inl a ↦ (inr (a.1 ∙ far, omega (arith, a.0)), a.2 ∙ h.from_root c lt)
      | inr r ↦ elim r [
        | inl a ↦ absurd (a.0 (h.unsettled c lt))
        | inr b ↦ elim b [
          | inl a ↦ (inl (omega (arith, a.2)), a.3)
          | inr a ↦ absurd (omega (arith, a.1))
        ]
      ]
    ]

onward_root : {cost : ℕ → Place → ℕ} {jobs prices : List ℕ} {columns : List Place} {duals : List ℕ} {free : List Place} {L F L' F' R : List ℕ} {E E' : Exit} {n : ℕ} → Begins cost jobs prices columns duals free L F L' F' R E E' n → (c : ℕ) → c < n → (get_or L' c 0 + get_or prices n 0 ≤ get_or L' n 0 + (cost (get_or jobs n 0) (get_or columns c nowhere) + get_or duals c 0)) ⊎ (E'.length + get_or prices n 0 ≤ get_or L' n 0 + (cost (get_or jobs n 0) (get_or columns c nowhere) + get_or duals c 0))
onward_root h c lt =
    let uncharged = h.uncharged in
    elim (reached h c lt).0 [
      | inl is ↦ inl (omega (arith, is))
      | inr far ↦ inr (omega (arith, far.1))
    ]

edge_root : {cost : ℕ → Place → ℕ} {jobs prices : List ℕ} {columns : List Place} {duals : List ℕ} {free : List Place} {L F L' F' R : List ℕ} {E E' : Exit} {n : ℕ} → Begins cost jobs prices columns duals free L F L' F' R E E' n → (c : ℕ) → c < n → get_or L' c 0 < FAR → get_or L' c 0 + get_or prices n 0 ≡ get_or L' n 0 + (cost (get_or jobs n 0) (get_or columns c nowhere) + get_or duals c 0)
edge_root h c lt near =
    let uncharged = h.uncharged in
    let root = at_root h in
    elim (reached h c lt).0 [
      | inl is ↦ omega (arith, is)
      | inr far ↦ absurd (omega (arith, far.0))
    ]

-- only the new job is settled
is_root : {cost : ℕ → Place → ℕ} {jobs prices : List ℕ} {columns : List Place} {duals : List ℕ} {free : List Place} {L F L' F' R : List ℕ} {E E' : Exit} {n : ℕ} → Begins cost jobs prices columns duals free L F L' F' R E E' n → (q : ℕ) → q ≤ n → get_or R q 0 ≢ UNSETTLED → q ≡ n
is_root {n} h q le ne = elim (cases_eq q n) [ inl e ↦ e | inr d ↦ absurd (ne (h.unsettled q (omega arith))) ]

exit_near : {cost : ℕ → Place → ℕ} {jobs prices : List ℕ} {columns : List Place} {duals : List ℕ} {free : List Place} {L F L' F' R : List ℕ} {E E' : Exit} {n : ℕ} → Begins cost jobs prices columns duals free L F L' F' R E E' n → E'.length ≤ UNABLE
exit_near {jobs} {free} {n} h = omega (arith, h.exit_every 0 h.some, h.low (get_or jobs n 0) (get_or free 0 nowhere), h.root)

exit_of : {cost : ℕ → Place → ℕ} {jobs prices : List ℕ} {columns : List Place} {duals : List ℕ} {free : List Place} {L F L' F' R : List ℕ} {E E' : Exit} {n : ℕ} → Begins cost jobs prices columns duals free L F L' F' R E E' n → (E'.place < length free) × (E'.length ≡ cost (get_or jobs n 0) (get_or free E'.place nowhere)) × (E'.from ≡ n)
exit_of {n} h = elim h.exit_edge [
  | inl e ↦ absurd (omega (arith, ap (λ (x : Exit). x.length) e, h.far_exit, exit_near h))
  | inr k ↦ (k.0, omega (arith, k.1, h.root, h.uncharged), k.2)
]

pub begun : {cost : ℕ → Place → ℕ} {jobs prices : List ℕ} {columns : List Place} {duals : List ℕ} {free : List Place} {L F L' F' R : List ℕ} {E E' : Exit} {n : ℕ} → Begins cost jobs prices columns duals free L F L' F' R E E' n → IsSearched cost jobs prices columns duals free L' F' R E' 1 n
begun {jobs} {free} {R} {n} h =
    let root = at_root h in
    let uncharged = h.uncharged in
    let root_settled : get_or R n 0 ≢ UNSETTLED = λ e. omega (arith, e, h.root_rank) in
    let out = exit_of h in
    record {
      root = root;
      root_rank = h.root_rank;
      top_above = omega arith;
      ranked = λ q le ne. rw (is_root h q le ne, h.root_rank) (omega arith);
      onward = λ q c le lt ne. rw (is_root h q le ne) (onward_root h c lt);
      out = λ q f le lt ne. rw (is_root h q le ne) (omega (arith, h.exit_every f lt, h.root));
      ordered = λ q c le lt ne e. rw (is_root h q le ne) (omega arith);
      within = λ q le ne. rw (is_root h q le ne) (omega arith);
      origin = λ c lt. rw (reached h c lt).1 (omega arith);
      falling = λ c lt. rw ((reached h c lt).1, h.root_rank, h.unsettled c lt) (omega arith);
      origin_settled = λ c lt. rw (reached h c lt).1 root_settled;
      edge = λ c lt near. rw (reached h c lt).1 (edge_root h c lt near);
      near = exit_near h;
      exit_origin = rw out.2 (omega arith);
      exit_settled = rw out.2 root_settled;
      exit_place = out.0;
      exit_edge = rw out.2 (omega (arith, out.1));
    }

pub nears_begun : {cost : ℕ → Place → ℕ} {jobs prices : List ℕ} {columns : List Place} {duals : List ℕ} {free : List Place} {L F L' F' R : List ℕ} {E E' : Exit} {n : ℕ} → Begins cost jobs prices columns duals free L F L' F' R E E' n → (N : List ℕ) → length N ≡ length free
    → ((f : ℕ) → f < length free → get_or N f 0 ≤ get_or L n 0 + (cost (get_or jobs n 0) (get_or free f nowhere) - get_or prices n 0))
    → AreNears cost jobs prices free L' R N n
nears_begun h N one_each taken = record {
  one_each = one_each;
  at = λ q f le lt ne.
      let uncharged = h.uncharged in
      let here = taken f lt in
      let same = h.rest in
      rw (is_root h q le ne) (omega arith);
}
