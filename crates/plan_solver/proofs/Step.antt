-- One step of the search: the nearest column is settled, and its job's ways are taken.
use Rattle.std.proofs.Common.{◌≡◌, ◌≢◌, ◌⊎◌, ℕ, ◌+◌, ◌-◌, ◌<◌, ◌≤◌, List, length, get_or, ap, sym, subst, inl, inr, ◌∙◌, arith}
use Rattle.std.proofs.lemmas.Bool.{cases_eq}
use Rattle.plan_solver.specs.declared.costs.Place.{Place}
use Rattle.plan_solver.specs.declared.search.Exit.{Exit}
use Rattle.plan_solver.specs.declared.search.TheConstants.{UNSETTLED, FAR}
use Rattle.plan_solver.specs.Costs.{nowhere}
use Rattle.plan_solver.specs.Search.{IsReached, AreNears, IsRelaxed, IsSearched}

pub record Settles (cost : ℕ → Place → ℕ) (jobs prices : List ℕ) (columns : List Place) (duals : List ℕ) (free : List Place) (L F R L' F' R' : List ℕ) (E E' : Exit) (top s n : ℕ) : Type 0 where
  pub fair : (q c : ℕ) → q ≤ n → c < n → get_or prices q 0 ≤ cost (get_or jobs q 0) (get_or columns c nowhere) + get_or duals c 0
  pub fair_free : (q f : ℕ) → q ≤ n → f < length free → get_or prices q 0 ≤ cost (get_or jobs q 0) (get_or free f nowhere)
  pub old : IsSearched cost jobs prices columns duals free L F R E top n
  pub here : s < n
  pub unsettled : get_or R s 0 ≡ UNSETTLED
  pub least : (k : ℕ) → k < n → get_or R k 0 ≡ UNSETTLED → get_or L s 0 ≤ get_or L k 0
  pub nearer : get_or L s 0 < E.length
  pub room : top < UNSETTLED
  pub rank_same : get_or R' s 0 ≡ top
  pub rank_other : (q : ℕ) → q ≢ s → get_or R' q 0 ≡ get_or R q 0
  pub relaxed : (c : ℕ) → c < n → IsRelaxed E'.length (get_or R' c 0) s (get_or L s 0 + (cost (get_or jobs s 0) (get_or columns c nowhere) + get_or duals c 0 - get_or prices s 0)) (get_or L c 0) (get_or L' c 0) (get_or F c 0) (get_or F' c 0)
  pub rest : get_or L' n 0 ≡ get_or L n 0
  pub exit_le : E'.length ≤ E.length
  pub exit_every : (f : ℕ) → f < length free → E'.length ≤ get_or L s 0 + (cost (get_or jobs s 0) (get_or free f nowhere) - get_or prices s 0)
  pub exit_edge : (E' ≡ E) ⊎ ((E'.place < length free) × (E'.length ≡ get_or L s 0 + (cost (get_or jobs s 0) (get_or free E'.place nowhere) - get_or prices s 0)) × (E'.from ≡ s))

reached_le : (rank o x l l' f f' : ℕ) → IsReached rank o x l l' f f' → l' ≤ l
reached_le rank o x l l' f f' h = elim h [ inl a ↦ omega arith | inr b ↦ elim b [ inl a ↦ omega arith | inr a ↦ omega arith ] ]

relaxed_le : (reach rank o x l l' f f' : ℕ) → IsRelaxed reach rank o x l l' f f' → l' ≤ l
relaxed_le reach rank o x l l' f f' h = elim h [ inl a ↦ omega arith | inr b ↦ reached_le rank o x l l' f f' b ]

reached_settled : (rank o x l l' f f' : ℕ) → IsReached rank o x l l' f f' → rank ≢ UNSETTLED → l' ≡ l
reached_settled rank o x l l' f f' h ne = elim h [ inl a ↦ a.1 | inr b ↦ elim b [ inl a ↦ absurd (ne a.0) | inr a ↦ a.2 ] ]

pub relaxed_settled : (reach rank o x l l' f f' : ℕ) → IsRelaxed reach rank o x l l' f f' → rank ≢ UNSETTLED → l' ≡ l
relaxed_settled reach rank o x l l' f f' h ne = elim h [ inl a ↦ a.1 | inr b ↦ reached_settled rank o x l l' f f' b ne ]

reached_by : (rank o x l l' f f' : ℕ) → IsReached rank o x l l' f f' → rank ≡ UNSETTLED → l' ≤ x
reached_by rank o x l l' f f' h e = elim h [ inl a ↦ absurd (a.0 e) | inr b ↦ elim b [ inl a ↦ omega arith | inr a ↦ omega arith ] ]

relaxed_by : (reach rank o x l l' f f' : ℕ) → IsRelaxed reach rank o x l l' f f' → rank ≡ UNSETTLED → (l' ≤ x) ⊎ (reach ≤ x)
relaxed_by reach rank o x l l' f f' h e = elim h [ inl a ↦ inr a.0 | inr b ↦ inl (reached_by rank o x l l' f f' b e) ]

reached_either : (rank o x l l' f f' : ℕ) → IsReached rank o x l l' f f' → ((l' ≡ l) × (f' ≡ f)) ⊎ ((rank ≡ UNSETTLED) × (l' ≡ x) × (f' ≡ o))
reached_either rank o x l l' f f' h = elim h [ inl a ↦ inl (a.1, a.2) | inr b ↦ elim b [ inl a ↦ inr (a.0, a.2, a.3) | inr a ↦ inl (a.2, a.3) ] ]

-- a relaxed column is as it was, or it is reached from the settled one
relaxed_either : (reach rank o x l l' f f' : ℕ) → IsRelaxed reach rank o x l l' f f' → ((l' ≡ l) × (f' ≡ f)) ⊎ ((rank ≡ UNSETTLED) × (l' ≡ x) × (f' ≡ o))
relaxed_either reach rank o x l l' f f' h = elim h [ inl a ↦ inl (a.1, a.2) | inr b ↦ reached_either rank o x l l' f f' b ]

length_le : {cost : ℕ → Place → ℕ} {jobs prices : List ℕ} {columns : List Place} {duals : List ℕ} {free : List Place} {L F R L' F' R' : List ℕ} {E E' : Exit} {top s n : ℕ} → Settles cost jobs prices columns duals free L F R L' F' R' E E' top s n → (c : ℕ) → c < n → get_or L' c 0 ≤ get_or L c 0
length_le h c lt = relaxed_le _ _ _ _ _ _ _ _ (h.relaxed c lt)

length_same : {cost : ℕ → Place → ℕ} {jobs prices : List ℕ} {columns : List Place} {duals : List ℕ} {free : List Place} {L F R L' F' R' : List ℕ} {E E' : Exit} {top s n : ℕ} → Settles cost jobs prices columns duals free L F R L' F' R' E E' top s n → (q : ℕ) → q ≤ n → get_or R' q 0 ≢ UNSETTLED → get_or L' q 0 ≡ get_or L q 0
length_same {L} {L'} {n} h q le ne = elim (cases_eq q n) [
  | inl e ↦ rw e h.rest
  | inr d ↦ relaxed_settled _ _ _ _ _ _ _ _ (h.relaxed q (omega arith)) ne
]

-- a settled column stays settled
was_settled : {cost : ℕ → Place → ℕ} {jobs prices : List ℕ} {columns : List Place} {duals : List ℕ} {free : List Place} {L F R L' F' R' : List ℕ} {E E' : Exit} {top s n : ℕ} → Settles cost jobs prices columns duals free L F R L' F' R' E E' top s n → (q : ℕ) → get_or R q 0 ≢ UNSETTLED → (q ≢ s) × (get_or R' q 0 ≡ get_or R q 0)
was_settled {R} h q ne =
    let apart : q ≢ _ = λ e. ne (ap (λ x. get_or R x 0) e ∙ h.unsettled) in
    (apart, h.rank_other q apart)

-- a column that is settled now is the column of the step, or was settled before
settled_now : {cost : ℕ → Place → ℕ} {jobs prices : List ℕ} {columns : List Place} {duals : List ℕ} {free : List Place} {L F R L' F' R' : List ℕ} {E E' : Exit} {top s n : ℕ} → Settles cost jobs prices columns duals free L F R L' F' R' E E' top s n → (q : ℕ) → get_or R' q 0 ≢ UNSETTLED → (q ≡ s) ⊎ ((q ≢ s) × (get_or R q 0 ≢ UNSETTLED))
settled_now {s} h q ne = elim (cases_eq q s) [
  | inl e ↦ inl e
  | inr d ↦ inr (d, λ e. ne (h.rank_other q d ∙ e))
]

open_now : {cost : ℕ → Place → ℕ} {jobs prices : List ℕ} {columns : List Place} {duals : List ℕ} {free : List Place} {L F R L' F' R' : List ℕ} {E E' : Exit} {top s n : ℕ} → Settles cost jobs prices columns duals free L F R L' F' R' E E' top s n → (c : ℕ) → get_or R' c 0 ≡ UNSETTLED → get_or R c 0 ≡ UNSETTLED
open_now {s} h c e = elim (cases_eq c s) [
  | inl same ↦ rw same h.unsettled
  | inr d ↦ sym (h.rank_other c d) ∙ e
]

onward_here : {cost : ℕ → Place → ℕ} {jobs prices : List ℕ} {columns : List Place} {duals : List ℕ} {free : List Place} {L F R L' F' R' : List ℕ} {E E' : Exit} {top s n : ℕ} → Settles cost jobs prices columns duals free L F R L' F' R' E E' top s n → (c : ℕ) → c < n → (get_or L' c 0 + get_or prices s 0 ≤ get_or L s 0 + (cost (get_or jobs s 0) (get_or columns c nowhere) + get_or duals c 0)) ⊎ (E'.length + get_or prices s 0 ≤ get_or L s 0 + (cost (get_or jobs s 0) (get_or columns c nowhere) + get_or duals c 0))
onward_here {L} {R'} {s} {n} h c lt =
    let fair = h.fair s c (omega (arith, h.here)) lt in
    elim (cases_eq (get_or R' c 0) UNSETTLED) [
      | inl e ↦ elim (relaxed_by _ _ _ _ _ _ _ _ (h.relaxed c lt) e) [
        | inl by ↦ inl (omega arith)
        | inr far ↦ inr (omega arith)
      ]
      | inr ne ↦
          let same = length_same h c (omega arith) ne in
          elim (settled_now h c ne) [
            | inl e ↦ let le : get_or L c 0 ≤ get_or L s 0 = rw e (omega arith) in inl (omega arith)
            | inr d ↦ let le = h.old.ordered c s (omega arith) h.here d.1 h.unsettled in inl (omega arith)
          ]
    ]

onward_now : {cost : ℕ → Place → ℕ} {jobs prices : List ℕ} {columns : List Place} {duals : List ℕ} {free : List Place} {L F R L' F' R' : List ℕ} {E E' : Exit} {top s n : ℕ} → Settles cost jobs prices columns duals free L F R L' F' R' E E' top s n → (q c : ℕ) → q ≤ n → c < n → get_or R' q 0 ≢ UNSETTLED → (get_or L' c 0 + get_or prices q 0 ≤ get_or L' q 0 + (cost (get_or jobs q 0) (get_or columns c nowhere) + get_or duals c 0)) ⊎ (E'.length + get_or prices q 0 ≤ get_or L' q 0 + (cost (get_or jobs q 0) (get_or columns c nowhere) + get_or duals c 0))
onward_now {L} {R'} {s} {n} h q c le lt ne =
    let same = length_same h q le ne in
    let less = length_le h c lt in
    let nearer = h.exit_le in
    elim (settled_now h q ne) [
      | inl e ↦ rw same (rw e (onward_here h c lt))
      | inr d ↦ elim (h.old.onward q c le lt d.1) [
        | inl old ↦ inl (omega arith)
        | inr old ↦ inr (omega arith)
      ]
    ]

out_now : {cost : ℕ → Place → ℕ} {jobs prices : List ℕ} {columns : List Place} {duals : List ℕ} {free : List Place} {L F R L' F' R' : List ℕ} {E E' : Exit} {top s n : ℕ} → Settles cost jobs prices columns duals free L F R L' F' R' E E' top s n → (q f : ℕ) → q ≤ n → f < length free → get_or R' q 0 ≢ UNSETTLED → E'.length + get_or prices q 0 ≤ get_or L' q 0 + cost (get_or jobs q 0) (get_or free f nowhere)
out_now {L} {R'} {s} {n} h q f le lt ne =
    let same = length_same h q le ne in
    let less = h.exit_le in
    elim (settled_now h q ne) [
      | inl e ↦
          let every = h.exit_every f lt in
          let fair = h.fair_free s f (omega (arith, h.here)) lt in
          rw same (rw e (omega arith))
      | inr d ↦ let old = h.old.out q f le lt d.1 in omega arith
    ]

-- a column that is settled now is no farther than the column of the step
before_here : {cost : ℕ → Place → ℕ} {jobs prices : List ℕ} {columns : List Place} {duals : List ℕ} {free : List Place} {L F R L' F' R' : List ℕ} {E E' : Exit} {top s n : ℕ} → Settles cost jobs prices columns duals free L F R L' F' R' E E' top s n → (q : ℕ) → q ≤ n → get_or R' q 0 ≢ UNSETTLED → get_or L q 0 ≤ get_or L s 0
before_here {s} {n} h q le ne = elim (settled_now h q ne) [
  | inl e ↦ rw e (omega arith)
  | inr d ↦ h.old.ordered q s le h.here d.1 h.unsettled
]

ordered_now : {cost : ℕ → Place → ℕ} {jobs prices : List ℕ} {columns : List Place} {duals : List ℕ} {free : List Place} {L F R L' F' R' : List ℕ} {E E' : Exit} {top s n : ℕ} → Settles cost jobs prices columns duals free L F R L' F' R' E E' top s n → (q c : ℕ) → q ≤ n → c < n → get_or R' q 0 ≢ UNSETTLED → get_or R' c 0 ≡ UNSETTLED → get_or L' q 0 ≤ get_or L' c 0
ordered_now h q c le lt ne e =
    let same = length_same h q le ne in
    let before = before_here h q le ne in
    elim (relaxed_either _ _ _ _ _ _ _ _ (h.relaxed c lt)) [
      | inl k ↦ let least = h.least c lt (open_now h c e) in let kept = k.0 in omega arith
      | inr k ↦ let got = k.1 in omega arith
    ]

within_now : {cost : ℕ → Place → ℕ} {jobs prices : List ℕ} {columns : List Place} {duals : List ℕ} {free : List Place} {L F R L' F' R' : List ℕ} {E E' : Exit} {top s n : ℕ} → Settles cost jobs prices columns duals free L F R L' F' R' E E' top s n → (q : ℕ) → q ≤ n → get_or R' q 0 ≢ UNSETTLED → get_or L' q 0 ≤ E'.length
within_now {E} {E'} h q le ne =
    let same = length_same h q le ne in
    let before = before_here h q le ne in
    let nearer = h.nearer in
    elim h.exit_edge [
      | inl e ↦ let is = ap (λ (x : Exit). x.length) e in omega arith
      | inr k ↦ let got = k.1 in omega arith
    ]

origin_now : {cost : ℕ → Place → ℕ} {jobs prices : List ℕ} {columns : List Place} {duals : List ℕ} {free : List Place} {L F R L' F' R' : List ℕ} {E E' : Exit} {top s n : ℕ} → Settles cost jobs prices columns duals free L F R L' F' R' E E' top s n → (c : ℕ) → c < n → get_or F' c 0 ≤ n
origin_now {n} h c lt = elim (relaxed_either _ _ _ _ _ _ _ _ (h.relaxed c lt)) [
  | inl k ↦ rw k.1 (h.old.origin c lt)
  | inr k ↦ rw k.2 (omega (arith, h.here))
]

rank_top : {cost : ℕ → Place → ℕ} {jobs prices : List ℕ} {columns : List Place} {duals : List ℕ} {free : List Place} {L F R L' F' R' : List ℕ} {E E' : Exit} {top s n : ℕ} → Settles cost jobs prices columns duals free L F R L' F' R' E E' top s n → get_or R' s 0 ≢ UNSETTLED
rank_top h e = omega (arith, h.rank_same, h.room)

origin_settled_now : {cost : ℕ → Place → ℕ} {jobs prices : List ℕ} {columns : List Place} {duals : List ℕ} {free : List Place} {L F R L' F' R' : List ℕ} {E E' : Exit} {top s n : ℕ} → Settles cost jobs prices columns duals free L F R L' F' R' E E' top s n → (c : ℕ) → c < n → get_or R' (get_or F' c 0) 0 ≢ UNSETTLED
origin_settled_now h c lt = elim (relaxed_either _ _ _ _ _ _ _ _ (h.relaxed c lt)) [
  | inl k ↦ rw k.1 (λ e. h.old.origin_settled c lt (sym (was_settled h _ (h.old.origin_settled c lt)).1 ∙ e))
  | inr k ↦ rw k.2 (rank_top h)
]

falling_now : {cost : ℕ → Place → ℕ} {jobs prices : List ℕ} {columns : List Place} {duals : List ℕ} {free : List Place} {L F R L' F' R' : List ℕ} {E E' : Exit} {top s n : ℕ} → Settles cost jobs prices columns duals free L F R L' F' R' E E' top s n → (c : ℕ) → c < n → get_or R' (get_or F' c 0) 0 < get_or R' c 0
falling_now {F} {R} {R'} {top} {s} h c lt = elim (relaxed_either _ _ _ _ _ _ _ _ (h.relaxed c lt)) [
  | inl k ↦
      let was = was_settled h (get_or F c 0) (h.old.origin_settled c lt) in
      let falls = h.old.falling c lt in
      let low = h.old.ranked (get_or F c 0) (h.old.origin c lt) (h.old.origin_settled c lt) in
      rw (k.1, was.1) (elim (cases_eq c s) [
        | inl e ↦ let at : get_or R' c 0 ≡ top = rw e h.rank_same in omega arith
        | inr d ↦ let at = h.rank_other c d in omega arith
      ])
  | inr k ↦ let at = k.0 in let same = h.rank_same in let room = h.room in rw k.2 (omega arith)
]

edge_now : {cost : ℕ → Place → ℕ} {jobs prices : List ℕ} {columns : List Place} {duals : List ℕ} {free : List Place} {L F R L' F' R' : List ℕ} {E E' : Exit} {top s n : ℕ} → Settles cost jobs prices columns duals free L F R L' F' R' E E' top s n → (c : ℕ) → c < n → get_or L' c 0 < FAR → get_or L' c 0 + get_or prices (get_or F' c 0) 0 ≡ get_or L' (get_or F' c 0) 0 + (cost (get_or jobs (get_or F' c 0) 0) (get_or columns c nowhere) + get_or duals c 0)
edge_now {L} {F} {s} {n} h c lt near = elim (relaxed_either _ _ _ _ _ _ _ _ (h.relaxed c lt)) [
  | inl k ↦
      let was = was_settled h (get_or F c 0) (h.old.origin_settled c lt) in
      let same = length_same h (get_or F c 0) (h.old.origin c lt) (λ e. h.old.origin_settled c lt (sym was.1 ∙ e)) in
      let edge = h.old.edge c lt (omega (arith, k.0)) in
      rw (k.1, k.0, same) edge
  | inr k ↦
      let same = length_same h s (omega (arith, h.here)) (rank_top h) in
      let fair = h.fair s c (omega (arith, h.here)) lt in
      rw (k.2, k.1, same) (omega arith)
]

ranked_now : {cost : ℕ → Place → ℕ} {jobs prices : List ℕ} {columns : List Place} {duals : List ℕ} {free : List Place} {L F R L' F' R' : List ℕ} {E E' : Exit} {top s n : ℕ} → Settles cost jobs prices columns duals free L F R L' F' R' E E' top s n → (q : ℕ) → q ≤ n → get_or R' q 0 ≢ UNSETTLED → get_or R' q 0 < top + 1
ranked_now h q le ne = elim (settled_now h q ne) [
  | inl e ↦ rw (e, h.rank_same) (omega arith)
  | inr d ↦ let old = h.old.ranked q le d.1 in let at = h.rank_other q d.0 in omega arith
]

exit_now : {cost : ℕ → Place → ℕ} {jobs prices : List ℕ} {columns : List Place} {duals : List ℕ} {free : List Place} {L F R L' F' R' : List ℕ} {E E' : Exit} {top s n : ℕ} → Settles cost jobs prices columns duals free L F R L' F' R' E E' top s n → (E'.from ≤ n) × (get_or R' E'.from 0 ≢ UNSETTLED) × (E'.place < length free) × (E'.length + get_or prices E'.from 0 ≡ get_or L' E'.from 0 + cost (get_or jobs E'.from 0) (get_or free E'.place nowhere))
exit_now {cost} {jobs} {prices} {free} {L} {L'} {R'} {E} {E'} {s} {n} h = elim h.exit_edge [
  | inl e ↦
      let was = was_settled h E.from h.old.exit_settled in
      let now : get_or R' E.from 0 ≢ UNSETTLED = λ x. h.old.exit_settled (sym was.1 ∙ x) in
      let same = length_same h E.from h.old.exit_origin now in
      let P : Exit → Type 0 = λ x. (x.from ≤ n) × (get_or R' x.from 0 ≢ UNSETTLED) × (x.place < length free) × (x.length + get_or prices x.from 0 ≡ get_or L' x.from 0 + cost (get_or jobs x.from 0) (get_or free x.place nowhere)) in
      subst P (sym e) (h.old.exit_origin, now, h.old.exit_place, rw same h.old.exit_edge)
  | inr k ↦
      let same = length_same h s (omega (arith, h.here)) (rank_top h) in
      let fair = h.fair_free s E'.place (omega (arith, h.here)) k.0 in
      rw k.2 (omega (arith, h.here), rank_top h, k.0, rw (k.1, same) (omega arith))
]

-- the search goes on
pub searched_now : {cost : ℕ → Place → ℕ} {jobs prices : List ℕ} {columns : List Place} {duals : List ℕ} {free : List Place} {L F R L' F' R' : List ℕ} {E E' : Exit} {top s n : ℕ} → Settles cost jobs prices columns duals free L F R L' F' R' E E' top s n → get_or R' n 0 ≡ 0 → IsSearched cost jobs prices columns duals free L' F' R' E' (top + 1) n
searched_now h root = record {
  root = h.rest ∙ h.old.root;
  root_rank = root;
  top_above = omega arith;
  ranked = ranked_now h;
  onward = onward_now h;
  out = out_now h;
  ordered = ordered_now h;
  within = within_now h;
  origin = origin_now h;
  falling = falling_now h;
  origin_settled = origin_settled_now h;
  edge = edge_now h;
  near = omega (arith, h.exit_le, h.old.near);
  exit_origin = (exit_now h).0;
  exit_settled = (exit_now h).1;
  exit_place = (exit_now h).2;
  exit_edge = (exit_now h).3;
}

-- the distances of the free places are kept
pub nears_now : {cost : ℕ → Place → ℕ} {jobs prices : List ℕ} {columns : List Place} {duals : List ℕ} {free : List Place} {L F R L' F' R' : List ℕ} {E E' : Exit} {top s n : ℕ} → Settles cost jobs prices columns duals free L F R L' F' R' E E' top s n → (N N' : List ℕ) → AreNears cost jobs prices free L R N n → length N' ≡ length free
    → ((f : ℕ) → f < length free → get_or N' f 0 ≤ get_or N f 0)
    → ((f : ℕ) → f < length free → get_or N' f 0 ≤ get_or L s 0 + (cost (get_or jobs s 0) (get_or free f nowhere) - get_or prices s 0))
    → AreNears cost jobs prices free L' R' N' n
nears_now {L} {R'} {s} {n} h N N' old one_each kept taken = record {
  one_each = one_each;
  at = λ q f le lt ne.
      let same = length_same h q le ne in
      elim (settled_now h q ne) [
        | inl e ↦
            let fair = h.fair_free s f (omega (arith, h.here)) lt in
            let here = taken f lt in
            rw same (rw e (omega arith))
        | inr d ↦ let was = old.at q f le lt d.1 in let less = kept f lt in omega arith
      ];
}
