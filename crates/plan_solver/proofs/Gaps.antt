-- No gap can be where all free places are shown: the place taken is the next one of its device.
use Rattle.std.proofs.Common.{◌≡◌, ◌≢◌, ◌⊎◌, ℕ, ◌+◌, ◌<◌, ◌≤◌, List, [], ◌∷◌, ◌++◌, length, vec_len, get_or, take, ap, sym, ◌∙◌, refl, arith, inl, inr, All, Contains}
use Rattle.std.specs.List.Sorted.{IsPermutation}
use Rattle.std.proofs.Math.Seq.{take-length}
use Rattle.std.proofs.lemmas.Bool.{cases_eq, cases_lt}
use Rattle.std.proofs.lemmas.List.{get_or_push, get_or_append_left, get_or_default, take-append-le, length_push}
use Rattle.std.proofs.lemmas.List.Elements.{All-push, Contains-append_left, Contains-get_or, Contains-push, Contains-push_cases}
use Rattle.std.proofs.lemmas.List.Sorted.{All-permutation}
use Rattle.plan_solver.specs.declared.costs.Costs.{Costs}
use Rattle.plan_solver.specs.declared.costs.Place.{Place}
use Rattle.plan_solver.specs.declared.costs.TheConstants.{UNABLE}
use Rattle.plan_solver.specs.declared.matching.Matching.{Matching}
use Rattle.plan_solver.specs.Costs.{cost_of, nowhere}
use Rattle.plan_solver.specs.Matching.{IsFair, IsFairlyMatched}
use Rattle.plan_solver.specs.Layout.{IsFilled, IsLaid, taken}
use Rattle.plan_solver.specs.AllPlaces.{CanFill, ShowsAll, place_on}
use Rattle.plan_solver.proofs.Laid.{on, on-other, on-same, matched_with, taken-le, taken-none, taken-push}

pub place_is : (p : Place) (d after : ℕ) → p.device ≡ d → p.after ≡ after → p ≡ place_on d after
place_is p d after ed ea = ap (λ (x : ℕ). place_on x p.after) ed ∙ ap (λ (y : ℕ). place_on d y) ea

-- one place more
pub pushed_there : (places : List Place) (device m : ℕ) → ((k : ℕ) → k < m → Contains places (place_on device k)) → (k : ℕ) → k < m + 1 → Contains (places ++ place_on device m ∷ []) (place_on device k)
pushed_there places device m h k lt = elim (cases_eq k m) [
  | inl e ↦ rw e (Contains-push places (place_on device m))
  | inr ne ↦ Contains-append_left places (place_on device m ∷ []) (place_on device k) (h k (omega arith))
]

pub pushed_only : (old places : List Place) (device m : ℕ) → ((p : Place) → Contains places p → Contains old p ⊎ (p.device ≡ device)) → (p : Place) → Contains (places ++ place_on device m ∷ []) p → Contains old p ⊎ (p.device ≡ device)
pushed_only old places device m h p found = elim (Contains-push_cases places (place_on device m) p found) [
  | inl before ↦ h p before
  | inr e ↦ inr (ap (λ (q : Place). q.device) (sym e))
]

-- a free place where the price is fair
free_at : (cost : ℕ → Place → ℕ) (jobs prices : List ℕ) (free : List Place) → IsFair cost jobs prices free [] → (q : ℕ) → q < length jobs → (p : Place) → Contains free p → get_or prices q 0 ≤ cost (get_or jobs q 0) p
free_at cost jobs prices free fair q lq p found =
    let at : get_or free found.0 nowhere ≡ p = get_or_default free found.0 nowhere p found.1 ∙ found.2 in
    rw (← at) (omega (arith, fair.at q found.0 lq found.1))

-- no job is charged as much as a device that isn't able costs
price_below : (costs : Costs) (s : Matching) (columns free : List Place) → CanFill costs → IsFairlyMatched (cost_of costs) s free → ShowsAll costs columns free → length columns ≤ vec_len costs.rows → All (λ j. j < vec_len costs.rows) s.jobs.items → (q : ℕ) → q < length s.jobs.items → get_or s.prices.items q 0 < UNABLE
price_below costs s columns free fill h show few known q lq =
    let at = fill.placed (get_or s.jobs.items q 0) (known q 0 lq) in
    let k = taken at.0 columns in
    let le : k ≤ vec_len costs.rows = omega (arith, taken-le at.0 columns, few) in
    omega (arith, free_at (cost_of costs) s.jobs.items s.prices.items free h.fair_free q lq (place_on at.0 k) (show.there at.0 k at.1 (omega arith) le), at.2 k le)

-- the new column is the next place of its device
pub taken_next : (costs : Costs) (s : Matching) (columns free : List Place) (p : Place) → CanFill costs → IsFairlyMatched (cost_of costs) s free → ShowsAll costs columns free → length columns < vec_len costs.rows → All (λ j. j < vec_len costs.rows) s.jobs.items → s.columns.items ≡ columns ++ p ∷ [] → Contains free p → p.after ≡ taken p.device columns
taken_next costs s columns free p fill h show few known es found =
    let n = length columns in
    let only = show.only p found in
    let k = taken p.device columns in
    elim (cases_lt k p.after) [
      | inr past ↦ omega (arith, past, only.1)
      | inl gap ↦
          let in_columns : n < length s.columns.items = omega (arith, ap length es, length_push columns p) in
          let in_jobs : n < length s.jobs.items = omega (arith, in_columns, s.jobs.ok.0, s.columns.ok.0, h.jobs) in
          let spot : get_or s.columns.items n nowhere ≡ p = rw es (get_or_push columns p nowhere n refl) in
          let tight = h.tight.at n in_columns in
          let low = price_below costs s columns free fill h show (omega arith) known n in_jobs in
          let j = get_or s.jobs.items n 0 in
          let here : cost_of costs j (get_or s.columns.items n nowhere) ≡ cost_of costs j (place_on p.device p.after) = ap (λ x. cost_of costs j x) spot in
          let free_one = free_at (cost_of costs) s.jobs.items s.prices.items free h.fair_free n in_jobs (place_on p.device k) (show.there p.device k only.0 (omega arith) (omega (arith, taken-le p.device columns, few))) in
          absurd (omega (arith, tight, low, here, free_one, fill.rises j p.device k p.after (known n 0 in_jobs) only.0 gap (omega (arith, tight, low, here))))
    ]

pub laid_next : (devices : ℕ) (columns columns' : List Place) (p : Place) → IsLaid devices columns → p.device < devices → p.after ≡ taken p.device columns → columns' ≡ columns ++ p ∷ [] → IsLaid devices columns'
laid_next devices columns columns' p h lt ea es =
    let new : get_or (columns ++ p ∷ []) (length columns) nowhere ≡ p = get_or_push columns p nowhere (length columns) refl in
    let whole : take (length columns) (columns ++ p ∷ []) ≡ columns = take-append-le (length columns) columns (p ∷ []) (omega arith) ∙ take-length columns in
    record {
      known = λ c below. elim (cases_eq c (length columns)) [
        | inl e ↦ rw (es, e, new) lt
        | inr ne ↦
            let before : c < length columns = omega (arith, below, ap length es, length_push columns p) in
            rw (es, get_or_append_left columns (p ∷ []) nowhere c before) (h.known c before)
      ];
      places = λ c below. elim (cases_eq c (length columns)) [
        | inl e ↦ rw (es, e, new, whole) ea
        | inr ne ↦
            let before : c < length columns = omega (arith, below, ap length es, length_push columns p) in
            let prefix : take c (columns ++ p ∷ []) ≡ take c columns = take-append-le c columns (p ∷ []) (omega arith) in
            rw (es, get_or_append_left columns (p ∷ []) nowhere c before, prefix) (h.places c before)
      ];
    }

-- the places that are left
pub shows_left : (costs : Costs) (columns columns' free left : List Place) (p : Place) → ShowsAll costs columns free → p.after ≡ taken p.device columns → columns' ≡ columns ++ p ∷ []
    → ((x : Place) → Contains free x → x ≢ p → Contains left x) → ((x : Place) → Contains left x → Contains free x × (x ≢ p)) → ShowsAll costs columns' left
shows_left costs columns columns' free left p show ea es kept only =
    let more : (d : ℕ) → taken d columns' ≡ taken d columns + on d p = λ d. ap (λ l. taken d l) es ∙ taken-push d p columns in
    record {
      there = λ d k ld le lk. elim (cases_eq p.device d) [
        | inl e ↦
            let count : taken d columns' ≡ taken d columns + 1 = omega (arith, more d, on-same d p e) in
            let same : taken p.device columns ≡ taken d columns = ap (λ x. taken x columns) e in
            kept (place_on d k) (show.there d k ld (omega (arith, le, count)) lk) (λ q. omega (arith, ap (λ (x : Place). x.after) q, ea, same, le, count))
        | inr ne ↦
            kept (place_on d k) (show.there d k ld (omega (arith, le, more d, on-other d p ne)) lk) (λ q. ne (sym (ap (λ (x : Place). x.device) q)))
      ];
      only = λ x found.
          let was = only x found in
          let old = show.only x was.0 in
          elim (cases_eq p.device x.device) [
            | inl e ↦
                let same : taken p.device columns ≡ taken x.device columns = ap (λ y. taken y columns) e in
                let apart : x.after ≢ p.after = λ q. was.1 (place_is x p.device p.after (sym e) q) in
                (old.0, omega (arith, old.1, more x.device, on-same x.device p e, same, ea, apart))
            | inr ne ↦ (old.0, omega (arith, old.1, more x.device, on-other x.device p ne))
          ];
    }

pub matched_left : (costs : Costs) (s : Matching) (free left : List Place) (p : Place) → IsFairlyMatched (cost_of costs) s free → ((x : Place) → Contains left x → Contains free x × (x ≢ p)) → IsFairlyMatched (cost_of costs) s left
matched_left costs s free left p h only = matched_with costs s free left h (record {
  at = λ q k lq lk. omega (arith, free_at (cost_of costs) s.jobs.items s.prices.items free h.fair_free q lq (get_or left k nowhere) (only (get_or left k nowhere) (Contains-get_or left k nowhere lk)).0);
})

pub known_more : (bound : ℕ) (old new : List ℕ) (job : ℕ) → All (λ j. j < bound) old → job < bound → IsPermutation (old ++ job ∷ []) new → All (λ j. j < bound) new
known_more bound old new job h lt p = All-permutation (λ j. j < bound) (old ++ job ∷ []) new p (All-push (λ j. j < bound) old job h lt)

pub some_free : (costs : Costs) (columns free : List Place) (job : ℕ) → CanFill costs → ShowsAll costs columns free → job < vec_len costs.rows → length columns ≤ vec_len costs.rows → 0 < length free
some_free costs columns free job fill show lj few =
    let at = fill.placed job lj in
    let found = show.there at.0 (taken at.0 columns) at.1 (omega arith) (omega (arith, taken-le at.0 columns, few)) in
    omega (arith, found.1)

pub filled_all : (costs : Costs) (s : Matching) (free : List Place) → IsFairlyMatched (cost_of costs) s free → IsLaid (vec_len costs.waits) s.columns.items → ShowsAll costs s.columns.items free → length s.columns.items ≤ vec_len costs.rows → IsFilled costs s
filled_all costs s free h laid show few = record {
  matched = matched_with costs s free [] h (record { at = λ q k lq lk. absurd (omega (arith, lk)) });
  laid = laid;
  next = λ q d lq ld. free_at (cost_of costs) s.jobs.items s.prices.items free h.fair_free q (omega (arith, lq, h.jobs, s.jobs.ok.0)) (place_on d (taken d s.columns.items)) (show.there d (taken d s.columns.items) ld (omega arith) (omega (arith, taken-le d s.columns.items, few)));
}

-- one place of a list more is kept, unless it is the one that is taken
pub kept_more : (places left left' : List Place) (taken_one : Place) (i : ℕ) → i < length places
    → ((get_or places i nowhere ≢ taken_one) × (left' ≡ left ++ get_or places i nowhere ∷ [])) ⊎ ((get_or places i nowhere ≡ taken_one) × (left' ≡ left))
    → ((k : ℕ) → k < i → get_or places k nowhere ≢ taken_one → Contains left (get_or places k nowhere))
    → (k : ℕ) → k < i + 1 → get_or places k nowhere ≢ taken_one → Contains left' (get_or places k nowhere)
kept_more places left left' taken_one i lt step h k below ne = elim (cases_eq k i) [
  | inl e ↦ elim step [
    | inl s ↦ rw (s.1, e) (Contains-push left (get_or places i nowhere))
    | inr s ↦ absurd (ne (ap (λ x. get_or places x nowhere) e ∙ s.0))
  ]
  | inr other ↦
      let before = h k (omega arith) ne in
      elim step [
        | inl s ↦ rw s.1 (Contains-append_left left (get_or places i nowhere ∷ []) (get_or places k nowhere) before)
        | inr s ↦ rw s.1 before
      ]
]

pub only_more : (places left left' : List Place) (taken_one : Place) (i : ℕ) → i < length places
    → ((get_or places i nowhere ≢ taken_one) × (left' ≡ left ++ get_or places i nowhere ∷ [])) ⊎ ((get_or places i nowhere ≡ taken_one) × (left' ≡ left))
    → ((p : Place) → Contains left p → Contains places p × (p ≢ taken_one))
    → (p : Place) → Contains left' p → Contains places p × (p ≢ taken_one)
only_more places left left' taken_one i lt step h p found = elim step [
  | inr s ↦ h p (rw (← s.1) found)
  | inl s ↦ elim (Contains-push_cases left (get_or places i nowhere) p (rw (← s.1) found)) [
    | inl before ↦ h p before
    | inr e ↦ (rw (← e) (Contains-get_or places i nowhere lt), λ q. s.0 (e ∙ q))
  ]
]

pub kept_all : (places left : List Place) (taken_one : Place) (i : ℕ) → length places ≤ i
    → ((k : ℕ) → k < i → get_or places k nowhere ≢ taken_one → Contains left (get_or places k nowhere))
    → (p : Place) → Contains places p → p ≢ taken_one → Contains left p
kept_all places left taken_one i le h p found ne =
    let at : get_or places found.0 nowhere ≡ p = get_or_default places found.0 nowhere p found.1 ∙ found.2 in
    rw (← at) (h found.0 (omega (arith, found.1, le)) (λ q. ne (sym at ∙ q)))

-- one device more
pub devices_there : (devices : ℕ) (jobs : ℕ) (old new : List Place)
    → ((d k : ℕ) → d < devices → k ≤ jobs → Contains old (place_on d k))
    → ((p : Place) → Contains old p → Contains new p) → ((k : ℕ) → k ≤ jobs → Contains new (place_on devices k))
    → (d k : ℕ) → d < devices + 1 → k ≤ jobs → Contains new (place_on d k)
devices_there devices jobs old new h kept here d k lt le = elim (cases_eq d devices) [
  | inl e ↦ rw e (here k le)
  | inr ne ↦ kept (place_on d k) (h d k (omega arith) le)
]

pub devices_only : (devices : ℕ) (old new : List Place)
    → ((p : Place) → Contains old p → p.device < devices)
    → ((p : Place) → Contains new p → Contains old p ⊎ (p.device ≡ devices))
    → (p : Place) → Contains new p → p.device < devices + 1
devices_only devices old new h only p found = elim (only p found) [
  | inl before ↦ omega (arith, h p before)
  | inr e ↦ omega (arith, e)
]

pub shows_first : (costs : Costs) (columns free : List Place) → columns ≡ [] → ((d k : ℕ) → d < vec_len costs.waits → k ≤ vec_len costs.rows → Contains free (place_on d k)) → ((p : Place) → Contains free p → p.device < vec_len costs.waits) → ShowsAll costs columns free
shows_first costs columns free e there only = record {
  there = λ d k ld le lk. there d k ld lk;
  only = λ p found. (only p found, rw (e, taken-none) (omega arith));
}
