-- The slot of a job in a way's own timetable is the one that a search finds.
use Rattle.std.proofs.Common.{◌≡◌, ◌==◌, ℕ, zero, suc, ◌+◌, ◌<◌, ◌≤◌, List, [], ◌∷◌, ◌++◌, length, get_or, refl, ap, ◌∙◌, subst, arith, Contains, Some, count_by, cond, inl, inr, codes, slice_index_or}
use Rattle.std.specs.List.{concat, find}
use Rattle.std.specs.Fmt.{decimal}
use Rattle.std.specs.Option.{option_map_or}
use Rattle.std.proofs.lemmas.Bool.{cases_eq, eq-eqb, ne_eqb}
use Rattle.std.proofs.lemmas.List.{get_or_default}
use Rattle.std.proofs.lemmas.List.Sums.{sum_by-cons}
use Rattle.plan_problem.specs.Class.{Class}
use Rattle.plan_prices.specs.declared.plan.PlannedClass.{PlannedClass}
use Rattle.plan_prices.specs.Way.{IsWay, times_named}
use Rattle.plan_prices.specs.Total.{time_on}
use Rattle.plan_prices.specs.Timetable.{Slot, IsTimetable, own_slots, slots_naming}
use Rattle.plan_prices.proofs.Names.{of_counted}
use Rattle.plan_audit.specs.Check.{start_line, job_start}

abbrev naming : List Slot → ℕ → ℕ
naming slots job = count_by (λ slot. slot.job == job) slots

abbrev one_if : ℕ → Slot → ℕ
one_if job slot = cond (slot.job == job) 1 0

naming-cons : (x : Slot) (xs : List Slot) (job : ℕ) → naming (x ∷ xs) job ≡ one_if job x + naming xs job
naming-cons x xs job = sum_by-cons (one_if job) x xs

one_same : (x : Slot) (job : ℕ) → x.job ≡ job → one_if job x ≡ 1
one_same x job e = rw (eq-eqb x.job job e) refl

one_other : (x : Slot) (job : ℕ) → (x.job ≡ job → ⊥) → one_if job x ≡ 0
one_other x job e = rw (ne_eqb x.job job e) refl

-- a slot that is there is counted
counted : (slots : List Slot) (job k : ℕ) (s : Slot) → k < length slots → get_or slots k s ≡ s → s.job ≡ job → 1 ≤ naming slots job
counted [] job k s l e j = absurd (omega (arith, l))
counted (x ∷ xs) job zero s l e j = omega (arith, naming-cons x xs job, one_same x job (ap (λ (v : Slot). v.job) e ∙ j))
counted (x ∷ xs) job (suc k) s l e j = omega (arith, naming-cons x xs job, counted xs job k s (omega (arith, l)) e j)

-- the only slot of a job is found
found : (slots : List Slot) (job k : ℕ) (s : Slot) → k < length slots → get_or slots k s ≡ s → s.job ≡ job → naming slots job ≡ 1 → find (λ slot. slot.job == job) slots ≡ Some s
found [] job k s l e j once = absurd (omega (arith, l))
found (x ∷ xs) job zero s l e j once = rw (eq-eqb x.job job (ap (λ (v : Slot). v.job) e ∙ j)) (ap Some e)
found (x ∷ xs) job (suc k) s l e j once = elim (cases_eq x.job job) [
  | inl same ↦ absurd (omega (arith, naming-cons x xs job, one_same x job same, counted xs job k s (omega (arith, l)) e j, once))
  | inr other ↦ rw (ne_eqb x.job job other) (found xs job k s (omega (arith, l)) e j (omega (arith, naming-cons x xs job, one_other x job other, once)))
]

-- so a job of the class starts at its slot
pub starts_at : (devices : List (List ℕ)) (class : PlannedClass) (job device start : ℕ) → IsTimetable class.problem (own_slots class.problem class.priced.way) → Contains class.problem.ids job
    → Contains (own_slots class.problem class.priced.way) (record { job = job; device = device; start = start })
    → job_start devices class job ≡ start_line devices class.problem (record { job = job; device = device; start = start })
unfolding job_start slots_naming
starts_at devices class job device start t known there =
    let slots : List Slot = own_slots class.problem class.priced.way in
    let s : Slot = record { job = job; device = device; start = start } in
    let once : naming slots job ≡ 1 = subst (λ j. naming slots j ≡ 1) known.2 (t.once known.0 job known.1) in
    ap (λ o. option_map_or (start_line devices class.problem) o []) (found slots job there.0 s there.1 there.2 refl once)

-- the line of a start by its parts
pub start_line_is : (devices : List (List ℕ)) (c : Class) (job device start end' : ℕ) (name : List ℕ) → name ≡ slice_index_or devices device [] → end' ≡ start + time_on c job device
    → start_line devices c (record { job = job; device = device; start = start })
    ≡ codes "start " ++ (decimal job ++ (codes " " ++ (name ++ (codes " " ++ (decimal start ++ (codes " " ++ (decimal end' ++ codes "\n")))))))
unfolding start_line
start_line_is devices c job device start end' name en ee = rw (en, ee) refl

-- each job of the class is in its way
pub reaches : (c : Class) (way : List (List ℕ)) (job : ℕ) → IsWay c way → Contains c.ids job → (Contains (concat way) job → ⊥) → ⊥
unfolding times_named
reaches c way job w known none =
    let once : count_by (λ x. x == job) (concat way) ≡ 1 = subst (λ j. times_named way j ≡ 1) known.2 (w.once known.0 job known.1) in
    of_counted (λ id. id ≡ job → ⊥) (concat way) job 0 once (λ k d l same. none (k, l, get_or_default (concat way) k job d l ∙ same)) refl
