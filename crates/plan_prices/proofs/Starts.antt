-- Where a job is in a way's own timetable.
use Rattle.std.proofs.Common.{◌≡◌, ℕ, zero, suc, ◌+◌, ◌<◌, List, [], ◌∷◌, ◌++◌, length, take, get_or, refl, ap, ◌∙◌, arith, Contains, add-zero, Some, None, All, ◌==◌, ltb, eqb}
use Rattle.std.specs.List.{position, position_or_len}
use Rattle.std.proofs.lemmas.Bool.{cond_both, ltb-true, ltb-false, eqb-true, eq-eqb, both_ways}
use Rattle.std.proofs.lemmas.List.Sums.{passes_at_first, fails_before_first}
use Rattle.std.proofs.lemmas.List.{get_or_default, get_or_append_left, get_or-append-add, length-append}
use Rattle.plan_problem.specs.Class.{Class, wait_in}
use Rattle.plan_prices.specs.Total.{time_on, busy_time}
use Rattle.plan_prices.specs.Timetable.{Slot, slots_of_list, slots_from, own_slots}

-- the place at which a search finds a job
found_below : (jobs : List ℕ) (job before : ℕ) → Some before ≡ position (λ id. id == job) jobs → (before < length jobs) × (get_or jobs before 0 ≡ job)
found_below jobs job before found =
    let first = position_or_len (λ id. id == job) jobs in
    cond_both (ltb first (length jobs)) (Some first) None (λ o. Some before ≡ o → (before < length jobs) × (get_or jobs before 0 ≡ job))
    (λ below same.
    let e : before ≡ first = cc in
    let l : first < length jobs = ltb-true _ _ below in
    (omega arith, ap (λ k. get_or jobs k 0) e ∙ eqb-true (get_or jobs first 0) job (passes_at_first (λ id. id == job) jobs 0 l)))
    (λ _ same. absurd (cc))
    found

-- if a search finds no place, the job isn't there
pub none_found : (jobs : List ℕ) (job : ℕ) → None ≡ position (λ id. id == job) jobs → All (λ id. ¬ (id ≡ job)) jobs
none_found jobs job none =
    let first = position_or_len (λ id. id == job) jobs in
    cond_both (ltb first (length jobs)) (Some first) None (λ o. None ≡ o → All (λ id. ¬ (id ≡ job)) jobs)
    (λ _ same. absurd (cc))
    (λ past _ k d l same.
    let before : k < first = omega (arith, ltb-false first (length jobs) past) in
    let e : get_or jobs k job ≡ job = get_or_default jobs k job d l ∙ same in
    both_ways (eqb (get_or jobs k job) job) (fails_before_first (λ id. id == job) jobs k job before) (eq-eqb (get_or jobs k job) job e))
    none

contains_left : (xs ys : List Slot) (s : Slot) → Contains xs s → Contains (xs ++ ys) s
contains_left xs ys s h = (h.0, omega (arith, h.1, length-append xs ys), get_or_append_left xs ys s h.0 h.1 ∙ h.2)

contains_right : (xs ys : List Slot) (s : Slot) → Contains ys s → Contains (xs ++ ys) s
contains_right xs ys s h = (length xs + h.0, omega (arith, h.1, length-append xs ys), get_or-append-add xs ys h.0 s ∙ h.2)

contains_later : (x : Slot) (xs : List Slot) (s : Slot) → Contains xs s → Contains (x ∷ xs) s
contains_later x xs s h = (suc h.0, omega (arith, h.1), h.2)

-- the slot of the job that has this number of jobs before it
slot_in_list : (c : Class) (d free : ℕ) (jobs : List ℕ) (i : ℕ) → i < length jobs → Contains (slots_of_list c d free jobs) (record { job = get_or jobs i 0; device = d; start = free + busy_time c d (take i jobs) })
slot_in_list c d free [] i l = absurd (omega arith)
slot_in_list c d free (j ∷ js) zero l = (0, omega arith, rw add-zero refl)
slot_in_list c d free (j ∷ js) (suc i) l =
    let e : (free + time_on c j d) + busy_time c d (take i js) ≡ free + (time_on c j d + busy_time c d (take i js)) = omega arith in
    let slot : ℕ → Slot = λ x. record { job = get_or js i 0; device = d; start = x } in
    contains_later (record { job = j; device = d; start = free }) (slots_of_list c d (free + time_on c j d) js) (slot (free + (time_on c j d + busy_time c d (take i js))))
    (rw e at (slot_in_list c d (free + time_on c j d) js i (omega arith)))

pub slot_from : (c : Class) (d : ℕ) (qs : List (List ℕ)) (n i : ℕ) → n < length qs → i < length (get_or qs n []) → Contains (slots_from c d qs) (record { job = get_or (get_or qs n []) i 0; device = d + n; start = wait_in c (d + n) + busy_time c (d + n) (take i (get_or qs n [])) })
slot_from c d [] n i l m = absurd (omega arith)
slot_from c d (q ∷ qs) zero i l m =
    rw add-zero (contains_left (slots_of_list c d (wait_in c d) q) (slots_from c (suc d) qs) (record { job = get_or q i 0; device = d; start = wait_in c d + busy_time c d (take i q) }) (slot_in_list c d (wait_in c d) q i m))
slot_from c d (q ∷ qs) (suc n) i l m =
    let e : suc d + n ≡ d + suc n = omega arith in
    let slot : ℕ → Slot = λ x. record { job = get_or (get_or qs n []) i 0; device = x; start = wait_in c x + busy_time c x (take i (get_or qs n [])) } in
    contains_right (slots_of_list c d (wait_in c d) q) (slots_from c (suc d) qs) (slot (d + suc n)) (rw e at (slot_from c (suc d) qs n i (omega arith) m))

-- the slot of a job that a loop finds in a queue
pub found_slot : (c : Class) (w : List (List ℕ)) (place device job before : ℕ) (jobs : List ℕ) (start : ℕ) → place < length w → device ≡ place → jobs ≡ get_or w place [] → Some before ≡ position (λ id. id == job) jobs → start ≡ wait_in c device + busy_time c device (take before jobs)
    → Contains (own_slots c w) (record { job = job; device = device; start = start })
found_slot c w place device job before jobs start l at is found e =
    let b = found_below jobs job before found in
    let here : 0 + place ≡ place = omega arith in
    let s : Contains (own_slots c w) (record { job = get_or (get_or w place []) before 0; device = 0 + place; start = wait_in c (0 + place) + busy_time c (0 + place) (take before (get_or w place [])) }) =
    slot_from c 0 w place before l (rw is at b.0) in
    let slot : ℕ → ℕ → Slot = λ j d. record { job = j; device = d; start = wait_in c d + busy_time c d (take before jobs) } in
    let t : Contains (own_slots c w) (slot (get_or jobs before 0) place) = rw is (rw here at s) in
    rw e (rw at (rw b.1 at t))
