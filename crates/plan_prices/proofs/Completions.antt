-- The completions of a way's jobs, list by list, and their sum.
use Rattle.std.proofs.Common.{◌≡◌, ◌==◌, ℕ, suc, ◌+◌, ◌-◌, ◌<◌, ◌≤◌, true, false, List, [], ◌∷◌, ◌++◌, length, map, get_or, refl, sym, ap, ◌∙◌, arith, inl, inr, All, Contains, pos, add-zero, zero-add}
use Rattle.std.specs.List.{concat, list_any, sum_by}
use Rattle.std.specs.List.Sorted.{IsStrictlyIncreasing}
use Rattle.std.proofs.Math.Numerals.{one-add}
use Rattle.std.proofs.lemmas.Int.{ints}
use Rattle.std.proofs.lemmas.Bool.{cases_lt, cases_eq, eq-eqb, ne_eqb}
use Rattle.std.proofs.lemmas.List.{get_or-map, length-map}
use Rattle.std.proofs.lemmas.List.Elements.{All-head, All-tail, All-cons, All-nil}
use Rattle.std.proofs.lemmas.List.Folds.{list_any_at, list_any_none}
use Rattle.std.proofs.lemmas.List.Sums.{sum_by-cons, sum_by-append}
use Rattle.plan_problem.specs.Class.{Class, IsClass, place_of, wait_in}
use Rattle.plan_problem.proofs.Places.{place_below, at_place}
use Rattle.plan_prices.specs.Way.{IsWay, queue_of, times_named}
use Rattle.plan_prices.specs.Total.{time_on, busy_time, device_in, up_to, completion_of, total_of, total_by_places}
use Rattle.plan_prices.specs.Prices.{job_price, sum_signed}
use Rattle.plan_prices.proofs.Totals.{list_total, total_from, cost_from_is}
use Rattle.plan_prices.proofs.Sums.{count_of, count_of-yes, count_of-no, prices_of, prices_of_all}
use Rattle.plan_prices.proofs.Names.{all_left, all_right, of_counted}

-- ---- no job occurs twice

abbrev pub Distinct : List ℕ → Type 0
Distinct [] = Unit {0}
Distinct (x ∷ xs) = All (λ y. ¬ (x ≡ y)) xs × Distinct xs

none_counted : (names : List ℕ) (job : ℕ) → count_of names job ≡ 0 → All (λ y. ¬ (job ≡ y)) names
none_counted [] job e = All-nil (λ y. ¬ (job ≡ y))
none_counted (x ∷ xs) job e = elim (cases_eq x job) [
  | inl same ↦ absurd (let s : count_of (x ∷ xs) job ≡ suc (count_of xs job) = count_of-yes x xs job same in omega (arith, s, e))
  | inr other ↦ All-cons (λ y. ¬ (job ≡ y)) x xs (λ s. other (sym s)) (none_counted xs job (sym (count_of-no x xs job other) ∙ e))
]

count_fewer : (x : ℕ) (xs : List ℕ) (job : ℕ) → count_of xs job ≤ count_of (x ∷ xs) job
count_fewer x xs job = elim (cases_eq x job) [
  | inl same ↦ let s : count_of (x ∷ xs) job ≡ suc (count_of xs job) = count_of-yes x xs job same in omega (arith, s)
  | inr other ↦ let s : count_of (x ∷ xs) job ≡ count_of xs job = count_of-no x xs job other in omega (arith, s)
]

distinct_of : (names : List ℕ) → ((job : ℕ) → count_of names job ≤ 1) → Distinct names
distinct_of [] h = tt
distinct_of (x ∷ xs) h =
    let here : count_of (x ∷ xs) x ≡ suc (count_of xs x) = count_of-yes x xs x refl in
    let one : count_of (x ∷ xs) x ≤ 1 = h x in
    (none_counted xs x (omega (arith, here, one)), distinct_of xs (λ job. let fewer : count_of xs job ≤ count_of (x ∷ xs) job = count_fewer x xs job in let few : count_of (x ∷ xs) job ≤ 1 = h job in omega (arith, fewer, few)))

pub distinct_parts : (xs ys : List ℕ) → Distinct (xs ++ ys) → Distinct xs × Distinct ys × All (λ y. All (λ x. ¬ (x ≡ y)) xs) ys
distinct_parts [] ys h = (tt, h, λ k d l. All-nil (λ x. ¬ (x ≡ get_or ys k d)))
distinct_parts (x ∷ xs) ys h =
    let rest = distinct_parts xs ys h.1 in
    ((all_left (λ y. ¬ (x ≡ y)) xs ys h.0, rest.0), rest.1, λ k d l. All-cons (λ z. ¬ (z ≡ get_or ys k d)) x xs (all_right (λ y. ¬ (x ≡ y)) xs ys h.0 k d l) (rest.2 k d l))

-- the names of a way
pub distinct_names : (c : Class) (w : List (List ℕ)) → IsWay c w → Distinct (concat w)
unfolding times_named
distinct_names c w h = distinct_of (concat w) (λ job. elim (cases_lt 0 (count_of (concat w) job)) [
  | inl some ↦
      let known : Contains c.ids job = of_counted (Contains c.ids) (concat w) job (count_of (concat w) job - 1) (omega (arith, some)) h.known in
      let one : count_of (concat w) (get_or c.ids known.0 job) ≡ 1 = h.once known.0 job known.1 in
      let same : count_of (concat w) job ≡ 1 = rw known.2 at one in
      omega (arith, same)
  | inr none ↦ omega (arith, none)
])

-- ---- when a job of a list is complete

pub up_to-here : (x : ℕ) (xs : List ℕ) → up_to x (x ∷ xs) ≡ x ∷ []
up_to-here x xs = rw (eq-eqb x x refl) refl

pub up_to-later : (x : ℕ) (xs : List ℕ) (job : ℕ) → ¬ (x ≡ job) → up_to job (x ∷ xs) ≡ x ∷ up_to job xs
up_to-later x xs job h = rw (ne_eqb x job h) (rw one-add refl)

-- a list has its own jobs, and none of those that differ from all of its own
pub has_own : (q : List ℕ) → All (λ job. list_any (λ id. id == job) q ≡ true) q
has_own q k d l = list_any_at (λ id. id == get_or q k d) q k d l (eq-eqb (get_or q k d) (get_or q k d) refl)

pub has_other : (q others : List ℕ) → All (λ y. All (λ x. ¬ (x ≡ y)) q) others → All (λ job. list_any (λ id. id == job) q ≡ false) others
has_other q others h k d l = list_any_none (λ id. id == get_or others k d) q (λ i x m. ne_eqb (get_or q i x) (get_or others k d) (h k d l i x m))

-- a job's completion, where the first list is that of a device
abbrev pub completion_from : Class → ℕ → List (List ℕ) → ℕ → ℕ
completion_from c d lists job = wait_in c (d + device_in lists job) + busy_time c (d + device_in lists job) (up_to job (queue_of lists (device_in lists job)))

pub completion_is : (c : Class) (w : List (List ℕ)) (job : ℕ) → completion_of c w job ≡ completion_from c 0 w job
unfolding completion_of
completion_is c w job = rw zero-add refl

pub completion_here : (c : Class) (d : ℕ) (q : List ℕ) (qs : List (List ℕ)) (job : ℕ) → list_any (λ id. id == job) q ≡ true → completion_from c d (q ∷ qs) job ≡ wait_in c d + busy_time c d (up_to job q)
completion_here c d q qs job h = rw h (rw add-zero refl)

pub completion_later : (c : Class) (d : ℕ) (q : List ℕ) (qs : List (List ℕ)) (job : ℕ) → list_any (λ id. id == job) q ≡ false → completion_from c d (q ∷ qs) job ≡ completion_from c (suc d) qs job
completion_later c d q qs job h =
    let e : d + suc (device_in qs job) ≡ suc d + device_in qs job = omega arith in
    rw h (rw one-add (rw e refl))

-- ---- their sum

sum_by-same : (f g : ℕ → ℕ) (xs : List ℕ) → All (λ x. f x ≡ g x) xs → sum_by f xs ≡ sum_by g xs
sum_by-same f g [] h = refl
sum_by-same f g (x ∷ xs) h =
    let here : f x ≡ g x = All-head (λ y. f y ≡ g y) x xs h in
    let rest : sum_by f xs ≡ sum_by g xs = sum_by-same f g xs (All-tail (λ y. f y ≡ g y) x xs h) in
    omega (arith, sum_by-cons f x xs, sum_by-cons g x xs, here, rest)

list_ends : (c : Class) (d free : ℕ) (q : List ℕ) → Distinct q → sum_by (λ job. free + busy_time c d (up_to job q)) q ≡ list_total c d free q
list_ends c d free [] h = refl
list_ends c d free (x ∷ xs) h =
    let f : ℕ → ℕ = λ job. free + busy_time c d (up_to job (x ∷ xs)) in
    let g : ℕ → ℕ = λ job. (free + time_on c x d) + busy_time c d (up_to job xs) in
    let own : busy_time c d (up_to x (x ∷ xs)) ≡ time_on c x d + 0 = ap (busy_time c d) (up_to-here x xs) in
    let later : sum_by f xs ≡ sum_by g xs = sum_by-same f g xs (λ k e l.
    let more : busy_time c d (up_to (get_or xs k e) (x ∷ xs)) ≡ time_on c x d + busy_time c d (up_to (get_or xs k e) xs) = ap (busy_time c d) (up_to-later x xs (get_or xs k e) (h.0 k e l)) in
    omega (arith, more)) in
    omega (arith, sum_by-cons f x xs, own, later, list_ends c d (free + time_on c x d) xs h.1)

names_total : (c : Class) (d : ℕ) (w : List (List ℕ)) → Distinct (concat w) → sum_by (completion_from c d w) (concat w) ≡ total_from c d w
names_total c d [] h = refl
names_total c d (q ∷ qs) h =
    let parts = distinct_parts q (concat qs) h in
    let f : ℕ → ℕ = completion_from c d (q ∷ qs) in
    let here : sum_by f q ≡ sum_by (λ job. wait_in c d + busy_time c d (up_to job q)) q =
    sum_by-same f (λ job. wait_in c d + busy_time c d (up_to job q)) q (λ k x l. completion_here c d q qs (get_or q k x) (has_own q k x l)) in
    let later : sum_by f (concat qs) ≡ sum_by (completion_from c (suc d) qs) (concat qs) =
    sum_by-same f (completion_from c (suc d) qs) (concat qs) (λ k x l. completion_later c d q qs (get_or (concat qs) k x) (has_other q (concat qs) parts.2 k x l)) in
    omega (arith, sum_by-append f q (concat qs), here, list_ends c d (wait_in c d) q parts.0, later, names_total c (suc d) qs parts.1)

-- a sum over the names is a sum over the jobs
names_priced : (ids : List ℕ) (f : ℕ → ℕ) (names : List ℕ) → All (Contains ids) names → prices_of ids (map (λ id. pos (f id)) ids) names ≡ pos (sum_by f names)
names_priced ids f [] h = refl
names_priced ids f (x ∷ xs) h =
    let below : place_of ids x < length ids = place_below ids x (All-head (Contains ids) x xs h) in
    let price : job_price ids (map (λ id. pos (f id)) ids) x ≡ pos (f x) = get_or-map (λ id. pos (f id)) ids (place_of ids x) 0 (pos 0) below ∙ ap (λ id. pos (f id)) (at_place ids x below) in
    omega (arith, ints, price, sum_by-cons f x xs, names_priced ids f xs (All-tail (Contains ids) x xs h))

jobs_priced : (f : ℕ → ℕ) (ids : List ℕ) → sum_signed (map (λ id. pos (f id)) ids) ≡ pos (sum_by f ids)
jobs_priced f [] = refl
jobs_priced f (x ∷ xs) = omega (arith, ints, sum_by-cons f x xs, jobs_priced f xs)

sum_names : (ids : List ℕ) (f : ℕ → ℕ) (names : List ℕ) → IsStrictlyIncreasing ids → All (Contains ids) names → All (λ i. count_of names i ≡ 1) ids → sum_by f names ≡ sum_by f ids
sum_names ids f names up known once =
    let all = prices_of_all ids (map (λ id. pos (f id)) ids) names up (length-map ids (λ id. pos (f id))) once in
    omega (arith, ints, names_priced ids f names known, all, jobs_priced f ids)

pub total_is : (c : Class) → IsClass c → (w : List (List ℕ)) → IsWay c w → total_of c w ≡ total_from c 0 w
unfolding total_of times_named
total_is c ok w h =
    let f : ℕ → ℕ = completion_from c 0 w in
    let same : sum_by (completion_of c w) c.ids ≡ sum_by f c.ids = sum_by-same (completion_of c w) f c.ids (λ k d l. completion_is c w (get_or c.ids k d)) in
    same ∙ sym (sum_names c.ids f (concat w) ok.rising h.known h.once) ∙ names_total c 0 w (distinct_names c w h)

-- the total by places from the end
pub by_places : (c : Class) → IsClass c → (w : List (List ℕ)) → IsWay c w → total_of c w ≡ total_by_places c w
by_places c ok w h = total_is c ok w h ∙ cost_from_is c 0 w
