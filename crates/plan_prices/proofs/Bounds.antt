-- Totals are bounded, by the waits.
use Rattle.std.proofs.Common.{◌≡◌, ℕ, zero, suc, ◌+◌, ◌*◌, ◌^◌, ◌<◌, ◌≤◌, List, [], ◌∷◌, ◌++◌, length, Option, Some, None, IfSome, refl, arith, get_or, All, Contains, pos, replicate, inl, inr}
use Rattle.std.specs.Prelude.{unwrap_or}
use Rattle.std.specs.List.{concat}
use Rattle.std.proofs.Math.Nat.{add-mul}
use Rattle.std.proofs.lemmas.Nat.{mul-le}
use Rattle.std.proofs.lemmas.Int.{ints}
use Rattle.std.proofs.lemmas.Bool.{cases_lt}
use Rattle.std.proofs.lemmas.List.{get_or_past, length-append, length-replicate, get_or-replicate}
use Rattle.std.proofs.lemmas.List.Elements.{All-head, All-tail}
use Rattle.base_types.specs.declared.limits.TheConstants.Limits.{UNFINISHED_JOBS, JOB_TIME, WAIT}
use Rattle.plan_problem.specs.Time.{IsTime}
use Rattle.plan_problem.specs.Class.{Class, IsClass, place_of, wait_in}
use Rattle.plan_prices.specs.Way.{IsWay, times_named}
use Rattle.plan_prices.specs.Total.{time_on, busy_time, list_cost, total_of, cost_from, total_by_places}
use Rattle.plan_prices.specs.Prices.{sum_signed, job_price}
use Rattle.plan_problem.proofs.Places.{place_below}
use Rattle.plan_prices.proofs.Completions.{by_places}
use Rattle.plan_prices.proofs.Sums.{prices_of, prices_of_all}

pub wait_at_most : (c : Class) (most : ℕ) → All (λ wait. wait ≤ most) c.waits → (d : ℕ) → wait_in c d ≤ most
wait_at_most c most h d = elim (cases_lt d (length c.waits)) [
  | inl lt ↦ h d 0 lt
  | inr past ↦ rw (get_or_past c.waits d 0 past) (omega arith)
]

pub wait_small : (c : Class) → IsClass c → (d : ℕ) → wait_in c d ≤ WAIT
wait_small c ok d = wait_at_most c WAIT ok.short_waits d

row_small : (row : List (Option ℕ)) → All (λ e. IfSome e IsTime) row → (d : ℕ) → unwrap_or (get_or row d None) 0 ≤ JOB_TIME
row_small row h d = elim (cases_lt d (length row)) [
  | inl lt ↦ small (get_or row d None) (h d None lt)
  | inr past ↦ rw (get_or_past row d None past) (omega arith)
]
  where
    small : (o : Option ℕ) → IfSome o IsTime → unwrap_or o 0 ≤ JOB_TIME
    small None g = omega arith
    small (Some t) g = g.1

pub time_small : (c : Class) → IsClass c → (j d : ℕ) → time_on c j d ≤ JOB_TIME
time_small c ok j d = elim (cases_lt (place_of c.ids j) (length c.rows)) [
  | inl lt ↦ row_small (get_or c.rows (place_of c.ids j) []) (ok.times (place_of c.ids j) [] lt) d
  | inr past ↦ rw (get_or_past c.rows (place_of c.ids j) [] past) (omega arith)
]

-- the most that a job costs at any place of a list, where no wait is longer than this
abbrev most_cost : ℕ → ℕ
most_cost wait = wait + UNFINISHED_JOBS * JOB_TIME

cost_more : (n most one rest : ℕ) → one ≤ most → rest ≤ n * most → one + rest ≤ suc n * most
cost_more n most one rest a b = omega (arith, a, b)

cost_both : (m n most one rest : ℕ) → one ≤ m * most → rest ≤ n * most → one + rest ≤ (m + n) * most
cost_both m n most one rest a b = rw (add-mul m n most) (omega (arith, a, b))

list_cost_small : (c : Class) → IsClass c → (wait d free : ℕ) → free ≤ wait → (q : List ℕ) → length q ≤ UNFINISHED_JOBS → list_cost c d free q ≤ length q * most_cost wait
list_cost_small c ok wait d free h [] l = omega arith
list_cost_small c ok wait d free h (j ∷ js) l =
    let t : suc (length js) * time_on c j d ≤ UNFINISHED_JOBS * JOB_TIME = mul-le (suc (length js)) (time_on c j d) UNFINISHED_JOBS JOB_TIME (omega arith) (time_small c ok j d) in
    let one : free + suc (length js) * time_on c j d ≤ most_cost wait = omega (arith, t, h) in
    cost_more (length js) (most_cost wait) (free + suc (length js) * time_on c j d) (list_cost c d free js) one (list_cost_small c ok wait d free h js (omega arith))

cost_from_small : (c : Class) → IsClass c → (wait : ℕ) → All (λ w. w ≤ wait) c.waits → (d : ℕ) (w : List (List ℕ)) → length (concat w) ≤ UNFINISHED_JOBS → cost_from c d w ≤ length (concat w) * most_cost wait
cost_from_small c ok wait h d [] l = omega arith
cost_from_small c ok wait h d (q ∷ qs) l =
    let e : length (q ++ concat qs) ≡ length q + length (concat qs) = length-append q (concat qs) in
    let a : list_cost c d (wait_in c d) q ≤ length q * most_cost wait = list_cost_small c ok wait d (wait_in c d) (wait_at_most c wait h d) q (omega arith) in
    let b : cost_from c (suc d) qs ≤ length (concat qs) * most_cost wait = cost_from_small c ok wait h (suc d) qs (omega arith) in
    rw e (cost_both (length q) (length (concat qs)) (most_cost wait) (list_cost c d (wait_in c d) q) (cost_from c (suc d) qs) a b)

-- one for each name
count_names : (ids names : List ℕ) → All (Contains ids) names → prices_of ids (replicate (length ids) (pos 1)) names ≡ pos (length names)
count_names ids [] h = refl
count_names ids (x ∷ xs) h =
    let a : job_price ids (replicate (length ids) (pos 1)) x ≡ pos 1 = get_or-replicate (length ids) (place_of ids x) (pos 1) (pos 0) (place_below ids x (All-head (Contains ids) x xs h)) in
    let b : prices_of ids (replicate (length ids) (pos 1)) xs ≡ pos (length xs) = count_names ids xs (All-tail (Contains ids) x xs h) in
    omega (arith, ints, a, b)

sum_ones : (n : ℕ) → sum_signed (replicate n (pos 1)) ≡ pos n
sum_ones zero = refl
sum_ones (suc n) = let b : sum_signed (replicate n (pos 1)) ≡ pos n = sum_ones n in omega (arith, ints, b)

-- a way has as many names as the class has jobs
pub length_names : (c : Class) → IsClass c → (w : List (List ℕ)) → IsWay c w → length (concat w) ≡ length c.ids
unfolding times_named
length_names c ok w h =
    let ones = replicate (length c.ids) (pos 1) in
    let a : prices_of c.ids ones (concat w) ≡ pos (length (concat w)) = count_names c.ids (concat w) h.known in
    let b : prices_of c.ids ones (concat w) ≡ sum_signed ones = prices_of_all c.ids ones (concat w) ok.rising (length-replicate (length c.ids) (pos 1)) h.once in
    let s : sum_signed ones ≡ pos (length c.ids) = sum_ones (length c.ids) in
    omega (arith, ints, a, b, s)

places_within : (c : Class) → IsClass c → (wait : ℕ) → All (λ w. w ≤ wait) c.waits → (w : List (List ℕ)) → IsWay c w → total_by_places c w ≤ UNFINISHED_JOBS * most_cost wait
places_within c ok wait short w h =
    let few : length (concat w) ≤ UNFINISHED_JOBS = omega (arith, length_names c ok w h, ok.few_jobs) in
    let b : cost_from c 0 w ≤ length (concat w) * most_cost wait = cost_from_small c ok wait short 0 w few in
    omega (arith, b, mul-le (length (concat w)) (most_cost wait) UNFINISHED_JOBS (most_cost wait) few (omega arith))

-- where no wait is longer than this, a total is at most
pub total_within : (c : Class) → IsClass c → (wait : ℕ) → All (λ w. w ≤ wait) c.waits → (w : List (List ℕ)) → IsWay c w → total_of c w ≤ UNFINISHED_JOBS * (wait + UNFINISHED_JOBS * JOB_TIME)
total_within c ok wait short w h = omega (arith, places_within c ok wait short w h, by_places c ok w h)

pub places_small : (c : Class) → IsClass c → (w : List (List ℕ)) → IsWay c w → total_by_places c w < 2 ^ 64
places_small c ok w h = omega (arith, places_within c ok WAIT ok.short_waits w h)

pub total_small : (c : Class) → IsClass c → (w : List (List ℕ)) → IsWay c w → total_of c w < 2 ^ 64
total_small c ok w h = omega (arith, places_small c ok w h, by_places c ok w h)

pub busy_small : (c : Class) → IsClass c → (d : ℕ) (q : List ℕ) → busy_time c d q ≤ length q * JOB_TIME
busy_small c ok d [] = omega arith
busy_small c ok d (j ∷ js) = omega (arith, time_small c ok j d, busy_small c ok d js)

pub part_short : (w : List (List ℕ)) (i : ℕ) → length (get_or w i []) ≤ length (concat w)
part_short [] i = omega arith
part_short (q ∷ qs) zero = omega (arith, length-append q (concat qs))
part_short (q ∷ qs) (suc i) = omega (arith, length-append q (concat qs), part_short qs i)

-- a list of a way is no longer than the limit of jobs
pub queue_short : (c : Class) → IsClass c → (w : List (List ℕ)) → IsWay c w → (i : ℕ) → length (get_or w i []) ≤ UNFINISHED_JOBS
queue_short c ok w h i = omega (arith, part_short w i, length_names c ok w h, ok.few_jobs)

pub busy_fits : (c : Class) → IsClass c → (d : ℕ) (jobs : List ℕ) → length jobs ≤ UNFINISHED_JOBS → wait_in c d + busy_time c d jobs < 2 ^ 64
busy_fits c ok d jobs few = omega (arith, few, wait_small c ok d, busy_small c ok d jobs)
