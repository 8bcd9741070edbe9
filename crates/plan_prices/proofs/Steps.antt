-- totals of the rest of a list, one step further
use Rattle.std.proofs.Common.{◌≡◌, ℕ, suc, ◌+◌, ◌<◌, ◌≤◌, List, [], ◌∷◌, length, drop, get_or, refl, sym, zero, ap, ◌∙◌, arith, add-one}
use Rattle.std.proofs.lemmas.List.{at_drop_more, at_drop_all, get_or_default}
use Rattle.plan_problem.specs.Class.{Class, wait_in}
use Rattle.plan_prices.specs.Total.{time_on, busy_time, list_cost, cost_from, total_by_places}
use Rattle.plan_prices.specs.Waits.{waits_from, waits_after}
use Rattle.plan_prices.proofs.Totals.{list_total, list_cost_is}

pub list_total_step : (c : Class) (d free : ℕ) (jobs : List ℕ) (i x : ℕ) → i < length jobs → x ≡ time_on c (get_or jobs i 0) d → list_total c d free (drop i jobs) ≡ (free + x) + list_total c d (free + x) (drop (i + 1) jobs)
list_total_step c d free jobs i x l e = rw e (at_drop_more (list_total c d free) jobs i 0 l)

-- at the end of the list, the sum of its ends is its cost by places
pub list_total_end : (c : Class) (d free sum i : ℕ) (jobs : List ℕ) → length jobs ≤ i → sum + list_total c d free (drop i jobs) ≡ list_total c d (wait_in c d) jobs → sum ≡ list_cost c d (wait_in c d) jobs
list_total_end c d free sum i jobs l e = omega (arith, e, at_drop_all (list_total c d free) jobs i l, list_cost_is c d (wait_in c d) jobs)

pub cost_from_step : (c : Class) (ways : List (List ℕ)) (i : ℕ) → i < length ways → cost_from c i (drop i ways) ≡ list_cost c i (wait_in c i) (get_or ways i []) + cost_from c (i + 1) (drop (i + 1) ways)
cost_from_step c ways i l = at_drop_more (cost_from c i) ways i [] l ∙ (rw add-one refl)

-- the queue that a loop reads is the way's
pub queue_at : (w qs : List (List ℕ)) (i : ℕ) (q jobs : List ℕ) → qs ≡ w → i < length qs → q ≡ get_or qs i q → jobs ≡ q → jobs ≡ get_or w i []
queue_at w qs i q jobs same l is seen = seen ∙ is ∙ get_or_default qs i q [] l ∙ ap (λ v. get_or v i []) same

-- one device on in a loop over the lists of a way, as the code reads them
pub total_step : (c : Class) (w : List (List ℕ)) (i x d : ℕ) (jobs : List ℕ) → i < length w → d ≡ i → jobs ≡ get_or w i [] → x ≡ list_cost c d (wait_in c d) jobs → cost_from c i (drop i w) ≡ x + cost_from c (i + 1) (drop (i + 1) w)
total_step c w i x d jobs l at is e =
    let s : cost_from c i (drop i w) ≡ list_cost c i (wait_in c i) (get_or w i []) + cost_from c (i + 1) (drop (i + 1) w) = cost_from_step c w i l in
    let v : x ≡ list_cost c i (wait_in c i) (get_or w i []) = e ∙ ap (λ n. list_cost c n (wait_in c n) jobs) at ∙ ap (list_cost c i (wait_in c i)) is in
    omega (arith, s, v)

pub total_end : (c : Class) (w qs : List (List ℕ)) (i sum : ℕ) → qs ≡ w → length qs ≤ i → sum + cost_from c i (drop i w) ≡ total_by_places c w → sum ≡ total_by_places c w
total_end c w qs i s same l e =
    let z : cost_from c i (drop i w) ≡ 0 = at_drop_all (cost_from c i) w i (let n : length qs ≡ length w = ap length same in omega arith) in
    omega (arith, z, e)

pub busy_time_step : (c : Class) (d : ℕ) (jobs : List ℕ) (i x : ℕ) → i < length jobs → x ≡ time_on c (get_or jobs i 0) d → busy_time c d (drop i jobs) ≡ x + busy_time c d (drop (i + 1) jobs)
busy_time_step c d jobs i x l e = rw e (at_drop_more (busy_time c d) jobs i 0 l)

-- ---- the waits that a way leaves, device by device

pub length-waits_from : (c : Class) (d : ℕ) (qs : List (List ℕ)) → length (waits_from c d qs) ≡ length qs
length-waits_from c d [] = refl
length-waits_from c d (q ∷ qs) = ap suc (length-waits_from c (suc d) qs)

pub waits_from_at : (c : Class) (d : ℕ) (qs : List (List ℕ)) (k : ℕ) → k < length qs → get_or (waits_from c d qs) k 0 ≡ wait_in c (d + k) + busy_time c (d + k) (get_or qs k [])
waits_from_at c d [] k l = absurd (omega arith)
waits_from_at c d (q ∷ qs) zero l = ap (λ n. wait_in c n + busy_time c n q) (let e : d ≡ d + zero = omega arith in e)
waits_from_at c d (q ∷ qs) (suc k) l = waits_from_at c (suc d) qs k (omega arith) ∙ ap (λ n. wait_in c n + busy_time c n (get_or qs k [])) (let e : suc d + k ≡ d + suc k = omega arith in e)

-- the value that the code computes for a device is the wait that the way leaves
pub left_at : (c : Class) (w : List (List ℕ)) (i x d : ℕ) (jobs : List ℕ) → i < length w → d ≡ i → jobs ≡ get_or w i [] → x ≡ wait_in c d + busy_time c d jobs → x ≡ get_or (waits_after c w) i 0
left_at c w i x d jobs l at is e =
    let v : get_or (waits_after c w) i 0 ≡ wait_in c (0 + i) + busy_time c (0 + i) (get_or w i []) = waits_from_at c 0 w i l in
    let z : 0 + i ≡ i = omega arith in
    e ∙ ap (λ n. wait_in c n + busy_time c n jobs) at ∙ ap (λ b. wait_in c i + busy_time c i b) is ∙ sym (v ∙ ap (λ n. wait_in c n + busy_time c n (get_or w i [])) z)
