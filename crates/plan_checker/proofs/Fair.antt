-- steps of the loops over prices
use Rattle.std.proofs.Common.{◌≡◌, ℕ, ◌+◌, ◌<◌, ◌≤◌, List, length, drop, get_or, sym, ap, ◌∙◌, subst, arith, Option, Some, ℤ, pos, ◌+ℤ◌}
use Rattle.std.proofs.lemmas.List.{at_drop_more, get_or_default}
use Rattle.plan_problem.proofs.Places.{place_at, at_place, timed_place}
use Rattle.plan_problem.specs.Class.{Class, IsClass, place_of, time_in, wait_in}
use Rattle.plan_prices.specs.Prices.{sum_signed, sum_lists}
use Rattle.plan_checker.specs.Fair.{IsFairOn, AllFairOn}

pub sum_signed_step : (xs : List ℤ) (i : ℕ) → i < length xs → sum_signed (drop i xs) ≡ get_or xs i (pos 0) +ℤ sum_signed (drop (i + 1) xs)
sum_signed_step xs i l = at_drop_more sum_signed xs i (pos 0) l

-- the job that the code read
job_at : (ids items : List ℕ) (i x : ℕ) → items ≡ ids → i < length items → x ≡ get_or items i x → x ≡ get_or ids i 0
job_at ids items i x same l is = is ∙ get_or_default items i x 0 l ∙ ap (λ v. get_or v i 0) same

-- the time that the code read is the job's
pub read_time : (c : Class) (device : ℕ) (items : List ℕ) (i k x t : ℕ) (o : Option ℕ) → items ≡ c.ids → i < length items → x ≡ get_or items i x → k ≡ i → o ≡ time_in c x device → time_in c (get_or c.ids k 0) device ≡ Some t → o ≡ Some t
read_time c device items i k x t o same l is at e f =
    e ∙ ap (λ j. time_in c j device) (job_at c.ids items i x same l is ∙ ap (λ n. get_or c.ids n 0) (sym at)) ∙ f

-- prices that are fair for all jobs are fair for the job at a place
pub fair_at_place : (c : Class) → IsClass c → (device : ℕ) (prices places : List ℤ) (items : List ℕ) (i x t : ℕ) → items ≡ c.ids → i < length items → x ≡ get_or items i x → Some t ≡ time_in c x device → AllFairOn c device prices places → IsFairOn (wait_in c device) t (get_or prices i (pos 0)) places
fair_at_place c ok device prices places items i x t same l is e all =
    let n : i < length c.ids = (let q : length items ≡ length c.ids = ap length same in omega arith) in
    let p : place_of c.ids x ≡ i = ap (place_of c.ids) (job_at c.ids items i x same l is) ∙ place_at c.ids ok.rising i n in
    subst (λ k. IsFairOn (wait_in c device) t (get_or prices k (pos 0)) places) p (all x t (sym e))

-- prices that are fair for the job at each place are fair for all jobs
pub fair_for_all : (c : Class) → IsClass c → (device wait : ℕ) (prices places : List ℤ) (i : ℕ) → wait ≡ wait_in c device → length c.ids ≤ i → ((k t : ℕ) → k < i → time_in c (get_or c.ids k 0) device ≡ Some t → IsFairOn wait t (get_or prices k (pos 0)) places) → AllFairOn c device prices places
fair_for_all c ok device wait prices places i w l each job t e =
    let p : place_of c.ids job < length c.ids = timed_place c ok job device t e in
    let j : get_or c.ids (place_of c.ids job) 0 ≡ job = at_place c.ids job p in
    let f : IsFairOn wait t (get_or prices (place_of c.ids job) (pos 0)) places = each (place_of c.ids job) t (omega arith) (ap (λ x. time_in c x device) j ∙ e) in
    subst (λ x. IsFairOn x t (get_or prices (place_of c.ids job) (pos 0)) places) w f

pub sum_lists_step : (xss : List (List ℤ)) (i : ℕ) (q s : List ℤ) → i < length xss → q ≡ get_or xss i q → s ≡ q → sum_lists (drop i xss) ≡ sum_signed s +ℤ sum_lists (drop (i + 1) xss)
sum_lists_step xss i q s l is seen = rw (seen) (at_drop_more sum_lists xss i q l ∙ ap (λ v. sum_signed v +ℤ sum_lists (drop (i + 1) xss)) (sym is))
