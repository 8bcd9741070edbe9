-- a way with fair prices is best
use Rattle.std.proofs.Common.{◌≡◌, ℕ, zero, suc, ◌+◌, ◌*◌, ◌≤◌, List, [], ◌∷◌, ◌++◌, length, take, Option, Some, None, IsSome, refl, ap, sym, ◌∙◌, arith, ℤ, pos, ◌+ℤ◌, ◌≤ℤ◌, get_or, All, inl, inr, rules, add-zero, zero-add}
use Rattle.std.specs.Prelude.{unwrap_or}
use lib.Signed.{le_z_yes}
use Rattle.std.specs.List.{concat}
use Rattle.std.proofs.Math.Nat.{mul-le-mul_right}
use Rattle.std.proofs.lemmas.Int.{ints}
use Rattle.std.proofs.lemmas.Bool.{cases_lt}
use Rattle.std.proofs.lemmas.List.Elements.{All-head, All-tail}
use Rattle.plan_problem.specs.Class.{Class, IsClass, time_in, wait_in}
use Rattle.plan_prices.specs.Way.{IsWay, queue_of, times_named}
use Rattle.plan_prices.specs.Total.{IsBest, time_on, list_cost, total_of}
use Rattle.plan_prices.specs.Prices.{AreFair, PriceLists, sum_signed, sum_lists, job_price, places_on, place_price}
use Rattle.plan_prices.proofs.Totals.{list_total, total_from, list_cost_is}
use Rattle.plan_prices.proofs.Completions.{total_is}
use Rattle.plan_prices.proofs.Sums.{prices_of, prices_of_all}

-- numbers of which none is positive
NonePositive : List ℤ → Type 0
NonePositive vs = (k : ℕ) → get_or vs k (pos 0) ≤ℤ pos 0

module _ where
  pub sum_at_most_zero : (vs : List ℤ) → ((k : ℕ) → get_or vs k (pos 0) ≤ℤ pos 0) → sum_signed vs ≤ℤ pos 0
  sum_at_most_zero [] h = h 0
  sum_at_most_zero (v ∷ vs) h =
      let a : v ≤ℤ pos 0 = h 0 in
      let b : sum_signed vs ≤ℤ pos 0 = sum_at_most_zero vs (λ k. h (suc k)) in
      omega (arith, ints, a, b)

  -- fewer of them add up to no less
  pub sum_at_most_prefix : (n : ℕ) (vs : List ℤ) → ((k : ℕ) → get_or vs k (pos 0) ≤ℤ pos 0) → sum_signed vs ≤ℤ sum_signed (take n vs)
  sum_at_most_prefix zero vs h = sum_at_most_zero vs h
  sum_at_most_prefix (suc n) [] h = h 0
  sum_at_most_prefix (suc n) (v ∷ vs) h =
      let b : sum_signed vs ≤ℤ sum_signed (take n vs) = sum_at_most_prefix n vs (λ k. h (suc k)) in
      omega (arith, ints, b)

  pub sum_prefix_more : (n : ℕ) (vs : List ℤ) → sum_signed (take (suc n) vs) ≡ sum_signed (take n vs) +ℤ get_or vs n (pos 0)
  sum_prefix_more zero [] = refl
  sum_prefix_more (suc n) [] = refl
  sum_prefix_more zero (v ∷ vs) = omega (arith, ints)
  sum_prefix_more (suc n) (v ∷ vs) =
      let b : sum_signed (take (suc n) vs) ≡ sum_signed (take n vs) +ℤ get_or vs n (pos 0) = sum_prefix_more n vs in
      omega (arith, ints, b)

-- a job at the place that has k places after it costs at least its price and the place's
pub place_bound : (c : Class) (way : List (List ℕ)) (p : PriceLists) → AreFair c way p → (j d t k : ℕ) → time_in c j d ≡ Some t → (job_price c.ids p.jobs j +ℤ place_price p.places d k) ≤ℤ pos (wait_in c d + suc k * t)
place_bound c way p f j d t k e = elim (cases_lt k (length (queue_of way d))) [
  | inl lt ↦ f.used j d t k e lt
  | inr past ↦
      let a : job_price c.ids p.jobs j ≤ℤ pos (wait_in c d + suc (length (queue_of way d)) * t) = f.next j d t e in
      let b : place_price p.places d k ≤ℤ pos 0 = f.not_positive d k in
      let m : length (queue_of way d) * t ≤ k * t = mul-le-mul_right t past in
      omega (arith, ints, a, b, m)
]

pub some_value : (o : Option ℕ) → IsSome o → o ≡ Some (unwrap_or o 0)
some_value (Some t) h = refl
some_value None h = absurd (search rules)

-- the cost of a list of jobs on a device is at least the prices of the jobs and of all places there
pub list_bound : (c : Class) (way : List (List ℕ)) (p : PriceLists) → AreFair c way p → (d : ℕ) (jobs : List ℕ) → All (λ j. IsSome (time_in c j d)) jobs → (prices_of c.ids p.jobs jobs +ℤ sum_signed (take (length jobs) (places_on p.places d))) ≤ℤ pos (list_cost c d (wait_in c d) jobs)
list_bound c way p f d [] h = le_z_yes tt
list_bound c way p f d (j ∷ js) h =
    let able : IsSome (time_in c j d) = All-head (λ j'. IsSome (time_in c j' d)) j js h in
    let a : (job_price c.ids p.jobs j +ℤ place_price p.places d (length js)) ≤ℤ pos (wait_in c d + suc (length js) * time_on c j d) =
    place_bound c way p f j d (time_on c j d) (length js) (some_value (time_in c j d) able) in
    let b : (prices_of c.ids p.jobs js +ℤ sum_signed (take (length js) (places_on p.places d))) ≤ℤ pos (list_cost c d (wait_in c d) js) =
    list_bound c way p f d js (All-tail (λ j'. IsSome (time_in c j' d)) j js h) in
    let e : sum_signed (take (suc (length js)) (places_on p.places d)) ≡ sum_signed (take (length js) (places_on p.places d)) +ℤ place_price p.places d (length js) =
    sum_prefix_more (length js) (places_on p.places d) in
    omega (arith, ints, a, b, e)

pub list_total_bound : (c : Class) (way : List (List ℕ)) (p : PriceLists) → AreFair c way p → (d : ℕ) (jobs : List ℕ) → All (λ j. IsSome (time_in c j d)) jobs → (prices_of c.ids p.jobs jobs +ℤ sum_signed (places_on p.places d)) ≤ℤ pos (list_total c d (wait_in c d) jobs)
list_total_bound c way p f d jobs h =
    let a : (prices_of c.ids p.jobs jobs +ℤ sum_signed (take (length jobs) (places_on p.places d))) ≤ℤ pos (list_cost c d (wait_in c d) jobs) = list_bound c way p f d jobs h in
    let b : sum_signed (places_on p.places d) ≤ℤ sum_signed (take (length jobs) (places_on p.places d)) = sum_at_most_prefix (length jobs) (places_on p.places d) (f.not_positive d) in
    let e : list_total c d (wait_in c d) jobs ≡ list_cost c d (wait_in c d) jobs = list_cost_is c d (wait_in c d) jobs in
    omega (arith, ints, a, b, e)

pub prices_of-append : (ids : List ℕ) (ps : List ℤ) (xs ys : List ℕ) → prices_of ids ps (xs ++ ys) ≡ prices_of ids ps xs +ℤ prices_of ids ps ys
prices_of-append ids ps [] ys = omega (arith, ints)
prices_of-append ids ps (x ∷ xs) ys =
    let e : prices_of ids ps (xs ++ ys) ≡ prices_of ids ps xs +ℤ prices_of ids ps ys = prices_of-append ids ps xs ys in
    omega (arith, ints, e)

-- the place prices of n devices from one on
abbrev pub sum_devices : List (List ℤ) → ℕ → ℕ → ℤ
sum_devices places d zero = pos 0
sum_devices places d (suc n) = sum_signed (places_on places d) +ℤ sum_devices places (suc d) n

sum_devices-later : (vs : List ℤ) (vss : List (List ℤ)) (d n : ℕ) → sum_devices (vs ∷ vss) (suc d) n ≡ sum_devices vss d n
sum_devices-later vs vss d zero = refl
sum_devices-later vs vss d (suc n) = ap (λ z. sum_signed (places_on vss d) +ℤ z) (sum_devices-later vs vss (suc d) n)

pub sum_devices_all : (vss : List (List ℤ)) → sum_devices vss 0 (length vss) ≡ sum_lists vss
sum_devices_all [] = refl
sum_devices_all (vs ∷ vss) = ap (λ z. sum_signed vs +ℤ z) (sum_devices-later vs vss 0 (length vss) ∙ sum_devices_all vss)

-- each list is able on its device, the first list's device being d
abbrev pub AbleFrom : Class → ℕ → List (List ℕ) → Type 0
AbleFrom c d [] = Unit {0}
AbleFrom c d (q ∷ qs) = All (λ j. IsSome (time_in c j d)) q × AbleFrom c (suc d) qs

pub able_from : (c : Class) (d : ℕ) (qs : List (List ℕ)) → ((i : ℕ) → All (λ j. IsSome (time_in c j (d + i))) (queue_of qs i)) → AbleFrom c d qs
able_from c d [] h = tt
able_from c d (q ∷ qs) h =
    (rw add-zero at (h 0), able_from c (suc d) qs (λ i. let e : d + suc i ≡ suc d + i = omega arith in rw e at (h (suc i))))

pub lists_bound : (c : Class) (way : List (List ℕ)) (p : PriceLists) → AreFair c way p → (d : ℕ) (qs : List (List ℕ)) → AbleFrom c d qs → (prices_of c.ids p.jobs (concat qs) +ℤ sum_devices p.places d (length qs)) ≤ℤ pos (total_from c d qs)
lists_bound c way p f d [] h = le_z_yes tt
lists_bound c way p f d (q ∷ qs) h =
    let a : (prices_of c.ids p.jobs q +ℤ sum_signed (places_on p.places d)) ≤ℤ pos (list_total c d (wait_in c d) q) = list_total_bound c way p f d q h.0 in
    let b : (prices_of c.ids p.jobs (concat qs) +ℤ sum_devices p.places (suc d) (length qs)) ≤ℤ pos (total_from c (suc d) qs) = lists_bound c way p f (suc d) qs h.1 in
    let e : prices_of c.ids p.jobs (q ++ concat qs) ≡ prices_of c.ids p.jobs q +ℤ prices_of c.ids p.jobs (concat qs) = prices_of-append c.ids p.jobs q (concat qs) in
    omega (arith, ints, a, b, e)

-- weak duality
pub best_from_fair : (c : Class) (way : List (List ℕ)) (p : PriceLists) → IsClass c → IsWay c way → AreFair c way p → IsBest c way
unfolding times_named
best_from_fair c way p ok w f = record {
  is_way = w;
  least = λ other o.
      let a : (prices_of c.ids p.jobs (concat other) +ℤ sum_devices p.places 0 (length other)) ≤ℤ pos (total_from c 0 other) =
      lists_bound c way p f 0 other (able_from c 0 other (λ i. rw zero-add (o.able i))) in
      let b : prices_of c.ids p.jobs (concat other) ≡ sum_signed p.jobs = prices_of_all c.ids p.jobs (concat other) ok.rising f.one_each_job o.once in
      let n : length other ≡ length p.places = o.one_list_each ∙ sym w.one_list_each ∙ sym f.one_list_each in
      let d : sum_devices p.places 0 (length other) ≡ sum_lists p.places = ap (sum_devices p.places 0) n ∙ sum_devices_all p.places in
      let s : sum_signed p.jobs +ℤ sum_lists p.places ≡ pos (total_of c way) = f.sums in
      omega (arith, ints, a, b, d, s, total_is c ok other o);
}
