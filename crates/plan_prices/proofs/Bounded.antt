-- Fair prices are small: at each used place the job's price and the place's are together just what
-- the job costs there, since both sides have the same sum.
use Rattle.std.proofs.Common.{◌≡◌, ℕ, zero, suc, ◌+◌, ◌-◌, ◌*◌, ◌<◌, ◌≤◌, List, [], ◌∷◌, ◌++◌, length, take, Some, None, IfSome, IsSome, ap, sym, ◌∙◌, subst, arith, ℤ, pos, neg_ℤ, ◌+ℤ◌, ◌≤ℤ◌, get_or, All, zero-add}
use Rattle.std.specs.List.{concat}
use Rattle.std.proofs.lemmas.Nat.{mul-le}
use Rattle.std.proofs.lemmas.Int.{ints}
use Rattle.std.proofs.lemmas.List.{get_or_default}
use Rattle.std.proofs.lemmas.List.Elements.{All-head, All-tail}
use Rattle.base_types.specs.declared.limits.TheConstants.Limits.{UNFINISHED_JOBS, JOB_TIME, WAIT}
use Rattle.plan_problem.specs.Time.{IsTime}
use Rattle.plan_problem.specs.Class.{Class, IsClass, place_of, time_in, wait_in}
use Rattle.plan_problem.proofs.Places.{place_at, timed_place, timed_device}
use Rattle.plan_prices.specs.Way.{IsWay, queue_of, times_named}
use Rattle.plan_prices.specs.Total.{time_on, list_cost, total_of}
use Rattle.plan_prices.specs.Prices.{PriceLists, AreFair, sum_signed, sum_lists, job_price, places_on, place_price}
use Rattle.plan_prices.proofs.Totals.{list_total, total_from, list_cost_is}
use Rattle.plan_prices.proofs.Completions.{total_is}
use Rattle.plan_prices.proofs.Sums.{prices_of, prices_of_all}
use Rattle.plan_prices.proofs.Duality.{place_bound, some_value, list_bound, list_total_bound, lists_bound, sum_prefix_more, sum_at_most_prefix, prices_of-append, sum_devices, sum_devices_all, AbleFrom, able_from}
use Rattle.plan_prices.proofs.Names.{all_concat, of_counted}
use Rattle.plan_prices.proofs.Bounds.{wait_small, queue_short}

-- a pair's time is in range
time_in_range : (c : Class) → IsClass c → (job device time : ℕ) → time_in c job device ≡ Some time → IsTime time
time_in_range c ok job device time e =
    let row : place_of c.ids job < length c.rows = (let known : place_of c.ids job < length c.ids = timed_place c ok job device time e in omega (arith, known, ok.one_row_each)) in
    let width : length (get_or c.rows (place_of c.ids job) []) ≡ length c.waits = ok.one_time_each (place_of c.ids job) [] row in
    let within : device < length (get_or c.rows (place_of c.ids job) []) = (let d : device < length c.waits = timed_device c ok job device time e in omega (arith, d, width)) in
    let entry : IfSome (time_in c job device) IsTime = ok.times (place_of c.ids job) [] row device None within in
    rw e at entry

module _ (c : Class) (way : List (List ℕ)) (p : PriceLists) (f : AreFair c way p) where
  -- the cost of a job at a place of a list
  abbrev cost_at : ℕ → List ℕ → ℕ → ℕ → ℕ
  cost_at d jobs i after = wait_in c d + suc after * time_on c (get_or jobs i 0) d

  -- the prices of a job at a place of a list, and of the place
  abbrev price_at : ℕ → List ℕ → ℕ → ℕ → ℤ
  price_at d jobs i after = job_price c.ids p.jobs (get_or jobs i 0) +ℤ place_price p.places d after

  -- the prices of a list, with the cost of one job in the place of its price, are at most the cost of the list
  list_slack : (d : ℕ) (jobs : List ℕ) → All (λ j. IsSome (time_in c j d)) jobs → (i after : ℕ) → i + suc after ≡ length jobs
      → ((prices_of c.ids p.jobs jobs +ℤ sum_signed (take (length jobs) (places_on p.places d))) +ℤ pos (cost_at d jobs i after)) ≤ℤ (pos (list_cost c d (wait_in c d) jobs) +ℤ price_at d jobs i after)
  list_slack d [] h i after e = absurd (omega arith)
  list_slack d (j ∷ js) h zero after e =
      let last : after ≡ length js = omega arith in
      let b : (prices_of c.ids p.jobs js +ℤ sum_signed (take (length js) (places_on p.places d))) ≤ℤ pos (list_cost c d (wait_in c d) js) =
      list_bound c way p f d js (All-tail (λ j'. IsSome (time_in c j' d)) j js h) in
      let s : sum_signed (take (suc (length js)) (places_on p.places d)) ≡ sum_signed (take (length js) (places_on p.places d)) +ℤ place_price p.places d (length js) =
      sum_prefix_more (length js) (places_on p.places d) in
      rw last (omega (arith, ints, b, s))
  list_slack d (j ∷ js) h (suc i) after e =
      let able : IsSome (time_in c j d) = All-head (λ j'. IsSome (time_in c j' d)) j js h in
      let a : (job_price c.ids p.jobs j +ℤ place_price p.places d (length js)) ≤ℤ pos (wait_in c d + suc (length js) * time_on c j d) =
      place_bound c way p f j d (time_on c j d) (length js) (some_value (time_in c j d) able) in
      let b : ((prices_of c.ids p.jobs js +ℤ sum_signed (take (length js) (places_on p.places d))) +ℤ pos (cost_at d js i after)) ≤ℤ (pos (list_cost c d (wait_in c d) js) +ℤ price_at d js i after) =
      list_slack d js (All-tail (λ j'. IsSome (time_in c j' d)) j js h) i after (omega arith) in
      let s : sum_signed (take (suc (length js)) (places_on p.places d)) ≡ sum_signed (take (length js) (places_on p.places d)) +ℤ place_price p.places d (length js) =
      sum_prefix_more (length js) (places_on p.places d) in
      omega (arith, ints, a, b, s)

  list_total_slack : (d : ℕ) (jobs : List ℕ) → All (λ j. IsSome (time_in c j d)) jobs → (i after : ℕ) → i + suc after ≡ length jobs
      → ((prices_of c.ids p.jobs jobs +ℤ sum_signed (places_on p.places d)) +ℤ pos (cost_at d jobs i after)) ≤ℤ (pos (list_total c d (wait_in c d) jobs) +ℤ price_at d jobs i after)
  list_total_slack d jobs h i after e =
      let a : ((prices_of c.ids p.jobs jobs +ℤ sum_signed (take (length jobs) (places_on p.places d))) +ℤ pos (cost_at d jobs i after)) ≤ℤ (pos (list_cost c d (wait_in c d) jobs) +ℤ price_at d jobs i after) = list_slack d jobs h i after e in
      let b : sum_signed (places_on p.places d) ≤ℤ sum_signed (take (length jobs) (places_on p.places d)) = sum_at_most_prefix (length jobs) (places_on p.places d) (f.not_positive d) in
      let t : list_total c d (wait_in c d) jobs ≡ list_cost c d (wait_in c d) jobs = list_cost_is c d (wait_in c d) jobs in
      omega (arith, ints, a, b, t)

  -- the same for the prices of all lists
  lists_slack : (d : ℕ) (qs : List (List ℕ)) → AbleFrom c d qs → (n i after : ℕ) → n < length qs → i + suc after ≡ length (get_or qs n [])
      → ((prices_of c.ids p.jobs (concat qs) +ℤ sum_devices p.places d (length qs)) +ℤ pos (cost_at (d + n) (get_or qs n []) i after)) ≤ℤ (pos (total_from c d qs) +ℤ price_at (d + n) (get_or qs n []) i after)
  lists_slack d [] h n i after l e = absurd (omega arith)
  lists_slack d (q ∷ qs) h zero i after l e =
      let here : d ≡ d + zero = omega arith in
      let P : ℕ → Type 0 = λ x. ((prices_of c.ids p.jobs (q ++ concat qs) +ℤ sum_devices p.places d (suc (length qs))) +ℤ pos (cost_at x q i after)) ≤ℤ (pos (total_from c d (q ∷ qs)) +ℤ price_at x q i after) in
      let a : ((prices_of c.ids p.jobs q +ℤ sum_signed (places_on p.places d)) +ℤ pos (cost_at d q i after)) ≤ℤ (pos (list_total c d (wait_in c d) q) +ℤ price_at d q i after) = list_total_slack d q h.0 i after e in
      let b : (prices_of c.ids p.jobs (concat qs) +ℤ sum_devices p.places (suc d) (length qs)) ≤ℤ pos (total_from c (suc d) qs) = lists_bound c way p f (suc d) qs h.1 in
      let s : prices_of c.ids p.jobs (q ++ concat qs) ≡ prices_of c.ids p.jobs q +ℤ prices_of c.ids p.jobs (concat qs) = prices_of-append c.ids p.jobs q (concat qs) in
      subst P here (omega (arith, ints, a, b, s))
  lists_slack d (q ∷ qs) h (suc n) i after l e =
      let there : suc d + n ≡ d + suc n = omega arith in
      let P : ℕ → Type 0 = λ x. ((prices_of c.ids p.jobs (q ++ concat qs) +ℤ sum_devices p.places d (suc (length qs))) +ℤ pos (cost_at x (get_or qs n []) i after)) ≤ℤ (pos (total_from c d (q ∷ qs)) +ℤ price_at x (get_or qs n []) i after) in
      let a : (prices_of c.ids p.jobs q +ℤ sum_signed (places_on p.places d)) ≤ℤ pos (list_total c d (wait_in c d) q) = list_total_bound c way p f d q h.0 in
      let b : ((prices_of c.ids p.jobs (concat qs) +ℤ sum_devices p.places (suc d) (length qs)) +ℤ pos (cost_at (suc d + n) (get_or qs n []) i after)) ≤ℤ (pos (total_from c (suc d) qs) +ℤ price_at (suc d + n) (get_or qs n []) i after) =
      lists_slack (suc d) qs h.1 n i after (omega arith) e in
      let s : prices_of c.ids p.jobs (q ++ concat qs) ≡ prices_of c.ids p.jobs q +ℤ prices_of c.ids p.jobs (concat qs) = prices_of-append c.ids p.jobs q (concat qs) in
      subst P there (omega (arith, ints, a, b, s))

  module _ (ok : IsClass c) (w : IsWay c way) where
    -- the prices at a used place are at least the cost of the job there
    tight : (d i after : ℕ) → d < length way → i + suc after ≡ length (queue_of way d) → pos (cost_at d (queue_of way d) i after) ≤ℤ price_at d (queue_of way d) i after
    unfolding times_named
    tight d i after l e =
        let a : ((prices_of c.ids p.jobs (concat way) +ℤ sum_devices p.places 0 (length way)) +ℤ pos (cost_at (0 + d) (queue_of way d) i after)) ≤ℤ (pos (total_from c 0 way) +ℤ price_at (0 + d) (queue_of way d) i after) =
        lists_slack 0 way (able_from c 0 way (λ k. rw zero-add (w.able k))) d i after l e in
        let b : prices_of c.ids p.jobs (concat way) ≡ sum_signed p.jobs = prices_of_all c.ids p.jobs (concat way) ok.rising f.one_each_job w.once in
        let s : sum_devices p.places 0 (length way) ≡ sum_lists p.places = ap (sum_devices p.places 0) (sym f.one_list_each) ∙ sum_devices_all p.places in
        let g : sum_signed p.jobs +ℤ sum_lists p.places ≡ pos (total_of c way) = f.sums in
        let z : 0 + d ≡ d = omega arith in
        let a' : ((prices_of c.ids p.jobs (concat way) +ℤ sum_devices p.places 0 (length way)) +ℤ pos (cost_at d (queue_of way d) i after)) ≤ℤ (pos (total_from c 0 way) +ℤ price_at d (queue_of way d) i after) = rw z at a in
        omega (arith, ints, a', b, s, g, total_is c ok way w)

    -- a job of a list has a price from 1 to twice the longest wait
    abbrev IsSmall : ℕ → Type 0
    IsSmall job = (pos 1 ≤ℤ job_price c.ids p.jobs job) × (job_price c.ids p.jobs job ≤ℤ pos (2 * WAIT))

    used_small : (d i after : ℕ) → d < length way → i + suc after ≡ length (queue_of way d) → IsSmall (get_or (queue_of way d) i 0)
    used_small d i after l e =
        let job = get_or (queue_of way d) i 0 in
        let t = time_on c job d in
        let able : IsSome (time_in c job d) = w.able d i 0 (omega arith) in
        let at : time_in c job d ≡ Some t = some_value (time_in c job d) able in
        let range : IsTime t = time_in_range c ok job d t at in
        let low : pos (wait_in c d + suc after * t) ≤ℤ (job_price c.ids p.jobs job +ℤ place_price p.places d after) = tight d i after l e in
        let free : place_price p.places d after ≤ℤ pos 0 = f.not_positive d after in
        let high : job_price c.ids p.jobs job ≤ℤ pos (wait_in c d + suc (length (queue_of way d)) * t) = f.next job d t at in
        let few : length (queue_of way d) ≤ UNFINISHED_JOBS = queue_short c ok way w d in
        let most : suc (length (queue_of way d)) * t ≤ suc UNFINISHED_JOBS * JOB_TIME = mul-le (suc (length (queue_of way d))) t (suc UNFINISHED_JOBS) JOB_TIME (omega (arith, few)) range.1 in
        let wait : wait_in c d ≤ WAIT = wait_small c ok d in
        let least : 1 ≤ t = range.0 in
        (omega (arith, ints, low, free, least), omega (arith, ints, high, most, wait))

    all_small : All IsSmall (concat way)
    all_small = all_concat IsSmall way (λ n q l i x m.
        let same : get_or way n q ≡ queue_of way n = get_or_default way n q [] l in
        let within : i < length (queue_of way n) = rw same at m in
        let last : i + suc (length (queue_of way n) - suc i) ≡ length (queue_of way n) = omega arith in
        rw (same, get_or_default (queue_of way n) i x 0 within) (used_small n i (length (queue_of way n) - suc i) l last))

    pub job_prices_bounded : All (λ price. (pos 1 ≤ℤ price) × (price ≤ℤ pos (2 * WAIT))) p.jobs
    unfolding times_named
    job_prices_bounded k d l =
        let within : k < length c.ids = omega (arith, l, f.one_each_job) in
        let at : place_of c.ids (get_or c.ids k 0) ≡ k = place_at c.ids ok.rising k within in
        let is : job_price c.ids p.jobs (get_or c.ids k 0) ≡ get_or p.jobs k d = ap (λ n. get_or p.jobs n (pos 0)) at ∙ get_or_default p.jobs k (pos 0) d l in
        let small : IsSmall (get_or c.ids k 0) = of_counted IsSmall (concat way) (get_or c.ids k 0) 0 (w.once k 0 within) all_small in
        rw is at small

    pub place_prices_bounded : All (λ prices. All (λ price. (neg_ℤ (pos (2 * WAIT)) ≤ℤ price) × (price ≤ℤ pos 0)) prices) p.places
    place_prices_bounded d places l k x m =
        let same : get_or p.places d places ≡ places_on p.places d = get_or_default p.places d places [] l in
        let within : k < length (places_on p.places d) = rw same at m in
        let is : get_or (get_or p.places d places) k x ≡ place_price p.places d k = ap (λ v. get_or v k x) same ∙ get_or_default (places_on p.places d) k x (pos 0) within in
        let count : length (places_on p.places d) ≡ length (queue_of way d) = f.one_each_place d in
        let below : d < length way = omega (arith, l, f.one_list_each) in
        let i = length (queue_of way d) - suc k in
        let last : i + suc k ≡ length (queue_of way d) = omega (arith, within, count) in
        let low : pos (cost_at d (queue_of way d) i k) ≤ℤ price_at d (queue_of way d) i k = tight d i k below last in
        let small : IsSmall (get_or (queue_of way d) i 0) = used_small d i k below last in
        let free : place_price p.places d k ≤ℤ pos 0 = f.not_positive d k in
        rw is (omega (arith, ints, low, small.1), free)
