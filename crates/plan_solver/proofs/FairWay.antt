-- A matching of all jobs of a class gives a way with fair prices.
use Rattle.std.proofs.Common.{◌≡◌, ◌≢◌, ◌==◌, ℕ, zero, suc, ◌+◌, ◌*◌, ◌<◌, ◌≤◌, List, [], ◌∷◌, ◌++◌, Some, cond, length, vec_len, map, get_or, take, sum, ap, sym, ◌∙◌, refl, arith, inl, inr, All, Contains, ℤ, pos, ◌+ℤ◌, ◌≤ℤ◌}
use Rattle.std.specs.Option.{IsSome}
use Rattle.std.specs.List.{concat}
use Rattle.std.proofs.Math.ListN.{get_or-map}
use Rattle.std.proofs.Math.Seq.{take-length}
use Rattle.std.proofs.lemmas.Bool.{cases_eq, cases_lt, eq-eqb, ne_eqb}
use Rattle.std.proofs.lemmas.Int.{ints}
use Rattle.std.proofs.lemmas.List.{get_or_past, get_or_push, get_or_append_left, get_or_default, length-map, length_push}
use Rattle.std.proofs.lemmas.List.Elements.{All-cons, All-head, All-nil, All-tail}
use Rattle.std.proofs.lemmas.List.Folds.{concat-append}
use Rattle.std.proofs.lemmas.List.Kept.{AllPairs-from_increasing}
use Rattle.std.proofs.lemmas.List.Sums.{sum_by-append, sum_by-cons, sum_by_push}
use Rattle.plan_problem.specs.Class.{Class, place_of, time_in, wait_in}
use Rattle.plan_problem.proofs.Places.{at_place, timed_device, timed_place}
use Rattle.plan_prices.specs.Way.{IsWay, queue_of, times_named}
use Rattle.plan_prices.specs.Total.{cost_from, list_cost, time_on, total_of}
use Rattle.plan_prices.specs.Prices.{AreFair, IsProved, PriceLists, job_price, place_price, places_on, sum_lists, sum_signed}
use Rattle.plan_prices.proofs.Names.{all_concat}
use Rattle.plan_prices.proofs.Sums.{Rises, count_of, count_of-cons, count_of-no, count_of-yes, rises}
use Rattle.plan_prices.proofs.Completions.{by_places as total_placed}
use Rattle.plan_solver.specs.declared.costs.Costs.{Costs}
use Rattle.plan_solver.specs.declared.costs.Place.{Place}
use Rattle.plan_solver.specs.declared.matching.Matching.{Matching}
use Rattle.plan_solver.specs.declared.times.Entries.{Entries}
use Rattle.plan_solver.specs.Costs.{cost_of, nowhere}
use Rattle.plan_solver.specs.Layout.{taken}
use Rattle.plan_solver.specs.Answer.{cost_of_columns, of_devices, place_prices_of, price_of_dual, queue_of_columns, duals_of_columns, way_of}
use Rattle.plan_solver.proofs.Filled.{Solves, cost_timed, devices_len, job_in, sat_at, column_below, column_of_job, columns_len, sum_charged, taken-prefix, taken-here, taken-other, time_of_some}
use Rattle.plan_solver.proofs.Laid.{taken-none}
use Rattle.plan_solver.proofs.Queues.{queue-here, queue-other}
use Rattle.plan_solver.proofs.Spread.{Spreads, by_places, of_devices-all, of_devices-at, of_devices-length, shuffled, spread, sum_to}

-- the queue of a device
pub queue-length : (d : ℕ) (ids : List ℕ) (columns : List Place) (jobs : List ℕ) (m : ℕ) → m ≤ length columns → length (queue_of_columns d ids columns jobs m) ≡ taken d (take m columns)
queue-length d ids columns jobs zero le = sym (taken-none d)
queue-length d ids columns jobs (suc m) le = elim (cases_eq (get_or columns m nowhere).device d) [
  | inl e ↦ omega (arith, ap (λ (l : List ℕ). length l) (queue-here d ids columns jobs m e), taken-here d m columns (omega arith) e, queue-length d ids columns jobs m (omega arith))
  | inr ne ↦ omega (arith, ap (λ (l : List ℕ). length l) (queue-other d ids columns jobs m ne), taken-other d m columns (omega arith) ne, queue-length d ids columns jobs m (omega arith))
]

-- a property of the job of each column of the device is a property of its queue
queue-all : (P : ℕ → Type 0) (d : ℕ) (ids : List ℕ) (columns : List Place) (jobs : List ℕ) (m : ℕ) → ((k : ℕ) → k < m → (get_or columns k nowhere).device ≡ d → P (get_or ids (get_or jobs k 0) 0)) → All P (queue_of_columns d ids columns jobs m)
queue-all P d ids columns jobs zero h = All-nil P
queue-all P d ids columns jobs (suc m) h = elim (cases_eq (get_or columns m nowhere).device d) [
  | inl e ↦ rw (queue-here d ids columns jobs m e) (All-cons P (get_or ids (get_or jobs m 0) 0) (queue_of_columns d ids columns jobs m) (h m (omega arith) e) (queue-all P d ids columns jobs m (λ k lt on. h k (omega arith) on)))
  | inr ne ↦ rw (queue-other d ids columns jobs m ne) (queue-all P d ids columns jobs m (λ k lt on. h k (omega arith) on))
]

-- the duals of a device's columns
duals-here : (d : ℕ) (columns : List Place) (duals : List ℕ) (m : ℕ) → (get_or columns m nowhere).device ≡ d → duals_of_columns d columns duals (suc m) ≡ duals_of_columns d columns duals m ++ get_or duals m 0 ∷ []
duals-here d columns duals m e = rw (eq-eqb (get_or columns m nowhere).device d e) refl

duals-other : (d : ℕ) (columns : List Place) (duals : List ℕ) (m : ℕ) → (get_or columns m nowhere).device ≢ d → duals_of_columns d columns duals (suc m) ≡ duals_of_columns d columns duals m
duals-other d columns duals m ne = rw (ne_eqb (get_or columns m nowhere).device d ne) refl

pub duals-length : (d : ℕ) (columns : List Place) (duals : List ℕ) (m : ℕ) → m ≤ length columns → length (duals_of_columns d columns duals m) ≡ taken d (take m columns)
duals-length d columns duals zero le = sym (taken-none d)
duals-length d columns duals (suc m) le = elim (cases_eq (get_or columns m nowhere).device d) [
  | inl e ↦ omega (arith, ap (λ (l : List ℕ). length l) (duals-here d columns duals m e), length_push (duals_of_columns d columns duals m) (get_or duals m 0), taken-here d m columns (omega arith) e, duals-length d columns duals m (omega arith))
  | inr ne ↦ omega (arith, ap (λ (l : List ℕ). length l) (duals-other d columns duals m ne), taken-other d m columns (omega arith) ne, duals-length d columns duals m (omega arith))
]

-- the dual of a column is at its place
duals-at : (d : ℕ) (columns : List Place) (duals : List ℕ) (q m : ℕ) → q < m → m ≤ length columns → (get_or columns q nowhere).device ≡ d → get_or (duals_of_columns d columns duals m) (taken d (take q columns)) 0 ≡ get_or duals q 0
duals-at d columns duals q zero lt le e = absurd (omega arith)
duals-at d columns duals q (suc m) lt le e = elim (cases_eq q m) [
  | inl same ↦
      let on : (get_or columns m nowhere).device ≡ d = rw (← same) e in
      rw (duals-here d columns duals m on, same) (get_or_push (duals_of_columns d columns duals m) (get_or duals m 0) 0 (taken d (take m columns)) (duals-length d columns duals m (omega arith)))
  | inr other ↦
      let before = duals-at d columns duals q m (omega arith) (omega arith) e in
      elim (cases_eq (get_or columns m nowhere).device d) [
        | inr ne ↦ rw (duals-other d columns duals m ne) before
        | inl on ↦
            let in_list : taken d (take q columns) < length (duals_of_columns d columns duals m) = rw (duals-length d columns duals m (omega arith)) (taken-prefix d q m columns (omega arith) (omega arith) e) in
            rw (duals-here d columns duals m on, get_or_append_left (duals_of_columns d columns duals m) (get_or duals m 0 ∷ []) 0 (taken d (take q columns)) in_list) before
      ]
]

-- each job of a rising list once
count_none : (i : ℕ) (is : List ℕ) → All (λ y. i < y) is → count_of is i ≡ 0
count_none i [] h = refl
count_none i (x ∷ xs) h =
    let above : i < x = All-head (λ y. i < y) x xs h in
    count_of-no x xs i (λ e. omega arith) ∙ count_none i xs (All-tail (λ y. i < y) x xs h)

count_once : (ids : List ℕ) → Rises ids → All (λ j. count_of ids j ≡ 1) ids
count_once [] r = All-nil (λ j. count_of [] j ≡ 1)
count_once (i ∷ is) r = All-cons (λ j. count_of (i ∷ is) j ≡ 1) i is
    (omega (arith, count_of-yes i is i refl, count_none i is r.0))
    (λ k d lt. let above : i < get_or is k d = r.0 k d lt in count_of-no i is (get_or is k d) (λ e. omega arith) ∙ count_once is r.1 k d lt)

-- 1 if two names are equal, else 0
abbrev is_name : ℕ → ℕ → ℕ
is_name job id = cond (id == job) 1 0

count_devices : (f : ℕ → List ℕ) (job n : ℕ) → count_of (concat (of_devices f n)) job ≡ sum_to (λ d. count_of (f d) job) n
count_devices f job zero = refl
count_devices f job (suc n) =
    let joined : concat (of_devices f n ++ f n ∷ []) ≡ concat (of_devices f n) ++ (f n ++ []) = concat-append (of_devices f n) (f n ∷ []) in
    let parts : count_of (concat (of_devices f n) ++ (f n ++ [])) job ≡ count_of (concat (of_devices f n)) job + count_of (f n ++ []) job = sum_by-append (is_name job) (concat (of_devices f n)) (f n ++ []) in
    let last : count_of (f n ++ []) job ≡ count_of (f n) job + 0 = sum_by-append (is_name job) (f n) [] in
    omega (arith, ap (λ l. count_of l job) joined, parts, last, count_devices f job n)

names_spread : (c : Class) (e : Entries) (s : Matching) → Solves c e s → (job : ℕ) → Spreads (λ d m. count_of (queue_of_columns d e.ids.items s.columns.items s.jobs.items m) job) (λ m. is_name job (get_or e.ids.items (get_or s.jobs.items m 0) 0)) (λ m. (get_or s.columns.items m nowhere).device) (vec_len e.costs.waits) (vec_len s.columns)
names_spread c e s h job =
    let ids = e.ids.items in
    let columns = s.columns.items in
    let jobs = s.jobs.items in
    record {
      none = λ d. refl;
      known = λ m lt. h.filled.laid.known m (omega (arith, lt, s.columns.ok.0));
      here = λ m lt. let d = (get_or columns m nowhere).device in omega (arith, ap (λ l. count_of l job) (queue-here d ids columns jobs m refl), count_of-cons (get_or ids (get_or jobs m 0) 0) (queue_of_columns d ids columns jobs m) job);
      other = λ m d lt ne. ap (λ l. count_of l job) (queue-other d ids columns jobs m (λ q. ne (sym q)));
    }

named_once : (c : Class) (e : Entries) (s : Matching) → Solves c e s → All (λ job. count_of (concat (way_of e s)) job ≡ 1) c.ids
named_once c e s h k o lt =
    let job = get_or c.ids k o in
    let n = vec_len s.columns in
    let D = vec_len e.costs.waits in
    let ids = e.ids.items in
    let w : ℕ → ℕ = λ j. is_name job (get_or ids j 0) in
    let devices = count_devices (λ d. queue_of_columns d ids s.columns.items s.jobs.items n) job D in
    let columns = spread _ _ _ D n (names_spread c e s h job) n (omega arith) in
    let numbers : sum_to (λ m. w (get_or s.jobs.items m 0)) n ≡ sum_to w (vec_len e.costs.rows) = shuffled w (vec_len e.costs.rows) n s.jobs.items h.all (omega (arith, s.jobs.ok.0, h.filled.matched.jobs)) in
    let all : sum_to w (vec_len e.costs.rows) ≡ count_of ids job = by_places (is_name job) ids 0 (vec_len e.costs.rows) (omega (arith, h.read.rows, ap (λ (l : List ℕ). length l) h.read.ids)) in
    let once : count_of c.ids job ≡ 1 = count_once c.ids (rises c.ids (AllPairs-from_increasing c.ids h.ok.rising)) k o lt in
    devices ∙ columns ∙ numbers ∙ all ∙ ap (λ l. count_of l job) h.read.ids ∙ once

-- the id of a matched job is one of the class
id_known : (c : Class) (e : Entries) (s : Matching) → Solves c e s → (m : ℕ) → m < vec_len s.columns → Contains c.ids (get_or e.ids.items (get_or s.jobs.items m 0) 0)
id_known c e s h m lt = rw h.read.ids (let j = get_or s.jobs.items m 0 in let lj = job_in c e s h m lt in (j, lj, get_or_default c.ids j (get_or c.ids j 0) 0 lj))

id_able : (c : Class) (e : Entries) (s : Matching) → Solves c e s → (m : ℕ) → m < vec_len s.columns → IsSome (time_in c (get_or e.ids.items (get_or s.jobs.items m 0) 0) (get_or s.columns.items m nowhere).device)
id_able c e s h m lt =
    let at = sat_at c e s h m lt in
    let some : IsSome (Some at.0) = refl in
    rw (h.read.ids, at.1.timed) some

queue_at : (c : Class) (e : Entries) (s : Matching) → Solves c e s → (d : ℕ) → d < length c.waits → queue_of (way_of e s) d ≡ queue_of_columns d e.ids.items s.columns.items s.jobs.items (vec_len s.columns)
queue_at c e s h d lt = of_devices-at (λ (q : ℕ). queue_of_columns q e.ids.items s.columns.items s.jobs.items (vec_len s.columns)) (vec_len e.costs.waits) d [] (omega (arith, lt, devices_len c e s h))

queue_past : (c : Class) (e : Entries) (s : Matching) → Solves c e s → (d : ℕ) → length c.waits ≤ d → queue_of (way_of e s) d ≡ []
queue_past c e s h d le = get_or_past (way_of e s) d [] (omega (arith, le, devices_len c e s h, of_devices-length (λ (q : ℕ). queue_of_columns q e.ids.items s.columns.items s.jobs.items (vec_len s.columns)) (vec_len e.costs.waits)))

pub is_way : (c : Class) (e : Entries) (s : Matching) → Solves c e s → IsWay c (way_of e s)
unfolding times_named
is_way c e s h = record {
  one_list_each = of_devices-length (λ (q : ℕ). queue_of_columns q e.ids.items s.columns.items s.jobs.items (vec_len s.columns)) (vec_len e.costs.waits) ∙ devices_len c e s h;
  known = all_concat (Contains c.ids) (way_of e s) (of_devices-all (All (Contains c.ids)) (λ (q : ℕ). queue_of_columns q e.ids.items s.columns.items s.jobs.items (vec_len s.columns)) (vec_len e.costs.waits) (λ d. queue-all (Contains c.ids) d e.ids.items s.columns.items s.jobs.items (vec_len s.columns) (λ k lt on. id_known c e s h k lt)));
  once = named_once c e s h;
  able = λ d. elim (cases_lt d (length c.waits)) [
    | inl lt ↦ rw (queue_at c e s h d lt) (queue-all (λ job. IsSome (time_in c job d)) d e.ids.items s.columns.items s.jobs.items (vec_len s.columns) (λ k below on. rw (← on) (id_able c e s h k below)))
    | inr past ↦ rw (queue_past c e s h d past) (All-nil (λ job. IsSome (time_in c job d)))
  ];
}

-- the total, column by column
cost_from-append : (c : Class) (from : ℕ) (lists : List (List ℕ)) (last : List ℕ) → cost_from c from (lists ++ last ∷ []) ≡ cost_from c from lists + list_cost c (from + length lists) (wait_in c (from + length lists)) last
cost_from-append c from [] last = let e : from ≡ from + 0 = omega arith in ap (λ k. list_cost c k (wait_in c k) last + 0) e ∙ omega arith
cost_from-append c from (q ∷ qs) last =
    let e : suc from + length qs ≡ from + suc (length qs) = omega arith in
    omega (arith, cost_from-append c (suc from) qs last, ap (λ k. list_cost c k (wait_in c k) last) e)

cost_devices : (c : Class) (f : ℕ → List ℕ) (n : ℕ) → cost_from c 0 (of_devices f n) ≡ sum_to (λ d. list_cost c d (wait_in c d) (f d)) n
cost_devices c f zero = refl
cost_devices c f (suc n) =
    let e : 0 + length (of_devices f n) ≡ n = omega (arith, of_devices-length f n) in
    omega (arith, cost_from-append c 0 (of_devices f n) (f n), ap (λ k. list_cost c k (wait_in c k) (f n)) e, cost_devices c f n)

cost_columns : (costs : Costs) (columns : List Place) (jobs : List ℕ) (n : ℕ) → cost_of_columns costs columns jobs n ≡ sum_to (λ m. cost_of costs (get_or jobs m 0) (get_or columns m nowhere)) n
cost_columns costs columns jobs zero = refl
cost_columns costs columns jobs (suc n) = omega (arith, cost_columns costs columns jobs n)

costs_spread : (c : Class) (e : Entries) (s : Matching) → Solves c e s → Spreads (λ d m. list_cost c d (wait_in c d) (queue_of_columns d e.ids.items s.columns.items s.jobs.items m)) (λ m. cost_of e.costs (get_or s.jobs.items m 0) (get_or s.columns.items m nowhere)) (λ m. (get_or s.columns.items m nowhere).device) (vec_len e.costs.waits) (vec_len s.columns)
costs_spread c e s h =
    let ids = e.ids.items in
    let columns = s.columns.items in
    let jobs = s.jobs.items in
    record {
      none = λ d. refl;
      known = λ m lt. h.filled.laid.known m (omega (arith, lt, s.columns.ok.0));
      here = λ m lt.
          let place = get_or columns m nowhere in
          let d = place.device in
          let id = get_or ids (get_or jobs m 0) 0 in
          let rest = queue_of_columns d ids columns jobs m in
          let at = sat_at c e s h m lt in
          let same : id ≡ get_or c.ids (get_or jobs m 0) 0 = ap (λ l. get_or l (get_or jobs m 0) 0) h.read.ids in
          let time : time_on c id d ≡ at.0 = ap (λ k. time_on c k d) same ∙ time_of_some c (get_or c.ids (get_or jobs m 0) 0) d at.0 at.1.timed in
          let len : length rest ≡ place.after = queue-length d ids columns jobs m (omega (arith, lt, s.columns.ok.0)) ∙ sym (h.filled.laid.places m (omega (arith, lt, s.columns.ok.0))) in
          let more : list_cost c d (wait_in c d) (id ∷ rest) ≡ (wait_in c d + suc place.after * at.0) + list_cost c d (wait_in c d) rest = ap (λ k. (wait_in c d + suc k * time_on c id d) + list_cost c d (wait_in c d) rest) len ∙ ap (λ k. (wait_in c d + suc place.after * k) + list_cost c d (wait_in c d) rest) time in
          omega (arith, ap (λ l. list_cost c d (wait_in c d) l) (queue-here d ids columns jobs m refl), more, at.1.cost);
      other = λ m d lt ne. ap (λ l. list_cost c d (wait_in c d) l) (queue-other d ids columns jobs m (λ q. ne (sym q)));
    }

pub total_is : (c : Class) (e : Entries) (s : Matching) → Solves c e s → total_of c (way_of e s) ≡ cost_of_columns e.costs s.columns.items s.jobs.items (vec_len s.columns)
total_is c e s h =
    let n = vec_len s.columns in
    let D = vec_len e.costs.waits in
    total_placed c h.ok (way_of e s) (is_way c e s h)
    ∙ cost_devices c (λ d. queue_of_columns d e.ids.items s.columns.items s.jobs.items n) D
    ∙ spread _ _ _ D n (costs_spread c e s h) n (omega arith)
    ∙ sym (cost_columns e.costs s.columns.items s.jobs.items n)

-- the sums of the prices
sum_pos : (u : List ℕ) → sum_signed (map pos u) ≡ pos (sum u)
sum_pos [] = refl
sum_pos (x ∷ xs) = omega (arith, ints, sum_pos xs, sum_by-cons (λ y. y) x xs)

sum_duals : (r : List ℕ) → sum_signed (map price_of_dual r) ≡ price_of_dual (sum r)
sum_duals [] = refl
sum_duals (x ∷ xs) = omega (arith, ints, sum_duals xs, sum_by-cons (λ y. y) x xs)

sum_lists-push : (lists : List (List ℤ)) (last : List ℤ) → sum_lists (lists ++ last ∷ []) ≡ sum_lists lists +ℤ sum_signed last
sum_lists-push [] last = omega (arith, ints)
sum_lists-push (q ∷ qs) last = omega (arith, ints, sum_lists-push qs last)

duals_devices : (f : ℕ → List ℕ) (n : ℕ) → sum_lists (of_devices (λ d. map price_of_dual (f d)) n) ≡ price_of_dual (sum_to (λ d. sum (f d)) n)
duals_devices f zero = refl
duals_devices f (suc n) = omega (arith, ints, sum_lists-push (of_devices (λ d. map price_of_dual (f d)) n) (map price_of_dual (f n)), sum_duals (f n), duals_devices f n)

duals_spread : (c : Class) (e : Entries) (s : Matching) → Solves c e s → Spreads (λ d m. sum (duals_of_columns d s.columns.items s.duals.items m)) (λ m. get_or s.duals.items m 0) (λ m. (get_or s.columns.items m nowhere).device) (vec_len e.costs.waits) (vec_len s.columns)
duals_spread c e s h =
    let columns = s.columns.items in
    let duals = s.duals.items in
    record {
      none = λ d. refl;
      known = λ m lt. h.filled.laid.known m (omega (arith, lt, s.columns.ok.0));
      here = λ m lt. let d = (get_or columns m nowhere).device in omega (arith, ap (λ (l : List ℕ). sum l) (duals-here d columns duals m refl), sum_by_push (λ x. x) (duals_of_columns d columns duals m) (get_or duals m 0));
      other = λ m d lt ne. ap (λ (l : List ℕ). sum l) (duals-other d columns duals m (λ q. ne (sym q)));
    }

places_sum : (c : Class) (e : Entries) (s : Matching) → Solves c e s → sum_lists (place_prices_of e s) ≡ price_of_dual (sum s.duals.items)
places_sum c e s h =
    let n = vec_len s.columns in
    let D = vec_len e.costs.waits in
    let devices = duals_devices (λ d. duals_of_columns d s.columns.items s.duals.items n) D in
    let columns = spread _ _ _ D n (duals_spread c e s h) n (omega arith) in
    let all : sum_to (λ m. get_or s.duals.items m 0) n ≡ sum s.duals.items = by_places (λ x. x) s.duals.items 0 n (omega (arith, s.duals.ok.0, h.filled.matched.duals)) in
    devices ∙ ap price_of_dual (columns ∙ all)

charged_sum : (c : Class) (e : Entries) (s : Matching) → Solves c e s → sum s.prices.items ≡ cost_of_columns e.costs s.columns.items s.jobs.items (vec_len s.columns) + sum s.duals.items
charged_sum c e s h =
    let n = vec_len s.columns in
    let all = sum_charged e.costs s.jobs.items s.prices.items s.columns.items s.duals.items h.filled.matched.tight (omega (arith, s.prices.ok.0, s.columns.ok.0, h.filled.matched.prices)) (omega (arith, s.duals.ok.0, s.columns.ok.0, h.filled.matched.duals)) n (omega (arith, s.columns.ok.0)) in
    let p : sum (take n s.prices.items) ≡ sum s.prices.items = ap (λ k. sum (take k s.prices.items)) (let q : n ≡ length s.prices.items = omega (arith, s.prices.ok.0, h.filled.matched.prices) in q) ∙ ap (λ (l : List ℕ). sum l) (take-length s.prices.items) in
    let r : sum (take n s.duals.items) ≡ sum s.duals.items = ap (λ k. sum (take k s.duals.items)) (let q : n ≡ length s.duals.items = omega (arith, s.duals.ok.0, h.filled.matched.duals) in q) ∙ ap (λ (l : List ℕ). sum l) (take-length s.duals.items) in
    omega (arith, all, p, r)

-- the price of a place
place_price_is : (c : Class) (e : Entries) (s : Matching) → Solves c e s → (d after : ℕ) → d < length c.waits → place_price (place_prices_of e s) d after ≡ price_of_dual (get_or (duals_of_columns d s.columns.items s.duals.items (vec_len s.columns)) after 0)
place_price_is c e s h d after lt =
    let n = vec_len s.columns in
    ap (λ (l : List ℤ). get_or l after (pos 0)) (of_devices-at (λ (q : ℕ). map price_of_dual (duals_of_columns q s.columns.items s.duals.items n)) (vec_len e.costs.waits) d [] (omega (arith, lt, devices_len c e s h)))
    ∙ get_or-map price_of_dual (duals_of_columns d s.columns.items s.duals.items n) after 0

places_past : (c : Class) (e : Entries) (s : Matching) → Solves c e s → (d : ℕ) → length c.waits ≤ d → places_on (place_prices_of e s) d ≡ []
places_past c e s h d le = get_or_past (place_prices_of e s) d [] (omega (arith, le, devices_len c e s h, of_devices-length (λ (q : ℕ). map price_of_dual (duals_of_columns q s.columns.items s.duals.items (vec_len s.columns))) (vec_len e.costs.waits)))

price_not_positive : (dual : ℕ) → price_of_dual dual ≤ℤ pos 0
price_not_positive dual = omega (arith, ints)

-- the prices of jobs, by number
pub record IsCharged (s : Matching) (u : List ℕ) : Type 0 where
  pub len : length u ≡ vec_len s.columns
  pub total : sum u ≡ sum s.prices.items
  pub at : (q : ℕ) → q < vec_len s.columns → get_or u (get_or s.jobs.items q 0) 0 ≡ get_or s.prices.items q 0

abbrev before_at : ℕ → ℕ → Place
before_at d after = record { device = d; after = after }

-- a place by its parts
place_eq : (p : Place) (d after : ℕ) → p.device ≡ d → p.after ≡ after → p ≡ record { device = d; after = after }
place_eq p d after ed ea = ap (λ (x : ℕ). before_at x p.after) ed ∙ ap (λ (y : ℕ). before_at d y) ea

-- whose price a job of the class has
charged_at : (c : Class) (e : Entries) (s : Matching) (u : List ℕ) → Solves c e s → IsCharged s u → (job d t : ℕ) → time_in c job d ≡ Some t → (q : ℕ) × (q < vec_len s.columns) × (job_price c.ids (map pos u) job ≡ pos (get_or s.prices.items q 0)) × ((after : ℕ) → cost_of e.costs (get_or s.jobs.items q 0) (record { device = d; after = after }) ≤ wait_in c d + suc after * t)
charged_at c e s u h p job d t is =
    let at = place_of c.ids job in
    let below = timed_place c h.ok job d t is in
    let column = column_of_job c e s h at below in
    let q = column.0 in
    let name : get_or c.ids (get_or s.jobs.items q 0) 0 ≡ job = ap (λ k. get_or c.ids k 0) column.2 ∙ at_place c.ids job below in
    let time : time_in c (get_or c.ids (get_or s.jobs.items q 0) 0) d ≡ Some t = ap (λ k. time_in c k d) name ∙ is in
    let price : job_price c.ids (map pos u) job ≡ pos (get_or u at 0) = get_or-map pos u at 0 in
    let same : get_or u at 0 ≡ get_or s.prices.items q 0 = ap (λ k. get_or u k 0) (sym column.2) ∙ p.at q column.1 in
    (q, column.1, price ∙ ap pos same, λ after. omega (arith, cost_timed c e s h (get_or s.jobs.items q 0) d after t (job_in c e s h q column.1) (timed_device c h.ok job d t is) time))

fair_used : (price dual cost bound : ℕ) (u v : ℤ) → u ≡ pos price → v ≡ price_of_dual dual → price ≤ cost + dual → cost ≤ bound → (u +ℤ v) ≤ℤ pos bound
fair_used price dual cost bound u v eu ev fair le = omega (arith, ints, eu, ev, fair, le)

pub are_fair : (c : Class) (e : Entries) (s : Matching) (u : List ℕ) → Solves c e s → IsCharged s u → AreFair c (way_of e s) (record { jobs = map pos u; places = place_prices_of e s })
are_fair c e s u h p =
    let n = vec_len s.columns in
    let columns = s.columns.items in
    let duals = s.duals.items in
    let queues : (d : ℕ) → d < length c.waits → length (queue_of (way_of e s) d) ≡ taken d columns = λ d lt. ap (λ (l : List ℕ). length l) (queue_at c e s h d lt) ∙ queue-length d e.ids.items columns s.jobs.items n (omega (arith, s.columns.ok.0)) ∙ ap (λ l. taken d l) (ap (λ k. take k columns) (let q : n ≡ length columns = omega (arith, s.columns.ok.0) in q) ∙ take-length columns) in
    record {
      one_each_job = length-map u pos ∙ p.len ∙ columns_len c e s h;
      one_list_each = of_devices-length (λ (q : ℕ). map price_of_dual (duals_of_columns q columns duals n)) (vec_len e.costs.waits) ∙ sym (of_devices-length (λ (q : ℕ). queue_of_columns q e.ids.items columns s.jobs.items n) (vec_len e.costs.waits));
      one_each_place = λ d. elim (cases_lt d (length c.waits)) [
        | inl lt ↦
            let at = of_devices-at (λ (q : ℕ). map price_of_dual (duals_of_columns q columns duals n)) (vec_len e.costs.waits) d [] (omega (arith, lt, devices_len c e s h)) in
            omega (arith, ap (λ (l : List ℤ). length l) at, length-map (duals_of_columns d columns duals n) price_of_dual, duals-length d columns duals n (omega (arith, s.columns.ok.0)), ap (λ (l : List ℕ). length l) (queue_at c e s h d lt), queue-length d e.ids.items columns s.jobs.items n (omega (arith, s.columns.ok.0)))
        | inr past ↦ omega (arith, ap (λ (l : List ℤ). length l) (places_past c e s h d past), ap (λ (l : List ℕ). length l) (queue_past c e s h d past))
      ];
      not_positive = λ d after. elim (cases_lt d (length c.waits)) [
        | inl lt ↦ rw (place_price_is c e s h d after lt) (price_not_positive (get_or (duals_of_columns d columns duals n) after 0))
        | inr past ↦ rw (places_past c e s h d past) (omega (arith, ints))
      ];
      used = λ job d t after is below.
          let ld = timed_device c h.ok job d t is in
          let q = charged_at c e s u h p job d t is in
          let at = column_below d after columns n (omega (arith, s.columns.ok.0)) (rw (ap (λ l. taken d l) (ap (λ k. take k columns) (let x : n ≡ length columns = omega (arith, s.columns.ok.0) in x) ∙ take-length columns)) (omega (arith, below, queues d ld))) in
          let dual : get_or (duals_of_columns d columns duals n) after 0 ≡ get_or duals at.0 0 = ap (λ k. get_or (duals_of_columns d columns duals n) k 0) (sym at.3) ∙ duals-at d columns duals at.0 n at.1 (omega (arith, s.columns.ok.0)) at.2 in
          let in_columns : at.0 < length columns = omega (arith, at.1, s.columns.ok.0) in
          let spot : get_or columns at.0 nowhere ≡ record { device = d; after = after } = place_eq (get_or columns at.0 nowhere) d after at.2 (h.filled.laid.places at.0 in_columns ∙ ap (λ k. taken k (take at.0 columns)) at.2 ∙ at.3) in
          let fair = h.filled.matched.fair.at q.0 at.0 (omega (arith, q.1, s.jobs.ok.0, h.filled.matched.jobs)) in_columns in
          fair_used (get_or s.prices.items q.0 0) (get_or duals at.0 0) (cost_of e.costs (get_or s.jobs.items q.0 0) (get_or columns at.0 nowhere)) (wait_in c d + suc after * t) _ _ q.2 (place_price_is c e s h d after ld ∙ ap price_of_dual dual) fair (rw spot (q.3 after));
      next = λ job d t is.
          let ld = timed_device c h.ok job d t is in
          let q = charged_at c e s u h p job d t is in
          let fair = h.filled.next q.0 d q.1 (omega (arith, ld, devices_len c e s h)) in
          let low = q.3 (taken d columns) in
          rw (q.2, queues d ld) (omega (arith, ints, fair, low));
      sums = omega (arith, ints, sum_pos u, places_sum c e s h, charged_sum c e s h, p.total, total_is c e s h);
    }

pub proved : (c : Class) (e : Entries) (s : Matching) (u : List ℕ) → Solves c e s → IsCharged s u → IsProved c (way_of e s) (record { jobs = map pos u; places = place_prices_of e s }) (cost_of_columns e.costs s.columns.items s.jobs.items (vec_len s.columns))
proved c e s u h p = record {
  is_way = is_way c e s h;
  fair = are_fair c e s u h p;
  stated = sym (total_is c e s h);
}

abbrev prices_as : List ℤ → List (List ℤ) → PriceLists
prices_as jobs places = record { jobs = jobs; places = places }

pub proved_as : (c : Class) (e : Entries) (s : Matching) (u : List ℕ) (way : List (List ℕ)) (prices : PriceLists) (total : ℕ) → Solves c e s → IsCharged s u
    → way ≡ way_of e s → prices.jobs ≡ map pos u → prices.places ≡ place_prices_of e s → total ≡ cost_of_columns e.costs s.columns.items s.jobs.items (vec_len s.columns) → IsProved c way prices total
proved_as c e s u way prices total h p ew ej ep et =
    let both : prices ≡ prices_as (map pos u) (place_prices_of e s) = ap (λ j. prices_as j prices.places) ej ∙ ap (λ q. prices_as (map pos u) q) ep in
    rw (ew, both, et) (proved c e s u h p)
