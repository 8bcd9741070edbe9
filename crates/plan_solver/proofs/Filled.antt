-- The results of a matching of all jobs of a class: the place of each job, and its cost there.
use Rattle.std.proofs.Common.{◌≡◌, ◌≢◌, ℕ, zero, suc, add-one, ◌+◌, ◌*◌, ◌<◌, ◌≤◌, List, Option, Some, None, length, vec_len, min, get_or, take, sum, ap, ◌∙◌, refl, arith, inl, inr}
use Rattle.std.specs.Option.{IsSome, unwrap_or}
use Rattle.std.specs.List.{range_with_len}
use Rattle.std.specs.List.Sorted.{IsPermutation}
use Rattle.std.proofs.Math.Seq.{take-suc}
use Rattle.std.proofs.lemmas.Bool.{cases_eq, cases_lt}
use Rattle.std.proofs.lemmas.Nat.{mul-le}
use Rattle.std.proofs.lemmas.List.{get_or_default}
use Rattle.std.proofs.lemmas.List.FromFn.{get_or-range_with_len, length-range_with_len}
use Rattle.std.proofs.lemmas.List.Sorted.{All-permutation, IsPermutation-sym, length_permutation}
use Rattle.std.proofs.lemmas.List.Sums.{sum_by_more}
use Rattle.base_types.specs.declared.limits.TheConstants.Limits.{UNFINISHED_JOBS, JOB_TIME}
use Rattle.plan_problem.specs.Class.{Class, IsClass, time_in, wait_in}
use Rattle.plan_problem.proofs.Places.{timed_device}
use Rattle.plan_prices.specs.Total.{time_on}
use Rattle.plan_prices.proofs.Bounds.{time_small, wait_small}
use Rattle.plan_solver.specs.declared.costs.Costs.{Costs}
use Rattle.plan_solver.specs.declared.costs.Place.{Place}
use Rattle.plan_solver.specs.declared.costs.TheConstants.{UNABLE}
use Rattle.plan_solver.specs.declared.matching.Matching.{Matching}
use Rattle.plan_solver.specs.declared.times.Entries.{Entries}
use Rattle.plan_solver.specs.Costs.{cost_at, cost_of, nowhere, row_of}
use Rattle.plan_solver.specs.Matching.{IsTight}
use Rattle.plan_solver.specs.Layout.{IsFilled, taken}
use Rattle.plan_prices.specs.Able.{EachAble}
use Rattle.plan_solver.specs.Entries.{IsRead}
use Rattle.plan_solver.specs.Answer.{cost_of_columns}
use Rattle.plan_solver.proofs.Apart.{jobs-below}
use Rattle.plan_solver.proofs.Charges.{cost_with, unable}
use Rattle.plan_solver.proofs.Laid.{on, on-other, on-same, taken-le, taken-none, taken-push}

-- all jobs of a class are matched
pub record Solves (c : Class) (e : Entries) (s : Matching) : Type 0 where
  pub ok : IsClass c
  pub able : EachAble c
  pub read : IsRead c e
  pub filled : IsFilled e.costs s
  pub all : IsPermutation (range_with_len 0 (vec_len e.costs.rows)) s.jobs.items

pub columns_len : (c : Class) (e : Entries) (s : Matching) → Solves c e s → vec_len s.columns ≡ length c.ids
columns_len c e s h =
    let n = length_permutation _ _ h.all in
    omega (arith, n, length-range_with_len 0 (vec_len e.costs.rows), h.read.rows, h.filled.matched.jobs, s.jobs.ok.0)

pub devices_len : (c : Class) (e : Entries) (s : Matching) → Solves c e s → vec_len e.costs.waits ≡ length c.waits
devices_len c e s h = omega (arith, ap length h.read.waits, e.costs.waits.ok.0)

pub job_in : (c : Class) (e : Entries) (s : Matching) → Solves c e s → (m : ℕ) → m < vec_len s.columns → get_or s.jobs.items m 0 < length c.ids
job_in c e s h m lt = omega (arith, jobs-below (vec_len e.costs.rows) s.jobs.items h.all m (omega (arith, lt, h.filled.matched.jobs, s.jobs.ok.0)), h.read.rows)

-- each job has a column
pub column_of_job : (c : Class) (e : Entries) (s : Matching) → Solves c e s → (j : ℕ) → j < length c.ids → (q : ℕ) × (q < vec_len s.columns) × (get_or s.jobs.items q 0 ≡ j)
column_of_job c e s h j lt =
    let jobs = s.jobs.items in
    let n = vec_len e.costs.rows in
    let P : ℕ → Type 0 = λ x. (q : ℕ) × (q < length jobs) × (get_or jobs q 0 ≡ x) in
    let at = All-permutation P jobs (range_with_len 0 n) (IsPermutation-sym _ _ h.all) (λ k d below. (k, below, get_or_default jobs k 0 d below)) j 0 (omega (arith, lt, length-range_with_len 0 n, h.read.rows)) in
    (at.0, omega (arith, at.1, h.filled.matched.jobs, s.jobs.ok.0), at.2 ∙ get_or-range_with_len 0 n j 0 (omega (arith, lt, h.read.rows)) ∙ omega arith)

-- the cost of a job on a device that is able, and on a device that isn't
wait_read : (c : Class) (e : Entries) (s : Matching) → Solves c e s → (d : ℕ) → d < length c.waits → get_or e.costs.waits.items d UNABLE ≡ wait_in c d
wait_read c e s h d lt = ap (λ w. get_or w d UNABLE) h.read.waits ∙ get_or_default c.waits d UNABLE 0 lt

pub timed_cost : (waits : List ℕ) (row : List ℕ) (d after wait : ℕ) (entry : Option ℕ) → get_or row d UNABLE ≡ unwrap_or entry UNABLE → get_or waits d UNABLE ≡ wait → cost_at waits row (record { device = d; after = after }) ≡ cost_with entry wait after
unfolding cost_at
timed_cost waits row d after wait None er ew = rw (er, ew) (unable wait after)
timed_cost waits row d after wait (Some time) er ew = rw (er, ew) refl

pub cost_read : (c : Class) (e : Entries) (s : Matching) → Solves c e s → (j d after : ℕ) → j < length c.ids → d < length c.waits → cost_of e.costs j (record { device = d; after = after }) ≡ cost_with (time_in c (get_or c.ids j 0) d) (wait_in c d) after
cost_read c e s h j d after lj ld = timed_cost e.costs.waits.items (row_of e.costs j) d after (wait_in c d) (time_in c (get_or c.ids j 0) d) (h.read.times j d lj ld) (wait_read c e s h d ld)

pub cost_timed : (c : Class) (e : Entries) (s : Matching) → Solves c e s → (j d after t : ℕ) → j < length c.ids → d < length c.waits → time_in c (get_or c.ids j 0) d ≡ Some t → cost_of e.costs j (record { device = d; after = after }) ≡ min (wait_in c d + suc after * t) UNABLE
cost_timed c e s h j d after t lj ld is = cost_read c e s h j d after lj ld ∙ ap (λ o. cost_with o (wait_in c d) after) is

-- a time of the class
pub some_time : (o : Option ℕ) → IsSome o → (t : ℕ) × (o ≡ Some t)
some_time None h = cc
some_time (Some t) h = (t, refl)

pub time_of_some : (c : Class) (job d t : ℕ) → time_in c job d ≡ Some t → time_on c job d ≡ t
time_of_some c job d t e = rw e refl

-- no job is charged as much as a device that isn't able costs
pub charged_low : (c : Class) (e : Entries) (s : Matching) → Solves c e s → (q : ℕ) → q < vec_len s.columns → get_or s.prices.items q 0 < UNABLE
charged_low c e s h q lt =
    let j = get_or s.jobs.items q 0 in
    let lj = job_in c e s h q lt in
    let able = h.able j 0 lj in
    let d = able.0 in
    let timed = some_time (time_in c (get_or c.ids j 0) d) able.1 in
    let t = timed.0 in
    let ld = timed_device c h.ok (get_or c.ids j 0) d t timed.1 in
    let after = taken d s.columns.items in
    let fair = h.filled.next q d lt (omega (arith, ld, devices_len c e s h)) in
    let cost = cost_timed c e s h j d after t lj ld timed.1 in
    let short : t ≤ JOB_TIME = rw (← time_of_some c (get_or c.ids j 0) d t timed.1) (time_small c h.ok (get_or c.ids j 0) d) in
    let few : suc after ≤ suc UNFINISHED_JOBS = omega (arith, taken-le d s.columns.items, s.columns.ok.0, columns_len c e s h, h.ok.few_jobs) in
    let work : suc after * t ≤ suc UNFINISHED_JOBS * JOB_TIME = mul-le (suc after) t (suc UNFINISHED_JOBS) JOB_TIME few short in
    omega (arith, fair, cost, work, wait_small c h.ok d)

-- the device of a column is able to print its job, whose cost there is by its place
pub record IsSatAt (c : Class) (costs : Costs) (s : Matching) (m : ℕ) (t : ℕ) : Type 0 where
  pub device_in : (get_or s.columns.items m nowhere).device < length c.waits
  pub timed : time_in c (get_or c.ids (get_or s.jobs.items m 0) 0) (get_or s.columns.items m nowhere).device ≡ Some t
  pub cost : cost_of costs (get_or s.jobs.items m 0) (get_or s.columns.items m nowhere) ≡ wait_in c (get_or s.columns.items m nowhere).device + suc (get_or s.columns.items m nowhere).after * t

cost_below : (o : Option ℕ) (wait after : ℕ) → cost_with o wait after < UNABLE → (t : ℕ) × (o ≡ Some t) × (cost_with o wait after ≡ wait + suc after * t)
cost_below None wait after lt = absurd (omega (arith, lt))
cost_below (Some t) wait after lt = (t, refl, omega (arith, lt))

pub sat_at : (c : Class) (e : Entries) (s : Matching) → Solves c e s → (m : ℕ) → m < vec_len s.columns → (t : ℕ) × IsSatAt c e.costs s m t
sat_at c e s h m lt =
    let place = get_or s.columns.items m nowhere in
    let j = get_or s.jobs.items m 0 in
    let ld : place.device < length c.waits = omega (arith, h.filled.laid.known m (omega (arith, lt, s.columns.ok.0)), devices_len c e s h) in
    let cost = cost_read c e s h j place.device place.after (job_in c e s h m lt) ld in
    let tight = h.filled.matched.tight.at m (omega (arith, lt, s.columns.ok.0)) in
    let found = cost_below (time_in c (get_or c.ids j 0) place.device) (wait_in c place.device) place.after (omega (arith, cost, tight, charged_low c e s h m lt)) in
    (found.0, record { device_in = ld; timed = found.1; cost = cost ∙ found.2 })

-- prices add up to costs and duals
pub sum_charged : (costs : Costs) (jobs prices : List ℕ) (columns : List Place) (duals : List ℕ) → IsTight (cost_of costs) jobs prices columns duals → length prices ≡ length columns → length duals ≡ length columns
    → (m : ℕ) → m ≤ length columns → sum (take m prices) ≡ cost_of_columns costs columns jobs m + sum (take m duals)
sum_charged costs jobs prices columns duals tight lp lr zero le = refl
sum_charged costs jobs prices columns duals tight lp lr (suc m) le =
    let before = sum_charged costs jobs prices columns duals tight lp lr m (omega arith) in
    let price' : sum (take (suc m) prices) ≡ sum (take m prices) + get_or prices m 0 = rw (← add-one) (sum_by_more (λ x. x) prices m 0 (omega arith)) in
    let dual' : sum (take (suc m) duals) ≡ sum (take m duals) + get_or duals m 0 = rw (← add-one) (sum_by_more (λ x. x) duals m 0 (omega arith)) in
    omega (arith, before, price', dual', tight.at m (omega arith))

-- each place below a device's number of places is a column
taken-suc : (d m : ℕ) (columns : List Place) → m < length columns → taken d (take (suc m) columns) ≡ taken d (take m columns) + on d (get_or columns m nowhere)
taken-suc d m columns lt = rw (take-suc columns m nowhere lt) (taken-push d (get_or columns m nowhere) (take m columns))

pub taken-here : (d m : ℕ) (columns : List Place) → m < length columns → (get_or columns m nowhere).device ≡ d → taken d (take (suc m) columns) ≡ suc (taken d (take m columns))
taken-here d m columns lt e = omega (arith, taken-suc d m columns lt, on-same d (get_or columns m nowhere) e)

pub taken-other : (d m : ℕ) (columns : List Place) → m < length columns → (get_or columns m nowhere).device ≢ d → taken d (take (suc m) columns) ≡ taken d (take m columns)
taken-other d m columns lt ne = omega (arith, taken-suc d m columns lt, on-other d (get_or columns m nowhere) ne)

pub column_below : (d k : ℕ) (columns : List Place) (m : ℕ) → m ≤ length columns → k < taken d (take m columns) → (q : ℕ) × (q < m) × ((get_or columns q nowhere).device ≡ d) × (taken d (take q columns) ≡ k)
column_below d k columns zero le lt = absurd (omega (arith, lt, taken-none d))
column_below d k columns (suc m) le lt =
    elim (cases_lt k (taken d (take m columns))) [
      | inl below ↦
          let found = column_below d k columns m (omega arith) below in
          (found.0, omega (arith, found.1), found.2, found.3)
      | inr past ↦ elim (cases_eq (get_or columns m nowhere).device d) [
        | inl same ↦ (m, omega arith, same, omega (arith, lt, past, taken-here d m columns (omega arith) same))
        | inr other ↦ absurd (omega (arith, lt, past, taken-other d m columns (omega arith) other))
      ]
    ]

taken-le_more : (d k m : ℕ) (columns : List Place) → k ≤ m → m ≤ length columns → taken d (take k columns) ≤ taken d (take m columns)
taken-le_more d k zero columns le lm = rw (let z : k ≡ 0 = omega arith in z) (omega arith)
taken-le_more d k (suc m) columns le lm = elim (cases_eq k (suc m)) [
  | inl e ↦ rw e (omega arith)
  | inr ne ↦ omega (arith, taken-le_more d k m columns (omega arith) (omega arith), taken-suc d m columns (omega arith))
]

-- a column of the device has fewer places after it than a later one
pub taken-prefix : (d k m : ℕ) (columns : List Place) → k < m → m ≤ length columns → (get_or columns k nowhere).device ≡ d → taken d (take k columns) < taken d (take m columns)
taken-prefix d k m columns lt le e = omega (arith, taken-here d k columns (omega arith) e, taken-le_more d (suc k) m columns (omega arith) le)
