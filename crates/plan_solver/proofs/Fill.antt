-- A class whose jobs all have a device can be matched where all free places are shown.
use Rattle.std.proofs.Common.{◌≡◌, ℕ, suc, ◌*◌, ◌<◌, ◌≤◌, [], Option, Some, None, IfSome, length, get_or, ap, subst, ◌∙◌, refl, arith}
use Rattle.std.proofs.Math.Nat.{mul-le-mul_left, suc-mul}
use Rattle.std.proofs.lemmas.Nat.{mul-le}
use Rattle.std.proofs.lemmas.List.{get_or_default}
use Rattle.base_types.specs.declared.limits.TheConstants.Limits.{UNFINISHED_JOBS, JOB_TIME, WAIT}
use Rattle.plan_problem.specs.Time.{IsTime}
use Rattle.plan_problem.specs.Class.{Class, IsClass, place_of, time_in, wait_in}
use Rattle.plan_problem.proofs.Places.{timed_device, timed_place}
use Rattle.plan_prices.proofs.Bounds.{wait_small}
use Rattle.plan_solver.specs.declared.costs.TheConstants.{UNABLE}
use Rattle.plan_solver.specs.declared.times.Entries.{Entries}
use Rattle.plan_solver.specs.Costs.{cost_of, row_of}
use Rattle.plan_prices.specs.Able.{EachAble}
use Rattle.plan_solver.specs.Entries.{IsRead}
use Rattle.plan_solver.specs.AllPlaces.{CanFill, place_on}
use Rattle.plan_solver.proofs.Charges.{cost_with}
use Rattle.plan_solver.proofs.Filled.{some_time, timed_cost}

read_cost : (c : Class) (e : Entries) → IsRead c e → (j d after : ℕ) → j < length c.ids → d < length c.waits → cost_of e.costs j (place_on d after) ≡ cost_with (time_in c (get_or c.ids j 0) d) (wait_in c d) after
read_cost c e read j d after lj ld = timed_cost e.costs.waits.items (row_of e.costs j) d after (wait_in c d) (time_in c (get_or c.ids j 0) d) (read.times j d lj ld) (ap (λ w. get_or w d UNABLE) read.waits ∙ get_or_default c.waits d UNABLE 0 ld)

-- a time of a class is in its range
time_range : (c : Class) → IsClass c → (job d t : ℕ) → time_in c job d ≡ Some t → IsTime t
time_range c ok job d t e =
    let at = place_of c.ids job in
    let lt : at < length c.rows = omega (arith, timed_place c ok job d t e, ok.one_row_each) in
    let wide : d < length (get_or c.rows at []) = omega (arith, timed_device c ok job d t e, ok.one_time_each at [] lt) in
    subst (λ o. IfSome o IsTime) e (ok.times at [] lt d None wide)

low_with : (t wait after : ℕ) → t ≤ JOB_TIME → wait ≤ WAIT → after ≤ UNFINISHED_JOBS → cost_with (Some t) wait after < UNABLE
low_with t wait after lt lw la =
    let work : suc after * t ≤ suc UNFINISHED_JOBS * JOB_TIME = mul-le (suc after) t (suc UNFINISHED_JOBS) JOB_TIME (omega arith) lt in
    omega (arith, work)

rises_with : (o : Option ℕ) (wait after before : ℕ) → ((t : ℕ) → o ≡ Some t → 1 ≤ t) → after < before → cost_with o wait before < UNABLE → cost_with o wait after < cost_with o wait before
rises_with None wait after before pos lt low = absurd (omega (arith, low))
rises_with (Some t) wait after before pos lt low =
    omega (arith, low, pos t refl, suc-mul (suc after) t, mul-le-mul_left t (let more : suc (suc after) ≤ suc before = omega arith in more))

pub can_fill : (c : Class) (e : Entries) → IsClass c → EachAble c → IsRead c e → CanFill e.costs
can_fill c e ok able read = record {
  placed = λ j lj.
      let below : j < length c.ids = omega (arith, lj, read.rows) in
      let at = able j 0 below in
      let timed = some_time (time_in c (get_or c.ids j 0) at.0) at.1 in
      let ld = timed_device c ok (get_or c.ids j 0) at.0 timed.0 timed.1 in
      let range = time_range c ok (get_or c.ids j 0) at.0 timed.0 timed.1 in (
        at.0,
        omega (arith, ld, ap length read.waits, e.costs.waits.ok.0),
        λ after le.
            let is = read_cost c e read j at.0 after below ld ∙ ap (λ o. cost_with o (wait_in c at.0) after) timed.1 in
            omega (arith, is, low_with timed.0 (wait_in c at.0) after range.1 (wait_small c ok at.0) (omega (arith, le, read.rows, ok.few_jobs))),
      );
  rises = λ j d after before lj ld lt low.
      let below : j < length c.ids = omega (arith, lj, read.rows) in
      let wide : d < length c.waits = omega (arith, ld, ap length read.waits, e.costs.waits.ok.0) in
      let a = read_cost c e read j d after below wide in
      let b = read_cost c e read j d before below wide in
      omega (arith, a, b, rises_with (time_in c (get_or c.ids j 0) d) (wait_in c d) after before (λ t is. (time_range c ok (get_or c.ids j 0) d t is).0) lt (omega (arith, b, low)));
}
