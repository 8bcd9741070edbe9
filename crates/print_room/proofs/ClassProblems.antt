-- The problem of a class can be built, and each of its jobs has a device that is able.
use Rattle.std.proofs.Common.{◌≡◌, ◌&&◌, ◌==◌, true, false, is_none, IsNone, ℕ, zero, suc, ◌+◌, ◌*◌, ◌<◌, ◌≤◌, Bool, List, [], ◌∷◌, length, map, filter, nat_lt, cond, Option, Some, None, All, Contains, IsSome, IsSomeAnd, refl, sym, ap, subst, ◌∙◌, arith, get_or, inl, inr}
use Rattle.std.specs.Prelude.{slice_get}
use Rattle.std.specs.List.Sorted.{IsStrictlyIncreasing}
use Rattle.std.proofs.lemmas.Bool.{cases_lt}
use Rattle.std.proofs.lemmas.List.{get_or_past}
use Rattle.std.proofs.lemmas.List.Elements.{Contains-get_or, All-map, All-weaker, filter_passes}
use Rattle.base_types.specs.Needs.{JobNeeds}
use Rattle.base_types.specs.Device.{Device}
use Rattle.base_types.specs.declared.limits.TheConstants.Limits.{JOB_TIME, NOT_BEFORE, UNFINISHED_JOBS, DEVICES, AMOUNT}
use Rattle.job_objects.specs.Job.{JobRecord}
use Rattle.plan_problem.specs.Able.{IsAble}
use Rattle.base_types.specs.declared.needs.Cause.{Cause}
use Rattle.plan_problem.specs.Cause.{HasAbleDevice}
use Rattle.plan_problem.proofs.Causes.{cause_none}
use Rattle.plan_problem.specs.Class.{Class, IsClass, time_in}
use Rattle.plan_problem.specs.ClassJob.{JobOfClass, CanBuild, IsClassOf, printer_of}
use Rattle.plan_prices.specs.Way.{IsWay}
use Rattle.plan_prices.specs.Total.{total_of}
use Rattle.plan_prices.proofs.Bounds.{total_within}
use Rattle.plan_prices.specs.Able.{EachAble}
use Rattle.spool.specs.Spool.{IsSpool}
use Rattle.print_room.specs.State.{State, sets_of}
use Rattle.print_room.specs.Ready.{ready_of, belongs, class_of, cause_in}
use Rattle.print_room.specs.GoodPlan.{job_of_class}
use Rattle.print_room.proofs.Planned.{jobs_above}
use Rattle.spool.proofs.RisingIds.{RisesFrom, increasing_from_rises, filter_rises, ready_ids_rise}
use Rattle.print_room.proofs.ReadyJobs.{ready_unfinished, count_short}

-- a printer without devices has no device that is able
none_able : (needs : JobNeeds) (devices : List Device) → HasAbleDevice needs [] devices → ⊥
none_able needs devices (place, found) = at (slice_get devices place) found
  where
    at : (o : Option Device) → IsSomeAnd o (λ device. IsAble needs place device []) → ⊥
    at None h = h
    at (Some device) h = absurd (omega (arith, h.of_printer.1))

-- a job that has an able device was sent to a printer of the settings
known_printer : (needs : JobNeeds) (sets : List (List ℕ)) (devices : List Device) → HasAbleDevice needs (printer_of needs sets) devices → needs.printer < length sets
known_printer needs sets devices h = elim (cases_lt needs.printer (length sets)) [
  | inl lt ↦ lt
  | inr past ↦ absurd (none_able needs devices (subst (λ (set : List ℕ). HasAbleDevice needs set devices) (get_or_past sets needs.printer [] past) h))
]

class_ids : (jobs : List JobRecord) → map (λ j. j.id) (map job_of_class jobs) ≡ map (λ j. j.id) jobs
class_ids [] = refl
class_ids (job ∷ jobs) = ap (λ (xs : List ℕ). job.id ∷ xs) (class_ids jobs)

length_class : (jobs : List JobRecord) → length (map job_of_class jobs) ≡ length jobs
length_class [] = refl
length_class (job ∷ jobs) = ap suc (length_class jobs)

length_filter : (test : JobRecord → Bool) (jobs : List JobRecord) → length (filter test jobs) ≤ length jobs
length_filter test [] = omega arith
length_filter test (job ∷ jobs) = one (test job) (length_filter test jobs)
  where
    one : (b : Bool) → length (filter test jobs) ≤ length jobs → length (cond b (job ∷ filter test jobs) (filter test jobs)) ≤ suc (length jobs)
    one true h = omega (arith, h)
    one false h = omega (arith, h)

second : (a b : Bool) → a && b ≡ true → b ≡ true
second true b h = h
second false b h = absurd (cc)

no_cause : (o : Option Cause) → is_none o ≡ true → IsNone o
no_cause None h = refl
no_cause (Some cause) h = absurd (cc)

-- each job of a class has a device that is able
class_able : (s : State) (p : ℕ) → All (λ job. HasAbleDevice job.needs (printer_of job.needs (sets_of s.settings)) s.devices) (map job_of_class (class_of s p))
class_able s p =
    All-map (λ job. HasAbleDevice job.needs (printer_of job.needs (sets_of s.settings)) s.devices) job_of_class (class_of s p)
    (All-weaker (λ j. belongs s p j ≡ true) (λ j. HasAbleDevice j.needs (printer_of j.needs (sets_of s.settings)) s.devices)
    (λ j h. (cause_none j.needs (printer_of j.needs (sets_of s.settings)) s.devices).0 (no_cause (cause_in s j) (second (j.priority == p) (is_none (cause_in s j)) h)))
    (class_of s p) (filter_passes (belongs s p) (ready_of s)))

pub jobs_able : (s : State) (p : ℕ) (jobs : List JobOfClass) → jobs ≡ map job_of_class (class_of s p) → All (λ job. HasAbleDevice job.needs (printer_of job.needs (sets_of s.settings)) s.devices) jobs
jobs_able s p jobs is = subst (λ (js : List JobOfClass). All (λ job. HasAbleDevice job.needs (printer_of job.needs (sets_of s.settings)) s.devices) js) (sym is) (class_able s p)

module _ (s : State) (spool : IsSpool s.spool) where
  -- the ready jobs are ordered by rising id
  pub ready_rises : RisesFrom 0 (map (λ j. j.id) (ready_of s))
  ready_rises = ready_ids_rise s.spool spool s.paused

  pub ready_few : length (ready_of s) ≤ UNFINISHED_JOBS
  ready_few = omega (arith, ready_unfinished s.paused s.spool.jobs, spool.few_unfinished)

  pub above_few : (p : ℕ) → jobs_above p s ≤ UNFINISHED_JOBS
  above_few p = omega (arith, count_short (λ j. nat_lt p j.priority) (ready_of s), ready_few)

  module _ (p : ℕ) (waits : List ℕ) (jobs : List JobOfClass) (is : jobs ≡ map job_of_class (class_of s p)) where
    rising : IsStrictlyIncreasing (map (λ job. job.id) jobs)
    rising = subst (λ (js : List JobOfClass). IsStrictlyIncreasing (map (λ job. job.id) js)) (sym is)
        (subst (λ (xs : List ℕ). IsStrictlyIncreasing xs) (sym (class_ids (class_of s p))) (increasing_from_rises 0 (map (λ j. j.id) (class_of s p)) (filter_rises (belongs s p) 0 (ready_of s) ready_rises)))

    few : length jobs ≤ UNFINISHED_JOBS
    few = omega (arith, ap (λ (js : List JobOfClass). length js) is, length_class (class_of s p), length_filter (belongs s p) (ready_of s), ready_few)

    pub can_build : All (λ job. HasAbleDevice job.needs (printer_of job.needs (sets_of s.settings)) s.devices) jobs → length waits ≡ length s.devices → All (λ wait. wait ≤ NOT_BEFORE + UNFINISHED_JOBS * JOB_TIME) waits → length s.devices ≤ DEVICES → CanBuild jobs s.devices (sets_of s.settings) waits
    can_build able each short devices = record {
      rising = rising;
      known_printers = λ k d below. known_printer (get_or jobs k d).needs (sets_of s.settings) s.devices (able k d below);
      one_wait_each = each;
      short_waits = λ k d below. omega (arith, short k d below);
      few_jobs = few;
      few_devices = devices;
    }

-- under the waits that the classes above leave, a total is within the range of a text
pub total_bounded : (c : Class) (way : List (List ℕ)) (total : ℕ) → IsClass c → All (λ wait. wait ≤ NOT_BEFORE + UNFINISHED_JOBS * JOB_TIME) c.waits → IsWay c way → total ≡ total_of c way → total ≤ AMOUNT
total_bounded c way total ok short is_way stated = omega (arith, stated, total_within c ok (NOT_BEFORE + UNFINISHED_JOBS * JOB_TIME) short way is_way)

-- each job of the problem has a device that is able
able_at : (jobs : List JobOfClass) (devices : List Device) (sets : List (List ℕ)) (waits : List ℕ) (c : Class) → IsClassOf jobs devices sets waits c → (job : JobOfClass) → Contains jobs job → HasAbleDevice job.needs (printer_of job.needs sets) devices → (device : ℕ) × IsSome (time_in c job.id device)
able_at jobs devices sets waits c h job among (place, found) = (place, at (slice_get devices place) refl found)
  where
    at : (o : Option Device) → slice_get devices place ≡ o → IsSomeAnd o (λ device. IsAble job.needs place device (printer_of job.needs sets)) → IsSome (time_in c job.id place)
    at None is g = absurd g
    at (Some device) is g = (h.pairs job place device among is).able.1 g

id_at : (jobs : List JobOfClass) (k : ℕ) (d : JobOfClass) (e : ℕ) → k < length jobs → get_or (map (λ job. job.id) jobs) k e ≡ (get_or jobs k d).id
id_at [] k d e below = absurd (omega (arith, below))
id_at (job ∷ jobs) zero d e below = refl
id_at (job ∷ jobs) (suc k) d e below = id_at jobs k d e (omega (arith, below))

length_ids : (jobs : List JobOfClass) → length (map (λ job. job.id) jobs) ≡ length jobs
length_ids [] = refl
length_ids (job ∷ jobs) = ap suc (length_ids jobs)

pub each_able : (jobs : List JobOfClass) (devices : List Device) (sets : List (List ℕ)) (waits : List ℕ) (c : Class) → IsClassOf jobs devices sets waits c → All (λ job. HasAbleDevice job.needs (printer_of job.needs sets) devices) jobs → EachAble c
each_able [] devices sets waits c h able = λ k e below. absurd (omega (arith, below, ap (λ (xs : List ℕ). length xs) h.ids))
each_able (first ∷ others) devices sets waits c h able = λ k e below.
    let jobs : List JobOfClass = first ∷ others in
    let inside : k < length jobs = omega (arith, below, ap (λ (xs : List ℕ). length xs) h.ids, length_ids jobs) in
    let id : get_or c.ids k e ≡ (get_or jobs k first).id = ap (λ (xs : List ℕ). get_or xs k e) h.ids ∙ id_at jobs k first e inside in
    subst (λ (j : ℕ). (device : ℕ) × IsSome (time_in c j device)) (sym id) (able_at jobs devices sets waits c h (get_or jobs k first) (Contains-get_or jobs k first inside) (able k first inside))

-- a problem has as many jobs as its class
pub few_ids : (s : State) (p : ℕ) (waits : List ℕ) (c : Class) → IsClassOf (map job_of_class (class_of s p)) s.devices (sets_of s.settings) waits c → length c.ids ≤ length (class_of s p)
few_ids s p waits c h = omega (arith, ap (λ (xs : List ℕ). length xs) h.ids, length_ids (map job_of_class (class_of s p)), length_class (class_of s p))
