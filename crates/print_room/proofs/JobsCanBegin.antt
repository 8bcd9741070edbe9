-- Devices can begin the jobs that a good plan lets them begin: each job waits, and begins on one device alone.
use Rattle.std.proofs.Common.{◌≡◌, ◌⊎◌, ◌∙◌, ◌==◌, ◌+◌, ◌<◌, ◌≤◌, ◌&&◌, ℕ, zero, suc, Bool, true, false, cond, not, if◌then◌else◌, List, [], ◌∷◌, ◌++◌, length, map, filter, count_by, Contains, All, get_or, drop, Option, Some, None, option_to_list, refl, sym, ap, subst, arith, inl, inr, true≢false}
use Rattle.std.specs.Prelude.{slice_get, option_map, IfSome}
use Rattle.std.specs.List.{concat, list_any}
use Rattle.std.specs.Option.{option_map_or}
use Rattle.std.proofs.lemmas.Bool.{cases_eq, eq-eqb, ne_eqb, and_parts}
use Rattle.std.proofs.lemmas.List.Elements.{All-head, All-tail, All-weaker, All-contains, Contains-append_left, Contains-append_right}
use Rattle.std.proofs.lemmas.List.Sums.{sum_by-cons, sum_by-append}
use Rattle.base_types.specs.Device.{Device}
use Rattle.base_types.specs.declared.device.Activity.{Activity}
use Rattle.base_types.specs.declared.device.Activity.TheVariants.{Running, Stopped}
use Rattle.job_objects.specs.Job.{JobRecord}
use Rattle.job_objects.specs.JobState.{is_pending}
use Rattle.job_objects.specs.declared.job_state.JobState.{JobState}
use Rattle.job_objects.specs.declared.job_state.JobState.TheVariants.{Pending, PendingHeld, Processing, Canceled, Aborted, Completed, Stopped as Interrupted}
use Rattle.plan_prices.specs.declared.plan.PlannedClass.{PlannedClass}
use Rattle.plan_prices.specs.Way.{IsWay, queue_of, times_named}
use Rattle.print_room.specs.declared.started.Started.{Started}
use Rattle.print_room.specs.Dispatch.{first_of, first_of_queue, or_next, runs_idle, is_free, starts_from, starts_of, beginning, beginning_all, marked_state, Dispatches}
use Rattle.plan_prices.specs.Plan.{PlanRecord}
use Rattle.base_types.specs.declared.needs.Stranded.{Stranded}
use Rattle.job_objects.specs.declared.job_change.JobChange.TheVariants.{Begin}
use Rattle.spool.specs.Spooled.{SpooledRecord, changed, retired, marked}
use Rattle.spool.specs.Jobs.{spooled_at, with_job}
use Rattle.spool.specs.Calls.{is_ready, paused_at, marked_by}
use Rattle.spool.specs.Spool.{IsSpool}
use Rattle.spool.specs.Sound.{FitsState, IsSound}
use Rattle.spool.proofs.Ids.{changed_id, marked_id}
use Rattle.job_objects.specs.JobStep.{changed_from}
use Rattle.spool.specs.OnDevice.{is_on_device}
use Rattle.spool.proofs.OnDevice.{found_map, found_other, found_with, changed_on, stay_with, marked_on, stay_map}
use Rattle.print_room.specs.Activity.{job_on, wait_of}
use Rattle.print_room.specs.State.{State, with_device, doing}
use Rattle.print_room.specs.Ready.{ready_of, belongs}
use Rattle.print_room.specs.GoodPlan.{IsGoodPlan, waits_of}
use Rattle.print_room.specs.DeviceJobs.{job_of, Agree, AllKeep}
use Rattle.print_room.specs.Beginning.{is_waiting, waits_at, CanBegin, AllCanBegin}
use Rattle.spool.proofs.RisingIds.{RisesFrom, filter_rises, head_or, above_low, job_ids_rise}
use Rattle.print_room.proofs.ClassProblems.{ready_rises}
use Rattle.print_room.proofs.Checked.{all_ids, class_ids, apart_classes}
use Rattle.print_room.proofs.Starts.{first_place, begins_devices, split_at, starts_inside}
use Rattle.print_room.proofs.DeviceJobs.{job_elsewhere, job_found, found_device, agree_begins, agree_stay}
use Rattle.print_room.proofs.DocumentsStay.{keep_from, keep_then}

-- ---- the first job of a device's list is a job of its class, and of no other device

-- the number of times that a job is among names
abbrev times : List ℕ → ℕ → ℕ
times names job = count_by (λ id. id == job) names

itself : (job : ℕ) → (job == job) ≡ true
itself job = eq-eqb job job refl

first_counts : (job : ℕ) (rest : List ℕ) → 1 ≤ times (job ∷ rest) job
first_counts job rest = omega (arith, sum_by-cons (λ id. cond (id == job) 1 0) job rest, ap {B = ℕ} (λ (b : Bool). cond b 1 0) (itself job))

counts_queue : (queue names : List ℕ) (job : ℕ) → times (queue ++ names) job ≡ times queue job + times names job
counts_queue queue names job = sum_by-append (λ id. cond (id == job) 1 0) queue names

-- a job that is first in a queue is named
named_once : (way : List (List ℕ)) (k job : ℕ) (rest : List ℕ) → queue_of way k ≡ job ∷ rest → 1 ≤ times (concat way) job
named_once [] k job rest is = absurd (cc)
named_once (q ∷ qs) zero job rest is = omega (arith, counts_queue q (concat qs) job, subst (λ (names : List ℕ). 1 ≤ times names job) (sym is) (first_counts job rest))
named_once (q ∷ qs) (suc k) job rest is = omega (arith, counts_queue q (concat qs) job, named_once qs k job rest is)

-- a job that is first in two queues is named twice
named_twice : (way : List (List ℕ)) (k l job : ℕ) (rest more : List ℕ) → k < l → queue_of way k ≡ job ∷ rest → queue_of way l ≡ job ∷ more → 2 ≤ times (concat way) job
named_twice [] k l job rest more before is too = absurd (cc)
named_twice (q ∷ qs) k zero job rest more before is too = absurd (omega (arith, before))
named_twice (q ∷ qs) zero (suc l) job rest more before is too =
    omega (arith, counts_queue q (concat qs) job, subst (λ (names : List ℕ). 1 ≤ times names job) (sym is) (first_counts job rest), named_once qs l job more too)
named_twice (q ∷ qs) (suc k) (suc l) job rest more before is too =
    omega (arith, counts_queue q (concat qs) job, named_twice qs k l job rest more (omega (arith, before)) is too)

queue_contained : (way : List (List ℕ)) (k job : ℕ) (rest : List ℕ) → queue_of way k ≡ job ∷ rest → Contains (concat way) job
queue_contained [] k job rest is = absurd (cc)
queue_contained (q ∷ qs) zero job rest is = Contains-append_left q (concat qs) job (subst (λ (names : List ℕ). Contains names job) (sym is) (0, omega arith, refl))
queue_contained (q ∷ qs) (suc k) job rest is = Contains-append_right q (concat qs) job (queue_contained qs k job rest is)

-- the job that a class has for a device is first in its queue there
first_reaches : (class : PlannedClass) (place : ℕ) (queue : List ℕ) (start : Started) → first_of_queue class place queue ≡ Some start → (rest : List ℕ) × (queue ≡ start.job ∷ rest)
first_reaches class place [] start is = absurd (cc)
first_reaches class place (job ∷ rest) start is = (rest, ap (λ (o : Option Started). option_map_or (λ s. s.job) o job ∷ rest) is)

-- the ids of a class
abbrev ids_of : PlannedClass → List ℕ
ids_of class = class.problem.ids

class_has : (class : PlannedClass) → IsWay class.problem class.priced.way → (place : ℕ) (start : Started) → first_of_queue class place (queue_of class.priced.way place) ≡ Some start → Contains (ids_of class) start.job
class_has class way place start is =
    let first = first_reaches class place (queue_of class.priced.way place) start is in
    All-contains (Contains (ids_of class)) (concat class.priced.way) start.job way.known (queue_contained class.priced.way place start.job first.0 first.1)

once_in : (class : PlannedClass) → IsWay class.problem class.priced.way → (k l : ℕ) (a b : Started) → k < l → first_of_queue class k (queue_of class.priced.way k) ≡ Some a → first_of_queue class l (queue_of class.priced.way l) ≡ Some b → a.job ≡ b.job → ⊥
unfolding times_named
once_in class way k l a b before one other same =
    let first = first_reaches class k (queue_of class.priced.way k) a one in
    let second = first_reaches class l (queue_of class.priced.way l) b other in
    let too : queue_of class.priced.way l ≡ a.job ∷ second.0 = second.1 ∙ ap (λ (job : ℕ). job ∷ second.0) (sym same) in
    let twice : 2 ≤ times (concat class.priced.way) a.job = named_twice class.priced.way k l a.job first.0 second.0 before first.1 too in
    let once : times (concat class.priced.way) a.job ≡ 1 = All-contains (λ job. times (concat class.priced.way) job ≡ 1) (ids_of class) a.job way.once (class_has class way k a one) in
    absurd (omega (arith, twice, once))

-- ---- classes whose jobs are apart

-- some class has the job
abbrev SomeHas : List PlannedClass → ℕ → Type 0
SomeHas [] job = ⊥
SomeHas (class ∷ classes) job = Contains (ids_of class) job ⊎ SomeHas classes job

-- each class has a way, and no job of a later class
abbrev pub AllApart : List PlannedClass → Type 0
AllApart [] = Unit {0}
AllApart (class ∷ classes) = IsWay class.problem class.priced.way × ((job : ℕ) → Contains (ids_of class) job → SomeHas classes job → ⊥) × AllApart classes

-- the class from which the first job of a device's list comes
or_from : (first next : Option Started) (start : Started) → or_next first next ≡ Some start → (first ≡ Some start) ⊎ ((first ≡ None) × (next ≡ Some start))
or_from None next start is = inr (refl, is)
or_from (Some first) next start is = inl is

some_has : (classes : List PlannedClass) → AllApart classes → (place : ℕ) (start : Started) → first_of classes place ≡ Some start → SomeHas classes start.job
some_has [] apart place start is = absurd (cc)
some_has (class ∷ classes) apart place start is = from (or_from (first_of_queue class place (queue_of class.priced.way place)) (first_of classes place) start is) (λ later. some_has classes apart.2 place start later)
  where
    from : (first_of_queue class place (queue_of class.priced.way place) ≡ Some start) ⊎ ((first_of_queue class place (queue_of class.priced.way place) ≡ None) × (first_of classes place ≡ Some start)) → (first_of classes place ≡ Some start → SomeHas classes start.job) → SomeHas (class ∷ classes) start.job
    from (inl here) rest = inl (class_has class apart.0 place start here)
    from (inr later) rest = inr (rest later.1)

-- two devices begin different jobs
pub begin_apart : (classes : List PlannedClass) → AllApart classes → (k l : ℕ) (a b : Started) → k < l → first_of classes k ≡ Some a → first_of classes l ≡ Some b → a.job ≡ b.job → ⊥
begin_apart [] apart k l a b before one other same = absurd (cc)
begin_apart (class ∷ classes) apart k l a b before one other same =
    from (or_from (first_of_queue class k (queue_of class.priced.way k)) (first_of classes k) a one) (or_from (first_of_queue class l (queue_of class.priced.way l)) (first_of classes l) b other) (λ x y. begin_apart classes apart.2 k l a b before x y same)
  where
    from : (first_of_queue class k (queue_of class.priced.way k) ≡ Some a) ⊎ ((first_of_queue class k (queue_of class.priced.way k) ≡ None) × (first_of classes k ≡ Some a)) → (first_of_queue class l (queue_of class.priced.way l) ≡ Some b) ⊎ ((first_of_queue class l (queue_of class.priced.way l) ≡ None) × (first_of classes l ≡ Some b)) → (first_of classes k ≡ Some a → first_of classes l ≡ Some b → ⊥) → ⊥
    from (inl x) (inl y) rest = once_in class apart.0 k l a b before x y same
    from (inl x) (inr y) rest = apart.1 a.job (class_has class apart.0 k a x) (subst (λ (job : ℕ). SomeHas classes job) (sym same) (some_has classes apart.2 l b y.1))
    from (inr x) (inl y) rest = apart.1 b.job (class_has class apart.0 l b y) (subst (λ (job : ℕ). SomeHas classes job) same (some_has classes apart.2 k a x.1))
    from (inr x) (inr y) rest = rest x.1 y.1

-- a job of some class is a job of the class at a place
has_at : (classes : List PlannedClass) (job : ℕ) → SomeHas classes job → (k : ℕ) × (k < length classes) × ((d : PlannedClass) → Contains (ids_of (get_or classes k d)) job)
has_at [] job has = absurd has
has_at (class ∷ classes) job (inl here) = (0, omega arith, λ d. here)
has_at (class ∷ classes) job (inr later) = let rest = has_at classes job later in (suc rest.0, omega (arith, rest.1), rest.2)

-- from the properties of the classes by their places
pub apart_from : (classes : List PlannedClass) → ((k : ℕ) (d : PlannedClass) → k < length classes → IsWay (get_or classes k d).problem (get_or classes k d).priced.way)
    → ((i k : ℕ) (d : PlannedClass) → i < k → k < length classes → (job : ℕ) → Contains (ids_of (get_or classes k d)) job → Contains (ids_of (get_or classes i d)) job → ⊥) → AllApart classes
apart_from [] ways apart = tt
apart_from (class ∷ classes) ways apart = (
  ways 0 class (omega arith),
  λ job here later. let at = has_at classes job later in apart 0 (suc at.0) class (omega arith) (omega (arith, at.1)) job (at.2 class) here,
  apart_from classes (λ k d below. ways (suc k) d (omega (arith, below))) (λ i k d before below job one other. apart (suc i) (suc k) d (omega (arith, before)) (omega (arith, below)) job one other),
)

-- ---- the jobs of a plan wait

some_filtered : (b : Bool) (job : JobRecord) (kept all : List JobRecord) (id : ℕ) → (Contains (map (λ j. j.id) kept) id → Contains (map (λ j. j.id) all) id) → Contains (map (λ j. j.id) (cond b (job ∷ kept) kept)) id → Contains (map (λ j. j.id) (job ∷ all)) id
some_filtered b job kept all id rest has = elim (head_or b job kept id has) [
  | inl first ↦ (0, omega arith, sym first.1)
  | inr later ↦ let at = rest later in (suc at.0, omega (arith, at.1), at.2)
]

filtered_among : (test : JobRecord → Bool) (jobs : List JobRecord) (id : ℕ) → Contains (map (λ j. j.id) (filter test jobs)) id → Contains (map (λ j. j.id) jobs) id
filtered_among test [] id has = has
filtered_among test (job ∷ jobs) id has = some_filtered (test job) job (filter test jobs) jobs id (filtered_among test jobs id) has

first_of_both : (a b : Bool) → a && b ≡ true → a ≡ true
first_of_both a b h = (and_parts a b h).0

-- no device has a pending job
sound_waits : (state : JobState) (incoming held on : Bool) → FitsState state incoming held on → is_pending state ≡ true → (is_pending state && not on) ≡ true
sound_waits Pending incoming held on fits is = ap not fits.2
sound_waits PendingHeld incoming held on fits is = absurd (true≢false (sym is))
sound_waits Processing incoming held on fits is = absurd (true≢false (sym is))
sound_waits Interrupted incoming held on fits is = absurd (true≢false (sym is))
sound_waits Canceled incoming held on fits is = absurd (true≢false (sym is))
sound_waits Aborted incoming held on fits is = absurd (true≢false (sym is))
sound_waits Completed incoming held on fits is = absurd (true≢false (sym is))

-- a ready job waits for a device
ready_waits : (paused : List Bool) (low : ℕ) (jobs : List SpooledRecord) (id : ℕ) → RisesFrom low (map (λ j. j.id) (map (λ s. s.job) jobs)) → All IsSound jobs → Contains (map (λ j. j.id) (filter (is_ready paused) (map (λ s. s.job) jobs))) id → waits_at id jobs ≡ true
ready_waits paused low [] id rises sound has = absurd (omega (arith, has.1))
ready_waits paused low (s ∷ jobs) id rises sound has = at (head_or (is_ready paused s.job) s.job (filter (is_ready paused) (map (λ x. x.job) jobs)) id has) (λ later. ready_waits paused (suc s.job.id) jobs id rises.1 (All-tail IsSound s jobs sound) later)
  where
    at : ((is_ready paused s.job ≡ true) × (id ≡ s.job.id)) ⊎ Contains (map (λ j. j.id) (filter (is_ready paused) (map (λ x. x.job) jobs))) id → (Contains (map (λ j. j.id) (filter (is_ready paused) (map (λ x. x.job) jobs))) id → waits_at id jobs ≡ true) → waits_at id (s ∷ jobs) ≡ true
    at (inl first) rest =
        ap (λ (b : Bool). option_map_or is_waiting (cond b (Some s) (spooled_at id jobs)) false) (eq-eqb id s.job.id first.1)
        ∙ sound_waits s.job.state s.job.incoming s.job.held s.on_device (All-head IsSound s jobs sound) (first_of_both (is_pending s.job.state) (not (paused_at paused s.job.needs.printer)) first.0)
    at (inr later) rest =
        let above = above_low (suc s.job.id) (map (λ j. j.id) (filter (is_ready paused) (map (λ x. x.job) jobs))) id (filter_rises (is_ready paused) (suc s.job.id) (map (λ x. x.job) jobs) rises.1) later in
        ap (λ (b : Bool). option_map_or is_waiting (cond b (Some s) (spooled_at id jobs)) false) (ne_eqb id s.job.id (λ same. absurd (omega (arith, above, same))))
        ∙ rest later

-- a mark leaves a job waiting
either_state : (b : Bool) (x y : SpooledRecord) → is_waiting x ≡ is_waiting y → is_waiting (cond b x y) ≡ is_waiting y
either_state true x y same = same
either_state false x y same = refl

marked_waits : (paused : List Bool) (stranded : List Stranded) (jobs : List SpooledRecord) (id : ℕ) → waits_at id (map (marked_by paused stranded) jobs) ≡ waits_at id jobs
marked_waits paused stranded jobs id =
    ap (λ (o : Option SpooledRecord). option_map_or is_waiting o false) (found_map id (marked_by paused stranded) (marked_id paused stranded) jobs)
    ∙ each (spooled_at id jobs)
  where
    each : (o : Option SpooledRecord) → option_map_or is_waiting (option_map (marked_by paused stranded) o) false ≡ option_map_or is_waiting o false
    each None = refl
    each (Some s) = either_state (is_ready paused s.job) (marked (list_any (λ e. e.job == s.job.id) stranded) s) s refl

-- ---- the starts, device by device

idle_job : (activity : Activity) → runs_idle activity ≡ true → job_on activity ≡ None
idle_job (Running None) free = refl
idle_job (Running (Some printing)) free = absurd (true≢false (sym free))
idle_job (Stopped None) free = absurd (true≢false (sym free))
idle_job (Stopped (Some interrupted)) free = absurd (true≢false (sym free))

free_job : (now : ℕ) (d : Device) → is_free now d ≡ true → job_on d.activity ≡ None
free_job now d free = idle_job d.activity (first_of_both (runs_idle d.activity) (wait_of now d == 0) free)

-- the device on which a job begins
device_is : (classes : List PlannedClass) (place : ℕ) (start : Started) → first_of classes place ≡ Some start → start.device ≡ place
device_is classes place start is = subst (λ (o : Option Started). IfSome o (λ s. s.device ≡ place)) is (first_place classes place)

-- the devices from a place on are as they were, and the jobs that they may begin wait
record CanFrom (classes : List PlannedClass) (place : ℕ) (devices : List Device) (state : State) : Type 0 where
  same : (k : ℕ) (d : Device) → slice_get devices k ≡ Some d → job_of state.devices (place + k) ≡ job_on d.activity
  waits : (k : ℕ) (start : Started) → place ≤ k → first_of classes k ≡ Some start → waits_at start.job state.spool.jobs ≡ true

next_place : (classes : List PlannedClass) (place : ℕ) (d : Device) (devices : List Device) (state : State) → CanFrom classes place (d ∷ devices) state → CanFrom classes (suc place) devices state
next_place classes place d devices state can = record {
  same = λ k x found. subst (λ (n : ℕ). job_of state.devices n ≡ job_on x.activity) (omega arith) (can.same (suc k) x found);
  waits = λ k start le is. can.waits k start (omega (arith, le)) is;
}

-- the same after one job began
next_begun : (now : ℕ) (classes : List PlannedClass) → AllApart classes → (place : ℕ) (d : Device) (devices : List Device) (start : Started) (state : State) → first_of classes place ≡ Some start → CanFrom classes place (d ∷ devices) state → CanFrom classes (suc place) devices (beginning now start state)
next_begun now classes apart place d devices start state is can =
    let next = next_place classes place d devices state can in
    let at : start.device ≡ place = device_is classes place start is in
    record {
      same = λ k x found. job_elsewhere start.device (suc place + k) (doing (Running (Some (record { job = start.job; end = now + start.time })))) state.devices (λ e. absurd (omega (arith, e, at))) ∙ next.same k x found;
      waits = λ k other le found.
          ap (λ (o : Option SpooledRecord). option_map_or is_waiting o false) (found_other other.job start.job (changed Begin now) (changed_id Begin now) (λ e. begin_apart classes apart place k start other (omega (arith, le)) is found (sym e)) state.spool.jobs)
          ∙ next.waits k other le found;
    }

starts_can : (now : ℕ) (classes : List PlannedClass) → AllApart classes → (place : ℕ) (devices : List Device) (state : State) → CanFrom classes place devices state → AllCanBegin now (starts_from now classes place devices) state
starts_can now classes apart place [] state can = tt
starts_can now classes apart place (d ∷ devices) state can =
    step (is_free now d) refl (first_of classes place) refl (λ other next. starts_can now classes apart (suc place) devices other next)
  where
    step : (b : Bool) → is_free now d ≡ b → (o : Option Started) → first_of classes place ≡ o → ((other : State) → CanFrom classes (suc place) devices other → AllCanBegin now (starts_from now classes (suc place) devices) other) → AllCanBegin now (option_to_list (if b then o else None) ++ starts_from now classes (suc place) devices) state
    step true free (Some start) is rest = (
      record {
        free =
            let at : start.device ≡ place = device_is classes place start is in
            subst (λ (n : ℕ). job_of state.devices n ≡ None) (omega (arith, at)) (can.same 0 d refl ∙ free_job now d free);
        waits = can.waits place start (omega arith) is;
      },
      rest (beginning now start state) (next_begun now classes apart place d devices start state is can),
    )
    step true free None is rest = rest state (next_place classes place d devices state can)
    step false free o is rest = rest state (next_place classes place d devices state can)

devices_same : (devices : List Device) (k : ℕ) (d : Device) → slice_get devices k ≡ Some d → job_of devices (0 + k) ≡ job_on d.activity
devices_same devices k d found = subst (λ (n : ℕ). job_of devices n ≡ job_on d.activity) (omega arith) (job_found k devices d found)

module _ (s : State) (plan : PlanRecord) (now : ℕ) (good : IsGoodPlan now s plan) (spool : IsSpool s.spool) where
  apart : AllApart plan.classes
  apart = apart_from plan.classes
      (λ k d below. (all_ids s (waits_of now s) plan.classes good.classes k d below).1.best.is_way)
      (λ i k d before below job one other. apart_classes s plan (waits_of now s) good.priorities good.classes good.stranded (ready_rises s spool) i k d before below job one other)

  class_waits : (k : ℕ) (d : PlannedClass) → k < length plan.classes → (job : ℕ) → Contains (ids_of (get_or plan.classes k d)) job → waits_at job s.spool.jobs ≡ true
  class_waits k d below job has =
      ready_waits s.paused 0 s.spool.jobs job (job_ids_rise s.spool spool) spool.sound
      (filtered_among (belongs s (get_or plan.classes k d).priority) (ready_of s) job
      (subst (λ (ids : List ℕ). Contains ids job) (class_ids s plan (waits_of now s) good.priorities good.classes good.stranded (ready_rises s spool) k d below) has))

  some_waits : (classes : List PlannedClass) → plan.classes ≡ classes → (job : ℕ) → SomeHas classes job → waits_at job s.spool.jobs ≡ true
  some_waits [] is job has = absurd has
  some_waits (class ∷ classes) is job has =
      let at = has_at (class ∷ classes) job has in
      let below : at.0 < length plan.classes = subst (λ (cs : List PlannedClass). at.0 < length cs) (sym is) at.1 in
      class_waits at.0 class below job (subst (λ (cs : List PlannedClass). Contains (ids_of (get_or cs at.0 class)) job) (sym is) (at.2 class))

  -- the starts under a good plan can begin
  pub plan_can_begin : AllCanBegin now (starts_of now s plan) (marked_state now plan s)
  plan_can_begin = starts_can now plan.classes apart 0 s.devices (marked_state now plan s) (record {
    same = devices_same s.devices;
    waits = λ k start le is. marked_waits s.paused plan.stranded s.spool.jobs start.job ∙ some_waits plan.classes refl start.job (some_has plan.classes apart k start is);
  })

-- ---- a job begins

begins_on : (now : ℕ) (s : SpooledRecord) (state : JobState) → is_pending state ≡ true → (option_map_or (λ job. retired (record s { job = job; on_device = true })) (changed_from Begin state now s.job) s).on_device ≡ true
begins_on now s Pending is = refl
begins_on now s PendingHeld is = absurd (true≢false (sym is))
begins_on now s Processing is = absurd (true≢false (sym is))
begins_on now s Interrupted is = absurd (true≢false (sym is))
begins_on now s Canceled is = absurd (true≢false (sym is))
begins_on now s Aborted is = absurd (true≢false (sym is))
begins_on now s Completed is = absurd (true≢false (sym is))

-- the job of an id that waits
waiting_there : (id : ℕ) (jobs : List SpooledRecord) → waits_at id jobs ≡ true → (s : SpooledRecord) × (spooled_at id jobs ≡ Some s) × (is_waiting s ≡ true)
waiting_there id jobs = found (spooled_at id jobs) refl
  where
    found : (o : Option SpooledRecord) → spooled_at id jobs ≡ o → option_map_or is_waiting o false ≡ true → (s : SpooledRecord) × (spooled_at id jobs ≡ Some s) × (is_waiting s ≡ true)
    found None is waits = absurd (true≢false (sym waits))
    found (Some s) is waits = (s, is, waits)

pub begun_on : (now id : ℕ) (jobs : List SpooledRecord) → waits_at id jobs ≡ true → is_on_device id (with_job id (changed Begin now) jobs) ≡ true
begun_on now id jobs waits =
    let s = waiting_there id jobs waits in
    let on : Option SpooledRecord → Bool = λ o. option_map_or (λ x. x.on_device) o false in
    ap on (found_with id (changed Begin now) (changed_id Begin now) jobs ∙ ap (λ (o : Option SpooledRecord). option_map (changed Begin now) o) s.1)
    ∙ begins_on now s.0 s.0.job.state (first_of_both (is_pending s.0.job.state) (not s.0.on_device) s.2)

not_both : (a on : Bool) → a && not on ≡ true → on ≡ true → ⊥
not_both a true is on = no_and a is
  where
    no_and : (a : Bool) → a && false ≡ true → ⊥
    no_and true is = true≢false (sym is)
    no_and false is = true≢false (sym is)
not_both a false is on = true≢false (sym on)

-- no device has a job that waits
pub waiting_free : (id : ℕ) (devices : List Device) (jobs : List SpooledRecord) → waits_at id jobs ≡ true → Agree devices jobs → (k : ℕ) → job_of devices k ≡ Some id → ⊥
waiting_free id devices jobs waits agree k has =
    let s = waiting_there id jobs waits in
    not_both (is_pending s.0.job.state) s.0.on_device s.2 (sym (ap (λ (o : Option SpooledRecord). option_map_or (λ x. x.on_device) o false) s.1) ∙ agree.in_spool k id has)

pub begin_agrees : (now end place id : ℕ) (devices : List Device) (jobs : List SpooledRecord) → place < length devices → waits_at id jobs ≡ true → Agree devices jobs → Agree (with_device place (doing (Running (Some (record { job = id; end = end })))) devices) (with_job id (changed Begin now) jobs)
begin_agrees now end place id devices jobs inside waits agree =
    let new = with_job id (changed Begin now) jobs in
    let d = found_device place devices inside in
    agree_begins place id (doing (Running (Some (record { job = id; end = end })))) devices new d.0 d.1 refl (begun_on now id jobs waits)
    (waiting_free id devices jobs waits agree)
    (agree_stay devices jobs new (stay_with id (changed Begin now) (changed_on Begin now) jobs) agree)

not_none : {x : ℕ} → None ≡ Some x → ⊥
not_none is = cc

begin_keeps : (now : ℕ) (start : Started) (state : State) → CanBegin start state → Agree state.devices state.spool.jobs → AllKeep state (beginning now start state)
begin_keeps now start state can agree = keep_from state (beginning now start state) same (stay_with start.job (changed Begin now) (changed_on Begin now) state.spool.jobs) agree
  where
    same : (place id : ℕ) → job_of state.devices place ≡ Some id → job_of (beginning now start state).devices place ≡ Some id
    same place id has = elim (cases_eq place start.device) [
      | inl here ↦ absurd (not_none (sym can.free ∙ subst (λ (k : ℕ). job_of state.devices k ≡ Some id) here has))
      | inr differ ↦ job_elsewhere start.device place (doing (Running (Some (record { job = start.job; end = now + start.time })))) state.devices differ ∙ has
    ]

pub all_begin_keep : (now : ℕ) (starts : List Started) (state : State) → All (λ start. start.device < length state.devices) starts → AllCanBegin now starts state → Agree state.devices state.spool.jobs → AllKeep state (beginning_all now starts state)
all_begin_keep now [] state inside can agree = λ place id has. (has, refl)
all_begin_keep now (start ∷ starts) state inside can agree =
    let next = beginning now start state in
    keep_then state next (beginning_all now starts next) (begin_keeps now start state can.0 agree)
    (all_begin_keep now starts next
    (All-weaker (λ s. s.device < length state.devices) (λ s. s.device < length next.devices) (λ s below. omega (arith, below, begins_devices now start state)) starts (All-tail (λ s. s.device < length state.devices) start starts inside))
    can.1 (begin_agrees now (now + start.time) start.device start.job state.devices state.spool.jobs (All-head (λ s. s.device < length state.devices) start starts inside) can.0.waits agree))

-- the next start can begin, and the starts after it can begin after it
pub can_next : (now i : ℕ) (starts : List Started) (start : Started) (s : State) → i < length starts → start ≡ get_or starts i start → AllCanBegin now (drop i starts) s → CanBegin start s × AllCanBegin now (drop (i + 1) starts) (beginning now start s)
can_next now i starts start s inside is can = subst (λ (ss : List Started). AllCanBegin now ss s) (split_at starts i start inside is) can

-- ---- a dispatch

-- devices keep their jobs over a dispatch
pub dispatch_keeps : (s : State) (plan : PlanRecord) (now : ℕ) → IsGoodPlan now s plan → IsSpool s.spool → Agree s.devices s.spool.jobs → AllKeep s (beginning_all now (starts_of now s plan) (marked_state now plan s))
dispatch_keeps s plan now good spool agree =
    let marked_s = marked_state now plan s in
    let stay = stay_map (marked_by s.paused plan.stranded) (marked_on s.paused plan.stranded) s.spool.jobs in
    keep_then s marked_s (beginning_all now (starts_of now s plan) marked_s)
    (keep_from s marked_s (λ place id has. has) stay agree)
    (all_begin_keep now (starts_of now s plan) marked_s
    (All-weaker (λ start. start.device < 0 + length s.devices) (λ start. start.device < length s.devices) (λ start below. omega (arith, below)) (starts_of now s plan) (starts_inside now plan.classes 0 s.devices))
    (plan_can_begin s plan now good spool)
    (agree_stay s.devices s.spool.jobs marked_s.spool.jobs stay agree))

pub dispatches_keep : (now : ℕ) (s : State) (plan : Option PlanRecord) (started : List Started) (new : State) → IsSpool s.spool → Agree s.devices s.spool.jobs → Dispatches now s plan started new → AllKeep s new
dispatches_keep now s None started new spool agree is = subst (λ (t : State). AllKeep s t) (sym is.2) (λ place id has. (has, refl))
dispatches_keep now s (Some plan) started new spool agree is =
    subst (λ (t : State). AllKeep s t) (sym is.3)
    (subst (λ (ss : List Started). AllKeep s (record (beginning_all now ss (marked_state now plan s)) { begun = ss })) (sym is.2) (dispatch_keeps s plan now is.1 spool agree))
