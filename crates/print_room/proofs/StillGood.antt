-- A good plan stays good while nothing that it reads changes.
use Rattle.std.proofs.Common.{◌≡◌, ◌∙◌, ◌==◌, ℕ, zero, suc, ◌<◌, length, get_or, Bool, true, false, cond, List, [], ◌∷◌, map, filter, filter_map, Option, Some, None, not, if◌then◌else◌, refl, sym, ap, subst, true≢false, arith}
use Rattle.std.specs.Str.{bytes_eq}
use Rattle.std.specs.List.{list_all, list_any, cons_option}
use Rattle.std.proofs.lemmas.Bool.{and_parts}
use Rattle.std.proofs.lemmas.Bool.Decides.{nat_tests}
use Rattle.base_types.specs.Device.{Device}
use Rattle.base_types.specs.declared.device.Medium.{Medium}
use Rattle.base_types.specs.declared.needs.Stranded.{Stranded}
use Rattle.base_types.specs.declared.limits.TheConstants.Limits.{HIGHEST_PRIORITY}
use Rattle.job_objects.specs.Job.{JobRecord}
use Rattle.spool.specs.Spooled.{SpooledRecord, marked}
use Rattle.spool.specs.Calls.{is_ready, marked_by}
use Rattle.spool.specs.Ready.{ready_jobs}
use Rattle.plan_problem.specs.ClassJob.{JobOfClass, IsClassOf}
use Rattle.plan_prices.specs.declared.plan.PlannedClass.{PlannedClass}
use Rattle.plan_prices.specs.Plan.{PlanRecord}
use Rattle.plan_prices.specs.Waits.{waits_after}
use Rattle.print_room.specs.declared.started.Started.{Started}
use Rattle.print_room.specs.Activity.{wait_of}
use Rattle.print_room.specs.State.{State, sets_of, loaded_if, with_device}
use Rattle.print_room.specs.Ready.{belongs, class_of, stranding, stranded_of}
use Rattle.print_room.specs.GoodPlan.{AllPlannedBest, IsGoodPlan, IsPlannedBest, falling, is_some_job, job_of_class, waits_of}
use Rattle.print_room.specs.Dispatch.{marked_state}
use Rattle.print_room.specs.StillGood.{IsStillGood, HoldsFor, loads, waits_stay}

-- ---- another moment

equal_numbers : (x y : ℕ) → (x == y) ≡ true → x ≡ y
equal_numbers x y is = grind (arith, nat_tests, is)

waits_same : (one other : ℕ) (devices : List Device) → waits_stay one other devices ≡ true → map (wait_of one) devices ≡ map (wait_of other) devices
waits_same one other [] stay = refl
waits_same one other (d ∷ ds) stay =
    let parts = and_parts (wait_of one d == wait_of other d) (list_all (λ d. wait_of one d == wait_of other d) ds) stay in
    let same : wait_of one d ≡ wait_of other d = equal_numbers (wait_of one d) (wait_of other d) parts.0 in
    rw (same, waits_same one other ds parts.1) refl

-- a plan for a moment is one for another at which each device waits as long
pub good_at : (one other : ℕ) (s : State) (plan : PlanRecord) → waits_stay one other s.devices ≡ true → IsGoodPlan one s plan → IsGoodPlan other s plan
good_at one other s plan stay good = record {
  priorities = good.priorities;
  classes = subst (λ (ws : List ℕ). AllPlannedBest s ws plan.classes) (waits_same one other s.devices stay) good.classes;
  stranded = good.stranded;
  checked = good.checked;
}

-- ---- another state, whose ready jobs are the same for a plan

some_same : (xs ys : List JobRecord) → map job_of_class xs ≡ map job_of_class ys → is_some_job xs ≡ is_some_job ys
some_same [] [] same = refl
some_same [] (y ∷ ys) same = absurd (cc)
some_same (x ∷ xs) [] same = absurd (cc)
some_same (x ∷ xs) (y ∷ ys) same = refl

filter_same : (f g : ℕ → Bool) → ((x : ℕ) → f x ≡ g x) → (xs : List ℕ) → filter f xs ≡ filter g xs
filter_same f g same [] = refl
filter_same f g same (x ∷ xs) = rw (same x, filter_same f g same xs) refl

module _ (s : State) (last : ℕ) (kept : Option PlanRecord) (begun : List Started) (jobs : List SpooledRecord) where
  module _ (classes : (p : ℕ) → map job_of_class (class_of (record s { last = last; plan = kept; begun = begun; spool = record s.spool { jobs = jobs } }) p) ≡ map job_of_class (class_of s p)) where
    best_over : (waits : List ℕ) (class : PlannedClass) → IsPlannedBest s waits class → IsPlannedBest (record s { last = last; plan = kept; begun = begun; spool = record s.spool { jobs = jobs } }) waits class
    best_over waits class best = record {
      problem = subst (λ (js : List JobOfClass). IsClassOf js s.devices (sets_of s.settings) waits class.problem) (sym (classes class.priority)) best.problem;
      best = best.best;
      timetables = best.timetables;
      proved = best.proved;
      in_range = best.in_range;
      bounded = best.bounded;
      order = best.order;
    }

    all_over : (waits : List ℕ) (planned : List PlannedClass) → AllPlannedBest s waits planned → AllPlannedBest (record s { last = last; plan = kept; begun = begun; spool = record s.spool { jobs = jobs } }) waits planned
    all_over waits [] all = tt
    all_over waits (class ∷ more) all = (best_over waits class all.0, all_over (waits_after class.problem class.priced.way) more all.1)

    pub good_over : (now : ℕ) (plan : PlanRecord) → stranded_of (record s { last = last; plan = kept; begun = begun; spool = record s.spool { jobs = jobs } }) ≡ stranded_of s → IsGoodPlan now s plan → IsGoodPlan now (record s { last = last; plan = kept; begun = begun; spool = record s.spool { jobs = jobs } }) plan
    good_over now plan stranded good = record {
      priorities = good.priorities ∙ sym (filter_same (λ p. is_some_job (class_of (record s { last = last; plan = kept; begun = begun; spool = record s.spool { jobs = jobs } }) p)) (λ p. is_some_job (class_of s p)) (λ p. some_same (class_of (record s { last = last; plan = kept; begun = begun; spool = record s.spool { jobs = jobs } }) p) (class_of s p) (classes p)) (falling HIGHEST_PRIORITY));
      classes = all_over (waits_of now s) plan.classes good.classes;
      stranded = good.stranded ∙ sym stranded;
      checked = good.checked;
    }

-- the moment that a state keeps is none that a plan reads
pub good_later : (now last : ℕ) (s : State) (plan : PlanRecord) → IsGoodPlan now s plan → IsGoodPlan now (record s { last = last }) plan
good_later now last s plan good = good_over s last s.plan s.begun s.spool.jobs (λ p. refl) now plan refl good

pub holds_later : (o : Option ℕ) (s : State) (now : ℕ) → HoldsFor o s → HoldsFor o (record s { last = now })
holds_later None s now held = tt
holds_later (Some moment) s now held = (held.0, held.1, good_later moment now s held.0 held.2)

-- ---- marks

module _ (s : State) (p : ℕ) where
  in_or_out : (b : Bool) (job other : JobRecord) (xs ys : List JobRecord) → job_of_class other ≡ job_of_class job → map job_of_class xs ≡ map job_of_class ys → map job_of_class (cond b (other ∷ xs) xs) ≡ map job_of_class (cond b (job ∷ ys) ys)
  in_or_out true job other xs ys same h = rw (same, h) refl
  in_or_out false job other xs ys same h = h

  ready_or_not : (b m : Bool) (job : JobRecord) (xs ys : List JobRecord) → map job_of_class (filter (belongs s p) xs) ≡ map job_of_class (filter (belongs s p) ys) → map job_of_class (filter (belongs s p) (cond b (record job { stranded = m } ∷ xs) xs)) ≡ map job_of_class (filter (belongs s p) (cond b (job ∷ ys) ys))
  ready_or_not true m job xs ys h = in_or_out (belongs s p job) job (record job { stranded = m }) (filter (belongs s p) xs) (filter (belongs s p) ys) refl h
  ready_or_not false m job xs ys h = h

  marked_or_not : (r m : Bool) (x : SpooledRecord) (xs ys : List SpooledRecord) → map job_of_class (filter (belongs s p) (ready_jobs s.paused xs)) ≡ map job_of_class (filter (belongs s p) (ready_jobs s.paused ys)) → map job_of_class (filter (belongs s p) (ready_jobs s.paused (cond r (marked m x) x ∷ xs))) ≡ map job_of_class (filter (belongs s p) (ready_jobs s.paused (x ∷ ys)))
  marked_or_not true m x xs ys h = ready_or_not (is_ready s.paused x.job) m x.job (ready_jobs s.paused xs) (ready_jobs s.paused ys) h
  marked_or_not false m x xs ys h = ready_or_not (is_ready s.paused x.job) x.job.stranded x.job (ready_jobs s.paused xs) (ready_jobs s.paused ys) h

-- a job that is marked, or isn't, is ready and in its class as before
class_marked : (s : State) (p : ℕ) (marks : List Stranded) (jobs : List SpooledRecord) → map job_of_class (filter (belongs s p) (ready_jobs s.paused (map (marked_by s.paused marks) jobs))) ≡ map job_of_class (filter (belongs s p) (ready_jobs s.paused jobs))
class_marked s p marks [] = refl
class_marked s p marks (x ∷ xs) = marked_or_not s p (is_ready s.paused x.job) (list_any (λ e. e.job == x.job.id) marks) x (map (marked_by s.paused marks) xs) xs (class_marked s p marks xs)

module _ (s : State) where
  named_or_not : (b m : Bool) (job : JobRecord) (xs ys : List JobRecord) → filter_map (stranding s) xs ≡ filter_map (stranding s) ys → filter_map (stranding s) (cond b (record job { stranded = m } ∷ xs) xs) ≡ filter_map (stranding s) (cond b (job ∷ ys) ys)
  named_or_not true m job xs ys h = ap (λ (es : List Stranded). cons_option (stranding s job) es) h
  named_or_not false m job xs ys h = h

  stranded_or_not : (r m : Bool) (x : SpooledRecord) (xs ys : List SpooledRecord) → filter_map (stranding s) (ready_jobs s.paused xs) ≡ filter_map (stranding s) (ready_jobs s.paused ys) → filter_map (stranding s) (ready_jobs s.paused (cond r (marked m x) x ∷ xs)) ≡ filter_map (stranding s) (ready_jobs s.paused (x ∷ ys))
  stranded_or_not true m x xs ys h = named_or_not (is_ready s.paused x.job) m x.job (ready_jobs s.paused xs) (ready_jobs s.paused ys) h
  stranded_or_not false m x xs ys h = named_or_not (is_ready s.paused x.job) x.job.stranded x.job (ready_jobs s.paused xs) (ready_jobs s.paused ys) h

stranded_marked : (s : State) (marks : List Stranded) (jobs : List SpooledRecord) → filter_map (stranding s) (ready_jobs s.paused (map (marked_by s.paused marks) jobs)) ≡ filter_map (stranding s) (ready_jobs s.paused jobs)
stranded_marked s marks [] = refl
stranded_marked s marks (x ∷ xs) = stranded_or_not s (is_ready s.paused x.job) (list_any (λ e. e.job == x.job.id) marks) x (map (marked_by s.paused marks) xs) xs (stranded_marked s marks xs)

-- a plan is still good once it is kept and the ready jobs are marked, where nothing began
pub good_kept : (now : ℕ) (s : State) (plan : PlanRecord) → IsGoodPlan now s plan → IsStillGood now (record (marked_state now plan s) { begun = [] })
good_kept now s plan good = (
  plan,
  refl,
  good_over s now (Some plan) [] (map (marked_by s.paused plan.stranded) s.spool.jobs) (λ p. class_marked s p plan.stranded s.spool.jobs) now plan (stranded_marked s plan.stranded s.spool.jobs) good,
)

-- ---- calls that change nothing

pub media_same : (names : List (List ℕ)) (media : List Medium) → list_all (loads names) media ≡ true → map (loaded_if names) media ≡ media
media_same names [] all = refl
media_same names (m ∷ ms) all =
    let parts = and_parts (loads names m) (list_all (loads names) ms) all in
    rw (media_same names ms parts.1) (ap (λ (x : Medium). x ∷ ms) (one m.loaded (list_any (bytes_eq m.name) names) parts.0))
  where
    one : (was is : Bool) → (if was then is else not is) ≡ true → ◌≡◌ {A = Medium} (record { name = m.name; loaded = is }) (record { name = m.name; loaded = was })
    one true true h = refl
    one true false h = absurd (true≢false (sym h))
    one false true h = absurd (true≢false (sym h))
    one false false h = refl

-- a device that is changed to itself
pub with_same : (place : ℕ) (change : Device → Device) (devices : List Device) (d : Device) → place < length devices → d ≡ get_or devices place d → change d ≡ d → with_device place change devices ≡ devices
with_same place change [] d inside is same = refl
with_same zero change (x ∷ xs) d inside is same =
    ap (λ (y : Device). y ∷ xs) (ap change (sym is) ∙ (same ∙ is))
with_same (suc place) change (x ∷ xs) d inside is same = ap (λ (ys : List Device). x ∷ ys) (with_same place change xs d (omega (arith, inside)) is same)

pub one_plan : (x : Option PlanRecord) (p q : PlanRecord) → x ≡ Some p → x ≡ Some q → p ≡ q
one_plan x p q is that = cc
