-- The numbers, names and orders of a good plan are within the range of a text.
use Rattle.std.proofs.Common.{◌≡◌, ◌==◌, ◌&&◌, ℕ, zero, suc, ◌+◌, ◌<◌, ◌≤◌, Bool, true, false, cond, IsTrue, List, [], ◌∷◌, length, map, filter, is_none, is_some, Option, Some, None, get_or, refl, sym, ap, ◌∙◌, subst, arith, All, Contains}
use Rattle.std.specs.List.{concat}
use Rattle.std.proofs.lemmas.Int.{ints}
use Rattle.std.proofs.lemmas.Bool.{le-leb}
use Rattle.std.proofs.lemmas.List.{length-map}
use Rattle.std.proofs.lemmas.List.Elements.{All-cons, All-nil, All-head, All-tail, All-map, All-weaker, All-filter}
use Rattle.std.proofs.lemmas.List.Sums.{list_all-from_AllPass}
use Rattle.base_types.specs.Forms.{is_name, is_name_byte, IsName}
use Rattle.base_types.specs.Ranges.{IsJobId, IsPriority}
use Rattle.base_types.specs.declared.needs.Cause.{Cause}
use Rattle.base_types.specs.declared.needs.Stranded.{Stranded}
use Rattle.base_types.specs.declared.limits.TheConstants.Limits.{HIGHEST_PRIORITY, UNFINISHED_JOBS, NAME_BYTES}
use Rattle.settings_file.specs.Settings.{DeviceEntry}
use Rattle.job_objects.specs.Job.{JobRecord}
use Rattle.spool.specs.Spooled.{SpooledRecord}
use Rattle.spool.specs.Calls.{is_ready}
use Rattle.spool.specs.Spool.{IsSpool}
use Rattle.spool.proofs.RisingIds.{RisesFrom, filter_rises}
use Rattle.plan_prices.specs.declared.plan.PlannedClass.{PlannedClass}
use Rattle.plan_prices.specs.Plan.{PlanRecord}
use Rattle.plan_prices.specs.Waits.{waits_after}
use Rattle.plan_prices.proofs.Bounded.{job_prices_bounded, place_prices_bounded}
use Rattle.plan_prices.proofs.Grows.{waits_from_length}
use Rattle.plan_prices.proofs.Names.{all_lists}
use Rattle.plan_text.specs.Ranges.{IsClassInRange, IsPlanInRange, PrioritiesFall, StrandedRise, jobs_in}
use Rattle.print_room.specs.DeviceJobs.{IsRoom}
use Rattle.print_room.specs.State.{State}
use Rattle.print_room.specs.Ready.{ready_of, belongs, class_of, cause_in}
use Rattle.print_room.specs.GoodPlan.{is_some_job, falling, waits_of, IsPlannedBest, AllPlannedBest, IsGoodPlan}
use Rattle.print_room.proofs.ClassProblems.{ready_rises, ready_few}
use Rattle.print_room.proofs.Checked.{FallsTo, falling_falls, ids_of_class, stranded_test, entry_ids}
use Rattle.promises.specs.Passes.{named_plan}

-- ---- names

named : (text : List ℕ) → IsName text → IsTrue (is_name text)
unfolding is_name
named text h = rw (le-leb 1 (length text) h.some, le-leb (length text) NAME_BYTES h.few, list_all-from_AllPass is_name_byte text h.each) refl

-- ---- priorities

kept_positive : (b : Bool) (p : ℕ) (ps : List ℕ) → All (λ n. 1 ≤ n) ps → All (λ n. 1 ≤ n) (cond b (suc p ∷ ps) ps)
kept_positive true p ps h = All-cons (λ n. 1 ≤ n) (suc p) ps (omega arith) h
kept_positive false p ps h = h

falling_positive : (test : ℕ → Bool) (p : ℕ) → All (λ n. 1 ≤ n) (filter test (falling p))
unfolding falling
falling_positive test zero = All-nil (λ n. 1 ≤ n)
falling_positive test (suc p) = kept_positive (test (suc p)) p (filter test (falling p)) (falling_positive test p)

priorities_fall : (top : ℕ) (classes : List PlannedClass) → FallsTo top (map (λ class. class.priority) classes) → PrioritiesFall top classes
priorities_fall top [] h = tt
priorities_fall top (c ∷ cs) h = (h.0, priorities_fall c.priority cs h.1)

falls_below : (top most : ℕ) (ps : List ℕ) → top ≤ suc most → FallsTo top ps → All (λ n. n ≤ most) ps
falls_below top most [] le h = All-nil (λ n. n ≤ most)
falls_below top most (p ∷ ps) le h = All-cons (λ n. n ≤ most) p ps (omega (arith, le, h.0)) (falls_below p most ps (omega (arith, le, h.0)) h.1)

-- a property of a value of each element is a property of each element
of_mapped : {A : Type 0} (P : ℕ → Type 0) (f : A → ℕ) (xs : List A) → All P (map f xs) → All (λ x. P (f x)) xs
of_mapped P f [] h = All-nil (λ x. P (f x))
of_mapped P f (x ∷ xs) h = All-cons (λ y. P (f y)) x xs (All-head P (f x) (map f xs) h) (of_mapped P f xs (All-tail P (f x) (map f xs) h))

-- ---- stranded jobs

stranded_rise : (above : ℕ) (stranded : List Stranded) → RisesFrom (suc above) (map (λ e. e.job) stranded) → StrandedRise above stranded
stranded_rise above [] h = tt
stranded_rise above (s ∷ ss) h = (h.0, stranded_rise s.job ss h.1)

from_one : (ids : List ℕ) → All IsJobId ids → RisesFrom 0 ids → RisesFrom 1 ids
from_one [] all h = tt
from_one (id ∷ ids) all h = ((All-head IsJobId id ids all).0, h.1)

-- ---- the number of all jobs

count_one : (test : JobRecord → Bool) (job : JobRecord) (jobs : List JobRecord) → length (filter test (job ∷ jobs)) ≡ cond (test job) 1 0 + length (filter test jobs)
count_one test job jobs = by (test job)
  where
    by : (b : Bool) → length (cond b (job ∷ filter test jobs) (filter test jobs)) ≡ cond b 1 0 + length (filter test jobs)
    by true = omega arith
    by false = omega arith

-- the jobs of these priorities' classes, and how many of these priorities are a job's
abbrev in_classes : State → List ℕ → List JobRecord → ℕ
in_classes s [] jobs = 0
in_classes s (p ∷ ps) jobs = length (filter (belongs s p) jobs) + in_classes s ps jobs

abbrev hits : State → List ℕ → JobRecord → ℕ
hits s [] job = 0
hits s (p ∷ ps) job = cond (belongs s p job) 1 0 + hits s ps job

in_classes-none : (s : State) (ps : List ℕ) → in_classes s ps [] ≡ 0
in_classes-none s [] = refl
in_classes-none s (p ∷ ps) = omega (arith, in_classes-none s ps)

in_classes-cons : (s : State) (ps : List ℕ) (job : JobRecord) (jobs : List JobRecord) → in_classes s ps (job ∷ jobs) ≡ hits s ps job + in_classes s ps jobs
in_classes-cons s [] job jobs = refl
in_classes-cons s (p ∷ ps) job jobs = omega (arith, count_one (belongs s p) job jobs, in_classes-cons s ps job jobs)

-- a job is in one class at most, and in none where it has a cause
hit_none : (level p : ℕ) (able : Bool) → p < level → cond ((level == p) && able) 1 0 ≤ 0
hit_none level p true below = grind arith
hit_none level p false below = grind arith

hits_below : (s : State) (top : ℕ) (ps : List ℕ) (job : JobRecord) → FallsTo top ps → top ≤ job.priority → hits s ps job ≡ 0
hits_below s top [] job falls le = refl
hits_below s top (p ∷ ps) job falls le =
    let none : cond (belongs s p job) 1 0 ≤ 0 = hit_none job.priority p (is_none (cause_in s job)) (omega (arith, falls.0, le)) in
    omega (arith, none, hits_below s p ps job falls.1 (omega (arith, falls.0, le)))

hit_once : (level p later : ℕ) (able : Bool) → (p ≤ level → later ≡ 0) → later ≤ cond able 1 0 → cond ((level == p) && able) 1 0 + later ≤ cond able 1 0
hit_once level p later true none few = grind arith
hit_once level p later false none few = grind arith

hits_once : (s : State) (top : ℕ) (ps : List ℕ) (job : JobRecord) → FallsTo top ps → hits s ps job ≤ cond (is_none (cause_in s job)) 1 0
hits_once s top [] job falls = omega arith
hits_once s top (p ∷ ps) job falls = hit_once job.priority p (hits s ps job) (is_none (cause_in s job)) (λ le. hits_below s p ps job falls.1 le) (hits_once s p ps job falls.1)

none_or_some : (o : Option Cause) → cond (is_none o) 1 0 + cond (is_some o) 1 0 ≤ 1
none_or_some None = omega arith
none_or_some (Some cause) = omega arith

all_few : (s : State) (top : ℕ) (ps : List ℕ) (jobs : List JobRecord) → FallsTo top ps → in_classes s ps jobs + length (filter (stranded_test s) jobs) ≤ length jobs
all_few s top ps [] falls = omega (arith, in_classes-none s ps)
all_few s top ps (job ∷ jobs) falls =
    omega (arith, in_classes-cons s ps job jobs, count_one (stranded_test s) job jobs, hits_once s top ps job falls, none_or_some (cause_in s job), all_few s top ps jobs falls)

module _ (s : State) (now : ℕ) (plan : PlanRecord) (room : IsRoom s) (spool : IsSpool s.spool) (good : IsGoodPlan now s plan) where
  ready_ids : All (λ j. IsJobId j.id) (ready_of s)
  ready_ids = All-filter (is_ready s.paused) (λ j. IsJobId j.id) (map (λ (x : SpooledRecord). x.job) s.spool.jobs) (All-map (λ (j : JobRecord). IsJobId j.id) (λ (x : SpooledRecord). x.job) s.spool.jobs spool.in_range)

  filtered_ids : (test : JobRecord → Bool) → All IsJobId (map (λ j. j.id) (filter test (ready_of s)))
  filtered_ids test = All-map IsJobId (λ (j : JobRecord). j.id) (filter test (ready_of s)) (All-filter test (λ j. IsJobId j.id) (ready_of s) ready_ids)

  falls : FallsTo (suc HIGHEST_PRIORITY) (map (λ class. class.priority) plan.classes)
  falls = subst (λ (ps : List ℕ). FallsTo (suc HIGHEST_PRIORITY) ps) (sym good.priorities) (falling_falls (λ level. is_some_job (class_of s level)) HIGHEST_PRIORITY)

  positive : All (λ n. 1 ≤ n) (map (λ class. class.priority) plan.classes)
  positive = subst (λ (ps : List ℕ). All (λ n. 1 ≤ n) ps) (sym good.priorities) (falling_positive (λ level. is_some_job (class_of s level)) HIGHEST_PRIORITY)

  priorities : All (λ c. IsPriority c.priority) plan.classes
  priorities = of_mapped IsPriority (λ (c : PlannedClass). c.priority) plan.classes (λ k d below. (positive k d below, falls_below (suc HIGHEST_PRIORITY) HIGHEST_PRIORITY (map (λ class. class.priority) plan.classes) (omega arith) falls k d below))

  -- a class, planned with one wait for each device
  class_in_range : (waits : List ℕ) (c : PlannedClass) → length waits ≡ length s.settings.devices → IsPlannedBest s waits c → IsPriority c.priority → IsClassInRange (length s.settings.devices) c
  class_in_range waits c each h priority =
      let ids : All IsJobId c.problem.ids = subst (λ (xs : List ℕ). All IsJobId xs) (sym (ids_of_class s waits c h)) (filtered_ids (belongs s c.priority)) in
      let wide : length c.problem.waits ≡ length s.settings.devices = ap (λ (ws : List ℕ). length ws) h.problem.waits_given ∙ each in
      let lists : length c.priced.way ≡ length s.settings.devices = h.proved.is_way.one_list_each ∙ wide in
      let job_prices = job_prices_bounded c.problem c.priced.way c.priced.prices h.proved.fair h.in_range h.proved.is_way in
      let place_prices = place_prices_bounded c.problem c.priced.way c.priced.prices h.proved.fair h.in_range h.proved.is_way in
      record {
        priority = priority;
        problem = h.in_range;
        ids = ids;
        waits = wide;
        ways = lists;
        jobs = all_lists IsJobId c.priced.way (All-weaker (Contains c.problem.ids) IsJobId (λ id known. subst IsJobId known.2 (ids known.0 id known.1)) (concat c.priced.way) h.proved.is_way.known);
        total = h.bounded;
        job_prices = λ k d below. let small = job_prices k d below in (omega (arith, ints, small.0), omega (arith, ints, small.1));
        places = h.proved.fair.one_list_each ∙ lists;
        place_prices = λ k d below i e within. let small = place_prices k d below i e within in (omega (arith, ints, small.0), omega (arith, ints, small.1));
      }

  classes_in_range : (waits : List ℕ) (classes : List PlannedClass) → length waits ≡ length s.settings.devices → AllPlannedBest s waits classes → All (λ c. IsPriority c.priority) classes → All (IsClassInRange (length s.settings.devices)) classes
  classes_in_range waits [] each best levels = All-nil (IsClassInRange (length s.settings.devices))
  classes_in_range waits (c ∷ cs) each best levels =
      let one = class_in_range waits c each best.0 (All-head (λ x. IsPriority x.priority) c cs levels) in
      let next : length (waits_after c.problem c.priced.way) ≡ length s.settings.devices = waits_from_length c.problem 0 c.priced.way ∙ one.ways in
      All-cons (IsClassInRange (length s.settings.devices)) c cs one (classes_in_range (waits_after c.problem c.priced.way) cs next best.1 (All-tail (λ x. IsPriority x.priority) c cs levels))

  -- the stranded jobs
  stranded_ids : map (λ e. e.job) plan.stranded ≡ map (λ j. j.id) (filter (stranded_test s) (ready_of s))
  stranded_ids = ap (λ (es : List Stranded). map (λ e. e.job) es) good.stranded ∙ entry_ids s (ready_of s)

  stranded_known : All IsJobId (map (λ e. e.job) plan.stranded)
  stranded_known = subst (λ (xs : List ℕ). All IsJobId xs) (sym stranded_ids) (filtered_ids (stranded_test s))

  stranded_rises : RisesFrom 0 (map (λ e. e.job) plan.stranded)
  stranded_rises = subst (λ (xs : List ℕ). RisesFrom 0 xs) (sym stranded_ids) (filter_rises (stranded_test s) 0 (ready_of s) (ready_rises s spool))

  -- the jobs of the classes
  classes_jobs : (waits : List ℕ) (classes : List PlannedClass) → AllPlannedBest s waits classes → jobs_in classes ≡ in_classes s (map (λ class. class.priority) classes) (ready_of s)
  classes_jobs waits [] best = refl
  classes_jobs waits (c ∷ cs) best =
      let own : length c.problem.ids ≡ length (class_of s c.priority) = ap (λ (xs : List ℕ). length xs) (ids_of_class s waits c best.0) ∙ length-map (class_of s c.priority) (λ (j : JobRecord). j.id) in
      omega (arith, own, classes_jobs (waits_after c.problem c.priced.way) cs best.1)

  few : jobs_in plan.classes + length plan.stranded ≤ UNFINISHED_JOBS
  few =
      let stranded : length plan.stranded ≡ length (filter (stranded_test s) (ready_of s)) = sym (length-map plan.stranded (λ (e : Stranded). e.job)) ∙ (ap (λ (xs : List ℕ). length xs) stranded_ids ∙ length-map (filter (stranded_test s) (ready_of s)) (λ (j : JobRecord). j.id)) in
      let all = all_few s (suc HIGHEST_PRIORITY) (map (λ class. class.priority) plan.classes) (ready_of s) falls in
      omega (arith, stranded, classes_jobs (waits_of now s) plan.classes good.classes, all, ready_few s spool)

  pub good_in_range : IsPlanInRange (named_plan s.settings plan)
  good_in_range =
      let names : List (List ℕ) = map (λ (d : DeviceEntry). d.name) s.settings.devices in
      let count : length names ≡ length s.settings.devices = length-map s.settings.devices (λ (d : DeviceEntry). d.name) in
      let each : length (waits_of now s) ≡ length s.settings.devices = length-map s.devices _ ∙ room.devices in
      record {
        few_devices = omega (arith, count, room.settings.few_devices);
        names = All-map (λ name. IsTrue (is_name name)) (λ (d : DeviceEntry). d.name) s.settings.devices (λ k d below. named (get_or s.settings.devices k d).name (room.settings.each_device k d below).name);
        classes = rw count (classes_in_range (waits_of now s) plan.classes each good.classes priorities);
        fall = priorities_fall (suc HIGHEST_PRIORITY) plan.classes falls;
        stranded = of_mapped IsJobId (λ (e : Stranded). e.job) plan.stranded stranded_known;
        rise = stranded_rise 0 plan.stranded (from_one (map (λ e. e.job) plan.stranded) stranded_known stranded_rises);
        few_jobs = few;
      }
