-- The checker accepts a plan whose classes are planned best, one below the other.
use Rattle.std.proofs.Common.{◌≡◌, ℕ, zero, suc, ◌<◌, ◌≤◌, ◌==◌, ◌&&◌, Bool, true, false, cond, List, [], ◌∷◌, length, map, filter, is_none, is_some, take, Option, Some, None, Contains, option_map, refl, sym, ap, subst, ◌∙◌, arith, get_or}
use Rattle.std.specs.Prelude.{slice_get}
use Rattle.std.specs.List.{filter_map, cons_option}
use Rattle.std.proofs.lemmas.List.{get_or-take, length-take}
use Rattle.std.proofs.lemmas.List.Elements.{Contains-get_or}
use Rattle.std.proofs.lemmas.Option.{get_or_from_slice_get, slice_get_within}
use Rattle.base_types.specs.declared.needs.Cause.{Cause}
use Rattle.base_types.specs.declared.needs.Stranded.{Stranded}
use Rattle.base_types.specs.declared.limits.TheConstants.Limits.{HIGHEST_PRIORITY}
use Rattle.job_objects.specs.Job.{JobRecord}
use Rattle.plan_prices.specs.declared.plan.PlannedClass.{PlannedClass}
use Rattle.plan_prices.specs.Plan.{PlanRecord}
use Rattle.plan_prices.specs.Waits.{waits_after}
use Rattle.plan_checker.specs.Beside.{WaitsFollow, NoneElsewhere}
use Rattle.plan_checker.specs.Plan.{beside_at, IsProvedPlan}
use Rattle.print_room.specs.State.{State}
use Rattle.print_room.specs.Ready.{ready_of, belongs, class_of, cause_in, stranding, stranded_of}
use Rattle.print_room.specs.GoodPlan.{is_some_job, job_of_class, falling, priorities_of, IsPlannedBest, AllPlannedBest}
use Rattle.spool.proofs.RisingIds.{RisesFrom, different_ids}

-- ---- each class has the ids of its jobs, and is proved

pub all_ids : (s : State) (waits : List ℕ) (classes : List PlannedClass) → AllPlannedBest s waits classes → (k : ℕ) (d : PlannedClass) → k < length classes → (ws : List ℕ) × IsPlannedBest s ws (get_or classes k d)
all_ids s waits [] h k d below = absurd (omega (arith, below))
all_ids s waits (c ∷ cs) h zero d below = (waits, h.0)
all_ids s waits (c ∷ cs) h (suc k) d below = all_ids s (waits_after c.problem c.priced.way) cs h.1 k d (omega (arith, below))

map_ids : (jobs : List JobRecord) → map (λ j. j.id) (map job_of_class jobs) ≡ map (λ j. j.id) jobs
map_ids [] = refl
map_ids (job ∷ jobs) = ap (λ (xs : List ℕ). job.id ∷ xs) (map_ids jobs)

pub ids_of_class : (s : State) (ws : List ℕ) (class : PlannedClass) → IsPlannedBest s ws class → class.problem.ids ≡ map (λ j. j.id) (class_of s class.priority)
ids_of_class s ws class h = h.problem.ids ∙ map_ids (class_of s class.priority)

-- ---- the waits follow

follow_next : (s : State) (waits : List ℕ) (classes : List PlannedClass) → AllPlannedBest s waits classes → (place : ℕ) (d : PlannedClass) → suc place < length classes → (get_or classes (suc place) d).problem.waits ≡ waits_after (get_or classes place d).problem (get_or classes place d).priced.way
follow_next s waits [] h place d below = absurd (omega (arith, below))
follow_next s waits (c ∷ []) h place d below = absurd (omega (arith, below))
follow_next s waits (c ∷ e ∷ es) h zero d below = h.1.0.problem.waits_given
follow_next s waits (c ∷ e ∷ es) h (suc place) d below = follow_next s (waits_after c.problem c.priced.way) (e ∷ es) h.1 place d (omega (arith, below))

-- ---- the priorities fall

-- the numbers fall, and begin at most at one
abbrev pub FallsTo : ℕ → List ℕ → Type 0
FallsTo top [] = Unit {0}
FallsTo top (x ∷ xs) = (x < top) × FallsTo x xs

falls_higher : (top more : ℕ) (xs : List ℕ) → top ≤ more → FallsTo top xs → FallsTo more xs
falls_higher top more [] le h = tt
falls_higher top more (x ∷ xs) le h = (omega (arith, le, h.0), h.1)

falls_step : (b : Bool) (p : ℕ) (xs : List ℕ) → FallsTo (suc p) xs → FallsTo (suc (suc p)) (cond b (suc p ∷ xs) xs)
falls_step true p xs h = (omega arith, h)
falls_step false p xs h = falls_higher (suc p) (suc (suc p)) xs (omega arith) h

pub falling_falls : (test : ℕ → Bool) (p : ℕ) → FallsTo (suc p) (filter test (falling p))
unfolding falling
falling_falls test zero = tt
falling_falls test (suc p) = falls_step (test (suc p)) p (filter test (falling p)) (falling_falls test p)

below_top : (top : ℕ) (xs : List ℕ) → FallsTo top xs → (k : ℕ) → k < length xs → get_or xs k 0 < top
below_top top [] h k below = absurd (omega (arith, below))
below_top top (x ∷ xs) h zero below = h.0
below_top top (x ∷ xs) h (suc k) below = omega (arith, h.0, below_top x xs h.1 k (omega (arith, below)))

falls_between : (top : ℕ) (xs : List ℕ) → FallsTo top xs → (i k : ℕ) → i < k → k < length xs → get_or xs k 0 < get_or xs i 0
falls_between top [] h i k before below = absurd (omega (arith, below))
falls_between top (x ∷ xs) h i zero before below = absurd (omega (arith, before))
falls_between top (x ∷ xs) h zero (suc k) before below = below_top x xs h.1 k (omega (arith, below))
falls_between top (x ∷ xs) h (suc i) (suc k) before below = falls_between x xs h.1 i k (omega (arith, before)) (omega (arith, below))

priority_at : (classes : List PlannedClass) (k : ℕ) (d : PlannedClass) → k < length classes → get_or (map (λ c. c.priority) classes) k 0 ≡ (get_or classes k d).priority
priority_at [] k d below = absurd (omega (arith, below))
priority_at (c ∷ cs) zero d below = refl
priority_at (c ∷ cs) (suc k) d below = priority_at cs k d (omega (arith, below))

length_priorities : (classes : List PlannedClass) → length (map (λ c. c.priority) classes) ≡ length classes
length_priorities [] = refl
length_priorities (c ∷ cs) = ap suc (length_priorities cs)

-- ---- tests that exclude each other

both : (a b : Bool) → a && b ≡ true → (a ≡ true) × (b ≡ true)
both true b h = (refl, h)
both false b h = absurd (cc)

other_priority : (s : State) (one other : ℕ) → (one ≡ other → ⊥) → (job : JobRecord) → belongs s one job ≡ true → belongs s other job ≡ true → ⊥
other_priority s one other differ job a b =
    let x : (job.priority == one) ≡ true = (both (job.priority == one) (is_none (cause_in s job)) a).0 in
    let y : (job.priority == other) ≡ true = (both (job.priority == other) (is_none (cause_in s job)) b).0 in
    differ (grind arith)

-- a stranded job has a cause
abbrev pub stranded_test : State → JobRecord → Bool
stranded_test s job = is_some (cause_in s job)

some_not_none : {A : Type 0} (o : Option A) → is_none o ≡ true → is_some o ≡ true → ⊥
some_not_none None a b = cc
some_not_none (Some x) a b = cc

entry_step : (c : Option Cause) (job : JobRecord) (rest : List Stranded) (kept : List JobRecord) → map (λ e. e.job) rest ≡ map (λ j. j.id) kept → map (λ e. e.job) (cons_option (option_map (λ cause. record { job = job.id; cause = cause }) c) rest) ≡ map (λ j. j.id) (cond (is_some c) (job ∷ kept) kept)
entry_step None job rest kept h = h
entry_step (Some cause) job rest kept h = ap (λ (xs : List ℕ). job.id ∷ xs) h

pub entry_ids : (s : State) (jobs : List JobRecord) → map (λ e. e.job) (filter_map (stranding s) jobs) ≡ map (λ j. j.id) (filter (stranded_test s) jobs)
entry_ids s [] = refl
entry_ids s (job ∷ jobs) = entry_step (cause_in s job) job (filter_map (stranding s) jobs) (filter (stranded_test s) jobs) (entry_ids s jobs)

stranded_apart : (s : State) (priority : ℕ) (job : JobRecord) → belongs s priority job ≡ true → stranded_test s job ≡ true → ⊥
stranded_apart s priority job a b = some_not_none (cause_in s job) (both (job.priority == priority) (is_none (cause_in s job)) a).1 b

module _ (s : State) (plan : PlanRecord) (waits : List ℕ)
    (priorities : map (λ class. class.priority) plan.classes ≡ priorities_of s)
    (best : AllPlannedBest s waits plan.classes)
    (stranded : plan.stranded ≡ stranded_of s)
    (rises : RisesFrom 0 (map (λ j. j.id) (ready_of s))) where
  pub class_ids : (k : ℕ) (d : PlannedClass) → k < length plan.classes → (get_or plan.classes k d).problem.ids ≡ map (λ j. j.id) (class_of s (get_or plan.classes k d).priority)
  class_ids k d below = let h = all_ids s waits plan.classes best k d below in ids_of_class s h.0 (get_or plan.classes k d) h.1

  falls : FallsTo (suc HIGHEST_PRIORITY) (map (λ class. class.priority) plan.classes)
  falls = subst (λ (ps : List ℕ). FallsTo (suc HIGHEST_PRIORITY) ps) (sym priorities) (falling_falls (λ level. is_some_job (class_of s level)) HIGHEST_PRIORITY)

  lower : (i k : ℕ) (d : PlannedClass) → i < k → k < length plan.classes → (get_or plan.classes k d).priority < (get_or plan.classes i d).priority
  lower i k d before below =
      let between = falls_between (suc HIGHEST_PRIORITY) (map (λ class. class.priority) plan.classes) falls i k before (omega (arith, length_priorities plan.classes, below)) in
      omega (arith, between, priority_at plan.classes k d below, priority_at plan.classes i d (omega arith))

  pub apart_classes : (i k : ℕ) (d : PlannedClass) → i < k → k < length plan.classes → (job : ℕ) → Contains (get_or plan.classes k d).problem.ids job → Contains (get_or plan.classes i d).problem.ids job → ⊥
  apart_classes i k d before below job one other =
      let p = (get_or plan.classes k d).priority in
      let q = (get_or plan.classes i d).priority in
      different_ids (belongs s p) (belongs s q) (other_priority s p q (λ same. absurd (omega (arith, same, lower i k d before below)))) 0 (ready_of s) rises job
      (subst (λ (xs : List ℕ). Contains xs job) (class_ids k d below) one)
      (subst (λ (xs : List ℕ). Contains xs job) (class_ids i d (omega arith)) other)

  named_apart : (k : ℕ) (d : PlannedClass) → k < length plan.classes → (job : ℕ) → Contains (get_or plan.classes k d).problem.ids job → Contains (map (λ e. e.job) plan.stranded) job → ⊥
  named_apart k d below job one other =
      let p = (get_or plan.classes k d).priority in
      let named : map (λ e. e.job) plan.stranded ≡ map (λ j. j.id) (filter (stranded_test s) (ready_of s)) = ap (λ (es : List Stranded). map (λ e. e.job) es) stranded ∙ entry_ids s (ready_of s) in
      different_ids (belongs s p) (stranded_test s) (stranded_apart s p) 0 (ready_of s) rises job
      (subst (λ (xs : List ℕ). Contains xs job) (class_ids k d below) one)
      (subst (λ (xs : List ℕ). Contains xs job) named other)

  contains_mapped : (entries : List Stranded) (k : ℕ) (d : Stranded) → k < length entries → Contains (map (λ e. e.job) entries) (get_or entries k d).job
  contains_mapped [] k d below = absurd (omega (arith, below))
  contains_mapped (e ∷ es) zero d below = (0, omega arith, refl)
  contains_mapped (e ∷ es) (suc k) d below = let rest = contains_mapped es k d (omega (arith, below)) in (suc rest.0, omega (arith, rest.1), rest.2)

  taken_at : (place k : ℕ) (d : PlannedClass) → k < length (take place plan.classes) → get_or (take place plan.classes) k d ≡ get_or plan.classes k d
  taken_at place k d below = get_or-take place plan.classes k d (omega (arith, below, length-take place plan.classes))

  follows : (place : ℕ) (class : PlannedClass) → slice_get plan.classes place ≡ Some class → WaitsFollow (take place plan.classes) class.problem
  follows place class found at last end at_is =
      let within : place < length plan.classes = slice_get_within plan.classes place class found in
      let here : get_or plan.classes place class ≡ class = get_or_from_slice_get plan.classes place class class found in
      let short = length-take place plan.classes in
      let last_within : at < length (take place plan.classes) = slice_get_within (take place plan.classes) at last at_is in
      let last_here : get_or (take place plan.classes) at class ≡ last = get_or_from_slice_get (take place plan.classes) at last class at_is in
      let last_is : get_or plan.classes at class ≡ last = sym (taken_at place at class last_within) ∙ last_here in
      let next : suc at ≡ place = omega (arith, end, short, within) in
      let step = follow_next s waits plan.classes best at class (omega (arith, next, within)) in
      subst (λ (l : PlannedClass). class.problem.waits ≡ waits_after l.problem l.priced.way) last_is
      (subst (λ (c : PlannedClass). c.problem.waits ≡ waits_after (get_or plan.classes at class).problem (get_or plan.classes at class).priced.way) here
      (subst (λ (p : ℕ). (get_or plan.classes p class).problem.waits ≡ waits_after (get_or plan.classes at class).problem (get_or plan.classes at class).priced.way) next step))

  none_elsewhere : (place : ℕ) (class : PlannedClass) → slice_get plan.classes place ≡ Some class → NoneElsewhere (beside_at plan place) class.problem
  none_elsewhere place class found =
      let within : place < length plan.classes = slice_get_within plan.classes place class found in
      let here : get_or plan.classes place class ≡ class = get_or_from_slice_get plan.classes place class class found in
      record {
        above = λ i d below k e k_below other.
            let short = length-take place plan.classes in
            let moved : Contains (get_or plan.classes place e).problem.ids (get_or class.problem.ids i d) = subst (λ (c : PlannedClass). Contains c.problem.ids (get_or class.problem.ids i d)) (sym (get_or_from_slice_get plan.classes place class e found)) (Contains-get_or class.problem.ids i d below) in
            apart_classes k place e (omega (arith, k_below, short)) within (get_or class.problem.ids i d) moved
            (subst (λ (c : PlannedClass). Contains c.problem.ids (get_or class.problem.ids i d)) (taken_at place k e k_below) other);
        stranded = λ i d below k e k_below is.
            let moved : Contains (get_or plan.classes place class).problem.ids (get_or class.problem.ids i d) = subst (λ (c : PlannedClass). Contains c.problem.ids (get_or class.problem.ids i d)) (sym here) (Contains-get_or class.problem.ids i d below) in
            named_apart place class within (get_or class.problem.ids i d) moved
            (subst (λ (job : ℕ). Contains (map (λ e. e.job) plan.stranded) job) is (contains_mapped plan.stranded k e k_below));
      }

  -- the plan is proved
  pub good_is_proved : IsProvedPlan plan
  good_is_proved = record {
    proved = λ k d below. (all_ids s waits plan.classes best k d below).1.proved;
    waits = follows;
    once = none_elsewhere;
  }
