-- One priority after the other is planned.
use Rattle.std.proofs.Common.{◌≡◌, ℕ, zero, suc, ◌+◌, ◌*◌, ◌<◌, ◌≤◌, ◌==◌, ◌&&◌, Bool, true, false, cond, List, [], ◌∷◌, ◌++◌, length, map, filter, count_by, nat_lt, is_none, All, inl, inr, refl, sym, ap, subst, ◌∙◌, arith, append-nil}
use Rattle.std.proofs.lemmas.Bool.{cases_lt}
use Rattle.std.proofs.lemmas.List.{length-map}
use Rattle.std.proofs.lemmas.List.Sums.{sum_by-cons}
use Rattle.base_types.specs.declared.limits.TheConstants.Limits.{JOB_TIME, NOT_BEFORE, HIGHEST_PRIORITY}
use Rattle.base_types.specs.Device.{Device}
use Rattle.job_objects.specs.Job.{JobRecord}
use Rattle.plan_prices.specs.declared.plan.PlannedClass.{PlannedClass}
use Rattle.plan_prices.specs.Waits.{waits_after, GrowsByTimes}
use Rattle.print_room.specs.Activity.{wait_of}
use Rattle.print_room.specs.State.{State}
use Rattle.print_room.specs.Ready.{ready_of, belongs, class_of, cause_in}
use Rattle.print_room.specs.GoodPlan.{is_some_job, falling, priorities_of, waits_of, IsPlannedBest, AllPlannedBest}
use Rattle.print_room.specs.Gathered.{gathered_of, highest_within}
use Rattle.print_room.proofs.Planned.{PlannedAbove, left_by, jobs_above}
use Rattle.print_room.proofs.ReadyJobs.{highest_least, none_above}

pub best_more : (s : State) (waits : List ℕ) (classes : List PlannedClass) (class : PlannedClass) → AllPlannedBest s waits classes → IsPlannedBest s (left_by waits classes) class → AllPlannedBest s waits (classes ++ class ∷ [])
best_more s waits [] class h new = (new, tt)
best_more s waits (c ∷ cs) class h new = (h.0, best_more s (waits_after c.problem c.priced.way) cs class h.1 new)

pub left_more : (waits : List ℕ) (classes : List PlannedClass) (class : PlannedClass) → left_by waits (classes ++ class ∷ []) ≡ waits_after class.problem class.priced.way
left_more waits [] class = refl
left_more waits (c ∷ cs) class = left_more (waits_after c.problem c.priced.way) cs class

pub priorities_more : (classes : List PlannedClass) (class : PlannedClass) (rest : List ℕ) → map (λ c. c.priority) (classes ++ class ∷ []) ++ rest ≡ map (λ c. c.priority) classes ++ class.priority ∷ rest
priorities_more [] class rest = refl
priorities_more (c ∷ cs) class rest = ap (λ (ps : List ℕ). c.priority ∷ ps) (priorities_more cs class rest)

above_step : (p level : ℕ) → cond (nat_lt (suc p) level) 1 0 + cond (level == suc p) 1 0 ≤ cond (nat_lt p level) 1 0
above_step p level = grind arith

class_step : (b c : Bool) (n : ℕ) (job : JobRecord) (jobs : List JobRecord) → length (cond (b && c) (job ∷ jobs) jobs) ≤ cond b 1 0 + length jobs
class_step true true n job jobs = omega (arith)
class_step true false n job jobs = omega (arith)
class_step false c n job jobs = omega (arith)

-- the jobs of a class are those that lie above the next priority and not above its own
class_among : (s : State) (p : ℕ) (jobs : List JobRecord) → length (filter (belongs s (suc p)) jobs) + count_by (λ j. nat_lt (suc p) j.priority) jobs ≤ count_by (λ j. nat_lt p j.priority) jobs
class_among s p [] = omega arith
class_among s p (job ∷ jobs) = omega (arith, sum_by-cons (λ j. cond (nat_lt (suc p) j.priority) 1 0) job jobs, sum_by-cons (λ j. cond (nat_lt p j.priority) 1 0) job jobs, class_step (job.priority == suc p) (is_none (cause_in s job)) 0 job (filter (belongs s (suc p)) jobs), above_step p job.priority, class_among s p jobs)

pub class_counts : (s : State) (p : ℕ) → length (class_of s (suc p)) + jobs_above (suc p) s ≤ jobs_above p s
class_counts s p = class_among s p (ready_of s)

falling_next : (s : State) (p : ℕ) (b : Bool) → is_some_job (class_of s (suc p)) ≡ b → filter (λ level. is_some_job (class_of s level)) (falling (suc p)) ≡ cond b (suc p ∷ filter (λ level. is_some_job (class_of s level)) (falling p)) (filter (λ level. is_some_job (class_of s level)) (falling p))
unfolding falling
falling_next s p b is = ap (λ t. cond t (suc p ∷ filter (λ level. is_some_job (class_of s level)) (falling p)) (filter (λ level. is_some_job (class_of s level)) (falling p))) is

-- a priority that has no class
pub next_none : (s : State) (now p : ℕ) (classes : List PlannedClass) (waits : List ℕ) → PlannedAbove s now (suc p) classes waits → is_some_job (class_of s (suc p)) ≡ false → PlannedAbove s now p classes waits
next_none s now p classes waits h none = record {
  priorities = ap (λ (ps : List ℕ). map (λ c. c.priority) classes ++ ps) (sym (falling_next s p false none)) ∙ h.priorities;
  best = h.best;
  left = h.left;
  one_each = h.one_each;
  short = λ k d below. omega (arith, h.short k d below, class_counts s p);
}

-- no class is planned yet
pub none_planned : (s : State) (now : ℕ) (classes : List PlannedClass) (waits : List ℕ) → classes ≡ [] → waits ≡ waits_of now s → All (λ wait. wait ≤ NOT_BEFORE) waits → PlannedAbove s now HIGHEST_PRIORITY classes waits
none_planned s now classes waits none is short = subst (λ (cs : List PlannedClass). PlannedAbove s now HIGHEST_PRIORITY cs waits) (sym none) (record {
  priorities = refl;
  best = tt;
  left = sym is;
  one_each = ap (λ (ws : List ℕ). length ws) is ∙ length-map s.devices (λ (d : Device). wait_of now d);
  short = λ k d below. omega (arith, short k d below);
})

-- priorities that have no class
pub skip_empty : (s : State) (now next most : ℕ) (classes : List PlannedClass) (waits : List ℕ) → next ≤ most → ((level : ℕ) → next < level → level ≤ most → is_some_job (class_of s level) ≡ false) → PlannedAbove s now most classes waits → PlannedAbove s now next classes waits
skip_empty s now next zero classes waits within none h = subst (λ (p : ℕ). PlannedAbove s now p classes waits) (omega (arith, within)) h
skip_empty s now next (suc most) classes waits within none h = elim (cases_lt next (suc most)) [
  | inl lt ↦ skip_empty s now next most classes waits (omega (arith, lt)) (λ level above below. none level above (omega (arith, below))) (next_none s now most classes waits h (none (suc most) lt (omega arith)))
  | inr past ↦ subst (λ (p : ℕ). PlannedAbove s now p classes waits) (omega (arith, within, past)) h
]

-- the highest priority up to a level that has a class
pub skip_to : (s : State) (now most : ℕ) (classes : List PlannedClass) (waits : List ℕ) → PlannedAbove s now most classes waits → PlannedAbove s now (highest_within most (gathered_of s)) classes waits
skip_to s now most classes waits h = skip_empty s now (highest_within most (gathered_of s)) most classes waits (highest_least s most (ready_of s)) (λ level above below. none_above s most level (ready_of s) above below) h

-- a priority whose class is planned
pub next_some : (s : State) (now p : ℕ) (classes : List PlannedClass) (waits after : List ℕ) (class : PlannedClass) → PlannedAbove s now (suc p) classes waits → is_some_job (class_of s (suc p)) ≡ true → class.priority ≡ suc p → IsPlannedBest s waits class
    → after ≡ waits_after class.problem class.priced.way → length after ≡ length waits → length class.problem.ids ≤ length (class_of s (suc p)) → GrowsByTimes class.problem after → PlannedAbove s now p (classes ++ class ∷ []) after
next_some s now p classes waits after class h some is best left same few grows =
    let rest : List ℕ = filter (λ level. is_some_job (class_of s level)) (falling p) in
    let most : ℕ = NOT_BEFORE + jobs_above (suc p) s * JOB_TIME in
    let given : class.problem.waits ≡ waits = best.problem.waits_given in
    let grown : All (λ wait. wait ≤ most + length class.problem.ids * JOB_TIME) after = grows most (subst (λ (ws : List ℕ). All (λ wait. wait ≤ most) ws) (sym given) h.short) in
    record {
      priorities = priorities_more classes class rest ∙ (ap (λ (q : ℕ). map (λ c. c.priority) classes ++ q ∷ rest) is ∙ (ap (λ (ps : List ℕ). map (λ c. c.priority) classes ++ ps) (sym (falling_next s p true some)) ∙ h.priorities));
      best = best_more s (waits_of now s) classes class h.best (subst (λ (ws : List ℕ). IsPlannedBest s ws class) (sym h.left) best);
      left = left_more (waits_of now s) classes class ∙ sym left;
      one_each = same ∙ h.one_each;
      short = λ k d below. omega (arith, grown k d below, few, class_counts s p);
    }

-- no priority is left
pub all_planned : (s : State) (now : ℕ) (classes : List PlannedClass) (waits : List ℕ) → PlannedAbove s now 0 classes waits → map (λ c. c.priority) classes ≡ priorities_of s
unfolding falling
all_planned s now classes waits h = sym (append-nil (map (λ c. c.priority) classes)) ∙ h.priorities
