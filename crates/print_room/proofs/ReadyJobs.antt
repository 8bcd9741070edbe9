-- The ready jobs are gathered, and the jobs of a class are picked out of them.
use Rattle.std.proofs.Common.{◌≡◌, ◌⊎◌, inl, inr, true≢false, ◌==◌, max, nat_le, is_none, ℕ, ◌+◌, ◌<◌, ◌≤◌, ◌&&◌, Bool, true, false, cond, List, [], ◌∷◌, ◌++◌, length, take, get_or, refl, sym, ap, ◌∙◌, filter, map, filter_map, option_to_list, Option, Some, None, arith, count_by, not}
use Rattle.std.specs.List.{cons_option}
use Rattle.std.proofs.Math.Nat.{max-le}
use Rattle.std.proofs.lemmas.List.{take_more}
use Rattle.std.proofs.lemmas.List.Sums.{sum_by-cons}
use Rattle.std.proofs.lemmas.List.Elements.{filter_map-append}
use Rattle.base_types.specs.declared.needs.Stranded.{Stranded}
use Rattle.job_objects.specs.Job.{JobRecord}
use Rattle.job_objects.specs.JobState.{is_pending, is_finished}
use Rattle.job_objects.specs.declared.job_state.JobState.{JobState}
use Rattle.job_objects.specs.declared.job_state.JobState.TheVariants.{Pending, PendingHeld, Processing, Stopped, Canceled, Aborted, Completed}
use Rattle.spool.specs.Spooled.{SpooledRecord}
use Rattle.spool.specs.Calls.{is_ready, is_unfinished, unfinished_jobs, paused_at}
use Rattle.spool.specs.Ready.{ready_jobs}
use Rattle.plan_problem.specs.ClassJob.{JobOfClass}
use Rattle.print_room.specs.State.{State}
use Rattle.print_room.specs.Ready.{stranding, belongs, cause_in}
use Rattle.print_room.specs.GoodPlan.{is_some_job, job_of_class}
use Rattle.print_room.specs.Gathered.{Gathered, gathered, entry_of, is_of_class, class_job_of, highest_within}

entry_one : (o : Option Stranded) → cons_option o [] ≡ option_to_list o
entry_one None = refl
entry_one (Some entry) = refl

-- one job more, which may be stranded
pub stranded_more : (xs : List Gathered) (i : ℕ) (x : Gathered) → i < length xs → x ≡ get_or xs i x → filter_map entry_of (take (i + 1) xs) ≡ filter_map entry_of (take i xs) ++ option_to_list (entry_of x)
stranded_more xs i x inside is =
    ap (λ (gs : List Gathered). filter_map entry_of gs) (take_more xs i x inside ∙ ap (λ (g : Gathered). take i xs ++ g ∷ []) (sym is))
    ∙ (filter_map-append entry_of (take i xs) (x ∷ [])
    ∙ ap (λ (es : List Stranded). filter_map entry_of (take i xs) ++ es) (entry_one (entry_of x)))

-- the stranded jobs of a state
pub stranded_gathered : (s : State) (jobs : List JobRecord) → filter_map entry_of (map (gathered s) jobs) ≡ filter_map (stranding s) jobs
stranded_gathered s [] = refl
stranded_gathered s (job ∷ jobs) = ap (λ (es : List Stranded). cons_option (stranding s job) es) (stranded_gathered s jobs)

class_one : (b : Bool) (s : State) (job : JobRecord) (xs : List Gathered) (ys : List JobRecord) → map class_job_of xs ≡ map job_of_class ys → map class_job_of (cond b (gathered s job ∷ xs) xs) ≡ map job_of_class (cond b (job ∷ ys) ys)
class_one true s job xs ys h = ap (λ (cs : List JobOfClass). job_of_class job ∷ cs) h
class_one false s job xs ys h = h

-- the gathered jobs of a class
pub class_gathered : (s : State) (p : ℕ) (jobs : List JobRecord) → map class_job_of (filter (is_of_class p) (map (gathered s) jobs)) ≡ map job_of_class (filter (belongs s p) jobs)
class_gathered s p [] = refl
class_gathered s p (job ∷ jobs) = class_one (belongs s p job) s job (filter (is_of_class p) (map (gathered s) jobs)) (filter (belongs s p) jobs) (class_gathered s p jobs)

-- ---- the highest priority of a class

within_least : (p most : ℕ) (b : Bool) → cond (nat_le p most && b) p 0 ≤ most
within_least p most true = grind arith
within_least p most false = grind arith

pub highest_least : (s : State) (most : ℕ) (jobs : List JobRecord) → highest_within most (map (gathered s) jobs) ≤ most
highest_least s most [] = omega arith
highest_least s most (job ∷ jobs) = max-le (within_least job.priority most (is_none (cause_in s job))) (highest_least s most jobs)

-- no class is higher
one_above : (p most level rest : ℕ) (b : Bool) → max (cond (nat_le p most && b) p 0) rest < level → level ≤ most → ((p == level) && b ≡ false) × (rest < level)
one_above p most level rest b above within = grind arith

keep_none : (b : Bool) (job : JobRecord) (jobs : List JobRecord) → b ≡ false → is_some_job jobs ≡ false → is_some_job (cond b (job ∷ jobs) jobs) ≡ false
keep_none true job jobs isnt none = absurd (true≢false isnt)
keep_none false job jobs isnt none = none

pub none_above : (s : State) (most level : ℕ) (jobs : List JobRecord) → highest_within most (map (gathered s) jobs) < level → level ≤ most → is_some_job (filter (belongs s level) jobs) ≡ false
none_above s most level [] above within = refl
none_above s most level (job ∷ jobs) above within =
    let both = one_above job.priority most level (highest_within most (map (gathered s) jobs)) (is_none (cause_in s job)) above within in
    keep_none (belongs s level job) job (filter (belongs s level) jobs) both.0 (none_above s most level jobs both.1 within)

-- it has a job
one_highest : (p most top rest : ℕ) (b : Bool) → max (cond (nat_le p most && b) p 0) rest ≡ top → 1 ≤ top → ((p == top) && b ≡ true) ⊎ (rest ≡ top)
one_highest p most top rest b is some = grind arith

keep_some : (b : Bool) (job : JobRecord) (jobs : List JobRecord) → (b ≡ true) ⊎ (is_some_job jobs ≡ true) → is_some_job (cond b (job ∷ jobs) jobs) ≡ true
keep_some true job jobs h = refl
keep_some false job jobs (inl h) = absurd (true≢false (sym h))
keep_some false job jobs (inr h) = h

pub some_highest : (s : State) (most top : ℕ) (jobs : List JobRecord) → highest_within most (map (gathered s) jobs) ≡ top → 1 ≤ top → is_some_job (filter (belongs s top) jobs) ≡ true
some_highest s most top [] is some = absurd (omega (arith, is, some))
some_highest s most top (job ∷ jobs) is some =
    keep_some (belongs s top job) job (filter (belongs s top) jobs) (elim (one_highest job.priority most top (highest_within most (map (gathered s) jobs)) (is_none (cause_in s job)) is some) [
      | inl here ↦ inl here
      | inr later ↦ inr (some_highest s most top jobs later some)
    ])

-- ---- ready jobs are unfinished

pending_unfinished : (state : JobState) (b : Bool) → cond (is_pending state && b) 1 0 ≤ cond (not (is_finished state)) 1 0
pending_unfinished Pending true = omega arith
pending_unfinished Pending false = omega arith
pending_unfinished PendingHeld b = omega arith
pending_unfinished Processing b = omega arith
pending_unfinished Stopped b = omega arith
pending_unfinished Canceled b = omega arith
pending_unfinished Aborted b = omega arith
pending_unfinished Completed b = omega arith

length_cond : (b : Bool) (job : JobRecord) (jobs : List JobRecord) → length (cond b (job ∷ jobs) jobs) ≡ cond b 1 0 + length jobs
length_cond true job jobs = omega arith
length_cond false job jobs = omega arith

pub ready_unfinished : (paused : List Bool) (xs : List SpooledRecord) → length (ready_jobs paused xs) ≤ unfinished_jobs xs
ready_unfinished paused [] = omega arith
ready_unfinished paused (x ∷ xs) = omega (arith, sum_by-cons (λ s. cond (is_unfinished s) 1 0) x xs, length_cond (is_ready paused x.job) x.job (ready_jobs paused xs), pending_unfinished x.job.state (not (paused_at paused x.job.needs.printer)), ready_unfinished paused xs)

one_short : (b : Bool) → cond b 1 0 ≤ 1
one_short true = omega arith
one_short false = omega arith

pub count_short : (test : JobRecord → Bool) (jobs : List JobRecord) → count_by test jobs ≤ length jobs
count_short test [] = omega arith
count_short test (job ∷ jobs) = omega (arith, sum_by-cons (λ j. cond (test j) 1 0) job jobs, one_short (test job), count_short test jobs)
