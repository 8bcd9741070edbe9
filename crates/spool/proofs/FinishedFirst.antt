-- Each call leaves the jobs at the beginning finished.
use Rattle.std.proofs.Common.{◌≡◌, ◌∙◌, ◌==◌, inl, inr, ℕ, zero, suc, ◌+◌, ◌<◌, ◌≤◌, Bool, true, false, cond, eqb, not, ◌&&◌, List, [], ◌∷◌, ◌++◌, length, map, take, drop, get_or, Some, refl, sym, ap, subst, arith, add-one, remove, slice_get, true≢false}
use Rattle.std.specs.Prelude.{nat_eq}
use Rattle.std.specs.List.{list_any}
use Rattle.std.specs.Map.{lookup, set_value}
use Rattle.std.proofs.lemmas.Bool.{cases_lt}
use Rattle.std.proofs.lemmas.List.Sums.{sum_by-cons}
use Rattle.indexmap.specs.IndexMap.{insert_entry, set_value_at}
use Rattle.base_types.specs.declared.needs.Stranded.{Stranded}
use Rattle.job_objects.specs.JobState.{is_pending, is_finished}
use Rattle.job_objects.specs.declared.job_state.JobState.{JobState}
use Rattle.job_objects.specs.declared.job_state.JobState.TheVariants.{Pending, PendingHeld, Processing, Stopped, Canceled, Aborted, Completed}
use Rattle.spool.specs.Spooled.{SpooledRecord, marked}
use Rattle.spool.specs.Jobs.{Keyed, jobs_of, with_job, map_at}
use Rattle.spool.specs.Calls.{is_unfinished, unfinished_jobs, is_ready, marked_by, paused_at}
use Rattle.spool.specs.Ready.{ready_jobs}
use Rattle.spool.specs.Leading.{AllFinished}
use Rattle.spool.proofs.Entries.{set_job, jobs_at, jobs_remove, new_entry, jobs_push}
use Rattle.spool.proofs.Finished.{KeepsFinished}

-- ---- lists of jobs

either_list : (b : Bool) (count : ℕ) (xs ys : List SpooledRecord) → AllFinished count xs → AllFinished count ys → AllFinished count (cond b xs ys)
either_list true count xs ys of_xs of_ys = of_xs
either_list false count xs ys of_xs of_ys = of_ys

first_with : (id : ℕ) (f : SpooledRecord → SpooledRecord) → KeepsFinished f → (count : ℕ) (jobs : List SpooledRecord) → AllFinished count jobs → AllFinished count (with_job id f jobs)
first_with id f keeps zero jobs first = tt
first_with id f keeps (suc count) [] first = first
first_with id f keeps (suc count) (s ∷ jobs) first =
    either_list (eqb id s.job.id) (suc count) (f s ∷ jobs) (s ∷ with_job id f jobs) (keeps s first.0, first.1) (first.0, first_with id f keeps count jobs first.1)

first_map_at : (place : ℕ) (f : SpooledRecord → SpooledRecord) → KeepsFinished f → (count : ℕ) (jobs : List SpooledRecord) → AllFinished count jobs → AllFinished count (map_at place f jobs)
first_map_at place f keeps zero jobs first = tt
first_map_at place f keeps (suc count) [] first = first
first_map_at zero f keeps (suc count) (s ∷ jobs) first = (keeps s first.0, first.1)
first_map_at (suc place) f keeps (suc count) (s ∷ jobs) first = (first.0, first_map_at place f keeps count jobs first.1)

-- a job after them goes
first_after : (place count : ℕ) (jobs : List SpooledRecord) → count ≤ place → AllFinished count jobs → AllFinished count (remove jobs place)
first_after place zero jobs tail first = tt
first_after zero (suc count) jobs tail first = absurd (omega (arith, tail))
first_after (suc place) (suc count) [] tail first = first
first_after (suc place) (suc count) (s ∷ jobs) tail first = (first.0, first_after place count jobs (omega (arith, tail)) first.1)

-- one of the jobs at the beginning is removed
first_among : (place count : ℕ) (jobs : List SpooledRecord) → place ≤ count → AllFinished (suc count) jobs → AllFinished count (remove jobs place)
first_among place zero jobs among first = tt
first_among zero (suc count) [] among first = first
first_among zero (suc count) (s ∷ jobs) among first = first.1
first_among (suc place) (suc count) [] among first = first
first_among (suc place) (suc count) (s ∷ jobs) among first = (first.0, first_among place count jobs (omega (arith, among)) first.1)

first_push : (count : ℕ) (jobs more : List SpooledRecord) → AllFinished count jobs → AllFinished count (jobs ++ more)
first_push zero jobs more first = tt
first_push (suc count) [] more first = absurd first
first_push (suc count) (s ∷ jobs) more first = (first.0, first_push count jobs more first.1)

-- one more job at the beginning is finished
next_finished : (count : ℕ) (jobs : List SpooledRecord) (s : SpooledRecord) → count < length jobs → s ≡ get_or jobs count s → is_finished s.job.state ≡ true → AllFinished count jobs → AllFinished (suc count) jobs
next_finished count [] s inside is finished first = absurd (omega (arith, inside))
next_finished zero (j ∷ jobs) s inside is finished first = (ap (λ (x : SpooledRecord). is_finished x.job.state) (sym is) ∙ finished, tt)
next_finished (suc count) (j ∷ jobs) s inside is finished first = (first.0, next_finished count jobs s (omega (arith, inside)) is finished first.1)

pub first_more : (count : ℕ) (jobs : List SpooledRecord) (s : SpooledRecord) → count < length jobs → s ≡ get_or jobs count s → is_finished s.job.state ≡ true → AllFinished count jobs → AllFinished (count + 1) jobs
first_more count jobs s inside is finished first = subst (λ (n : ℕ). AllFinished n jobs) (sym (add-one count)) (next_finished count jobs s inside is finished first)

pub first_inside : (count : ℕ) (jobs : List SpooledRecord) → AllFinished count jobs → count ≤ length jobs
first_inside zero jobs first = omega arith
first_inside (suc count) [] first = absurd first
first_inside (suc count) (s ∷ jobs) first = omega (arith, first_inside count jobs first.1)

-- ---- the entries of the map

-- a value written at a key
pub first_set : (f : SpooledRecord → SpooledRecord) → KeepsFinished f → (count key next : ℕ) (es : List (ℕ × SpooledRecord)) (s w : SpooledRecord) → Keyed es 0 next → lookup (nat_eq key) es ≡ Some s → w ≡ f s → AllFinished count (jobs_of es) → AllFinished count (jobs_of (set_value (nat_eq key) es w))
first_set f keeps count key next es s w keyed is written first =
    rw (written, set_job key 0 next es s f keyed is) (first_with key f keeps count (jobs_of es) first)

-- a value written at a place
pub first_at : (f : SpooledRecord → SpooledRecord) → KeepsFinished f → (count place : ℕ) (es : List (ℕ × SpooledRecord)) (s w : SpooledRecord) → slice_get (jobs_of es) place ≡ Some s → w ≡ f s → AllFinished count (jobs_of es) → AllFinished count (jobs_of (set_value_at es place w))
first_at f keeps count place es s w is written first =
    rw (written, jobs_at place es s f is) (first_map_at place f keeps count (jobs_of es) first)

-- the jobs at the beginning that stay finished once the job at a place is gone
pub first_removed : (count now place : ℕ) (es : List (ℕ × SpooledRecord)) → (place < count → suc now ≡ count) → (count ≤ place → now ≡ count) → AllFinished count (jobs_of es) → AllFinished now (jobs_of (remove es place))
first_removed count now place es among tail first = rw (jobs_remove place es) (elim (cases_lt place count) [
  | inl lt ↦ first_among place now (jobs_of es) (omega (arith, lt, among lt)) (subst (λ (n : ℕ). AllFinished n (jobs_of es)) (sym (among lt)) first)
  | inr past ↦ first_after place now (jobs_of es) (omega (arith, past, tail past)) (subst (λ (n : ℕ). AllFinished n (jobs_of es)) (sym (tail past)) first)
])

-- a new entry goes last
pub first_new : (count number next : ℕ) (es fs : List (ℕ × SpooledRecord)) (s : SpooledRecord) → Keyed es 0 next → number ≡ next → fs ≡ insert_entry nat_eq es number s → AllFinished count (jobs_of es) → AllFinished count (jobs_of fs)
first_new count number next es fs s keyed is entries first =
    let before : Keyed es 0 number = subst (λ (n : ℕ). Keyed es 0 n) (sym is) keyed in
    let jobs : jobs_of fs ≡ jobs_of es ++ s ∷ [] = ap jobs_of (entries ∙ new_entry 0 number es s before) ∙ jobs_push es number s in
    rw jobs (first_push count (jobs_of es) (s ∷ []) first)

-- ---- none of them is ready

finished_not_ready : (state : JobState) (b : Bool) → is_finished state ≡ true → is_pending state && b ≡ false
finished_not_ready Pending b is = absurd (true≢false (sym is))
finished_not_ready PendingHeld b is = refl
finished_not_ready Processing b is = refl
finished_not_ready Stopped b is = refl
finished_not_ready Canceled b is = refl
finished_not_ready Aborted b is = refl
finished_not_ready Completed b is = refl

not_ready : (paused : List Bool) (s : SpooledRecord) → is_finished s.job.state ≡ true → is_ready paused s.job ≡ false
not_ready paused s is = finished_not_ready s.job.state (not (paused_at paused s.job.needs.printer)) is

-- the ready jobs are after them
pub ready_after : (paused : List Bool) (count : ℕ) (jobs : List SpooledRecord) → AllFinished count jobs → ready_jobs paused (drop count jobs) ≡ ready_jobs paused jobs
ready_after paused zero jobs first = refl
ready_after paused (suc count) [] first = absurd first
ready_after paused (suc count) (s ∷ jobs) first =
    ready_after paused count jobs first.1 ∙ ap (λ (b : Bool). cond b (s.job ∷ ready_jobs paused jobs) (ready_jobs paused jobs)) (sym (not_ready paused s first.0))

-- nor is one of them unfinished
pub unfinished_after : (count : ℕ) (jobs : List SpooledRecord) → AllFinished count jobs → unfinished_jobs (drop count jobs) ≡ unfinished_jobs jobs
unfinished_after zero jobs first = refl
unfinished_after (suc count) [] first = absurd first
unfinished_after (suc count) (s ∷ jobs) first = omega (arith, unfinished_after count jobs first.1, sum_by-cons (λ x. cond (is_unfinished x) 1 0) s jobs, ap {B = ℕ} (λ (b : Bool). cond (not b) 1 0) first.0)

-- no mark changes them
pub marked_after : (paused : List Bool) (stranded : List Stranded) (count : ℕ) (jobs : List SpooledRecord) → AllFinished count jobs → map (marked_by paused stranded) (take count jobs) ++ drop count jobs ≡ jobs
marked_after paused stranded zero jobs first = refl
marked_after paused stranded (suc count) [] first = absurd first
marked_after paused stranded (suc count) (s ∷ jobs) first =
    let same : marked_by paused stranded s ≡ s = ap (λ (b : Bool). cond b (marked (list_any (λ e. e.job == s.job.id) stranded) s) s) (not_ready paused s first.0) in
    ap (λ (x : SpooledRecord). x ∷ map (marked_by paused stranded) (take count jobs) ++ drop count jobs) same
    ∙ ap (λ (js : List SpooledRecord). s ∷ js) (marked_after paused stranded count jobs first.1)
