-- How many jobs are unfinished: never more than before, but for a new one.
use Rattle.std.proofs.Common.{◌≡◌, ℕ, zero, suc, ◌+◌, ◌<◌, ◌≤◌, Bool, true, false, cond, eqb, not, List, [], ◌∷◌, ◌++◌, Some, refl, sym, ◌∙◌, ap, subst, arith, remove, slice_get, true≢false}
use Rattle.std.specs.Prelude.{nat_eq, Result, Ok, Err, OnOk, OnErr}
use Rattle.std.specs.Map.{lookup, set_value}
use Rattle.std.proofs.lemmas.List.Sums.{sum_by-cons, sum_by_push}
use Rattle.indexmap.specs.IndexMap.{insert_entry, set_value_at}
use Rattle.base_types.specs.declared.limits.TheConstants.Limits.{UNFINISHED_JOBS}
use Rattle.job_objects.specs.JobState.{is_finished}
use Rattle.spool.specs.Spooled.{SpooledRecord}
use Rattle.spool.specs.Jobs.{SpoolRecord, Keyed, jobs_of, with_job, map_at}
use Rattle.spool.specs.Calls.{is_unfinished, unfinished_jobs}
use Rattle.spool.proofs.Entries.{set_job, jobs_at, jobs_remove, new_entry, jobs_push}
use Rattle.spool.proofs.Finished.{KeepsFinished}

abbrev one_if : Bool → ℕ
one_if b = cond b 1 0

at_most_one : (b : Bool) → one_if b ≤ 1
at_most_one true = omega arith
at_most_one false = omega arith

count_cons : (s : SpooledRecord) (jobs : List SpooledRecord) → unfinished_jobs (s ∷ jobs) ≡ one_if (is_unfinished s) + unfinished_jobs jobs
count_cons s jobs = sum_by-cons (λ x. one_if (is_unfinished x)) s jobs

no_more : (b c : Bool) → (b ≡ true → c ≡ true) → one_if (not c) ≤ one_if (not b)
no_more true true keeps = omega arith
no_more true false keeps = absurd (true≢false (sym (keeps refl)))
no_more false c keeps = at_most_one (not c)

counts_less : (f : SpooledRecord → SpooledRecord) → KeepsFinished f → (s : SpooledRecord) → one_if (is_unfinished (f s)) ≤ one_if (is_unfinished s)
counts_less f keeps s = no_more (is_finished s.job.state) (is_finished (f s).job.state) (keeps s)

-- ---- lists of jobs

fewer_if : (t : Bool) (a b : SpooledRecord) (xs ys : List SpooledRecord) → one_if (is_unfinished b) ≤ one_if (is_unfinished a) → unfinished_jobs ys ≤ unfinished_jobs xs → unfinished_jobs (cond t (b ∷ xs) (a ∷ ys)) ≤ unfinished_jobs (a ∷ xs)
fewer_if true a b xs ys one rest = omega (arith, one, count_cons a xs, count_cons b xs)
fewer_if false a b xs ys one rest = omega (arith, rest, count_cons a xs, count_cons a ys)

fewer_with : (id : ℕ) (f : SpooledRecord → SpooledRecord) → KeepsFinished f → (jobs : List SpooledRecord) → unfinished_jobs (with_job id f jobs) ≤ unfinished_jobs jobs
fewer_with id f keeps [] = omega arith
fewer_with id f keeps (s ∷ jobs) = fewer_if (eqb id s.job.id) s (f s) jobs (with_job id f jobs) (counts_less f keeps s) (fewer_with id f keeps jobs)

fewer_at : (place : ℕ) (f : SpooledRecord → SpooledRecord) → KeepsFinished f → (jobs : List SpooledRecord) → unfinished_jobs (map_at place f jobs) ≤ unfinished_jobs jobs
fewer_at place f keeps [] = omega arith
fewer_at zero f keeps (s ∷ jobs) = fewer_if true s (f s) jobs jobs (counts_less f keeps s) (omega arith)
fewer_at (suc place) f keeps (s ∷ jobs) = fewer_if false s s jobs (map_at place f jobs) (omega arith) (fewer_at place f keeps jobs)

fewer_removed : (place : ℕ) (jobs : List SpooledRecord) → unfinished_jobs (remove jobs place) ≤ unfinished_jobs jobs
fewer_removed zero [] = omega arith
fewer_removed (suc place) [] = omega arith
fewer_removed zero (s ∷ jobs) = omega (arith, count_cons s jobs)
fewer_removed (suc place) (s ∷ jobs) = fewer_if false s s jobs (remove jobs place) (omega arith) (fewer_removed place jobs)

-- ---- the entries of the map

-- at most the limit of jobs are unfinished
abbrev pub AreFew : List (ℕ × SpooledRecord) → Type 0
AreFew es = unfinished_jobs (jobs_of es) ≤ UNFINISHED_JOBS

-- a value written at a key
pub few_set : (f : SpooledRecord → SpooledRecord) → KeepsFinished f → (key next : ℕ) (es : List (ℕ × SpooledRecord)) (s w : SpooledRecord) → Keyed es 0 next → lookup (nat_eq key) es ≡ Some s → w ≡ f s → AreFew es → AreFew (set_value (nat_eq key) es w)
few_set f keeps key next es s w keyed is written few =
    rw (written, set_job key 0 next es s f keyed is) (omega (arith, few, fewer_with key f keeps (jobs_of es)))

-- a value written at a place
pub few_at : (f : SpooledRecord → SpooledRecord) → KeepsFinished f → (place : ℕ) (es : List (ℕ × SpooledRecord)) (s w : SpooledRecord) → slice_get (jobs_of es) place ≡ Some s → w ≡ f s → AreFew es → AreFew (set_value_at es place w)
few_at f keeps place es s w is written few =
    rw (written, jobs_at place es s f is) (omega (arith, few, fewer_at place f keeps (jobs_of es)))

pub few_removed : (place : ℕ) (es : List (ℕ × SpooledRecord)) → AreFew es → AreFew (remove es place)
few_removed place es few = rw (jobs_remove place es) (omega (arith, few, fewer_removed place (jobs_of es)))

-- a new entry goes last, where there is room
pub few_new : (number next : ℕ) (es fs : List (ℕ × SpooledRecord)) (old : SpoolRecord) (s : SpooledRecord) → Keyed es 0 next → record { jobs = jobs_of es; next = next } ≡ old → number ≡ next → fs ≡ insert_entry nat_eq es number s → unfinished_jobs old.jobs < UNFINISHED_JOBS → AreFew fs
few_new number next es fs old s keyed view is entries room =
    let before : Keyed es 0 number = subst (λ (n : ℕ). Keyed es 0 n) (sym is) keyed in
    let jobs : jobs_of fs ≡ jobs_of es ++ s ∷ [] = ap jobs_of (entries ∙ new_entry 0 number es s before) ∙ jobs_push es number s in
    let same : unfinished_jobs (jobs_of es) ≡ unfinished_jobs old.jobs = ap (λ (o : SpoolRecord). unfinished_jobs o.jobs) view in
    let more : unfinished_jobs (jobs_of es ++ s ∷ []) ≡ unfinished_jobs (jobs_of es) + one_if (is_unfinished s) = sum_by_push (λ x. one_if (is_unfinished x)) (jobs_of es) s in
    rw jobs (omega (arith, room, same, more, at_most_one (is_unfinished s)))

pub either_way : {A B : Type 0} (r : Result A B) {P Q R : Type 0} → (P → R) → (Q → R) → OnOk r P → OnErr r Q → R
either_way (Ok a) f g p q = f p
either_way (Err b) f g p q = g q
