-- A job that a device has stays there, until its device ends it.
use Rattle.std.proofs.Common.{◌≡◌, ◌==◌, ◌&&◌, ◌∙◌, ℕ, Bool, true, false, cond, not, List, [], ◌∷◌, ◌++◌, Option, Some, None, refl, sym, ap, subst, map, filter, true≢false, inl, inr, ◌||◌}
use Rattle.std.specs.Prelude.{option_map, nat_lt}
use Rattle.base_types.specs.declared.limits.TheConstants.Limits.{FINISHED_JOBS_KEPT}
use Rattle.std.specs.List.{list_any}
use Rattle.std.specs.Option.{option_map_or}
use Rattle.std.proofs.lemmas.Bool.{cases_eq, eqb-true, ne_eqb}
use Rattle.base_types.specs.declared.needs.Stranded.{Stranded}
use Rattle.job_objects.specs.JobState.{is_finished}
use Rattle.job_objects.specs.declared.job_change.JobChange.{JobChange}
use Rattle.job_objects.specs.declared.job_change.JobChange.TheVariants as Change
use Rattle.job_objects.specs.Job.{JobRecord}
use Rattle.job_objects.specs.JobStep.{job_after, ends_print}
use Rattle.octets.specs.Document.{DocumentRecord}
use Rattle.spool.specs.Spooled.{SpooledRecord, retired, on_device_after, changed, let_go, reported, is_overdue, expired, marked}
use Rattle.spool.specs.Jobs.{spooled_at, with_job}
use Rattle.spool.specs.Kept.{is_kept, later_jobs, retained, jobs_reported}
use Rattle.spool.specs.Calls.{is_ready, marked_by}
use Rattle.spool.proofs.Ids.{KeepsId, either, changed_id, reported_id, expired_id, marked_id}
use Rattle.spool.specs.OnDevice.{is_on_device, Stays, AllStay, OthersStay}

-- ---- the job of an id in a changed list

-- the first job of a list, whose id is or isn't the sought id
first_is : (id : ℕ) (s : SpooledRecord) (jobs : List SpooledRecord) → (id == s.job.id) ≡ true → spooled_at id (s ∷ jobs) ≡ Some s
first_is id s jobs is = ap (λ (b : Bool). cond b (Some s) (spooled_at id jobs)) is

first_is_other : (id : ℕ) (s : SpooledRecord) (jobs : List SpooledRecord) → (id == s.job.id) ≡ false → spooled_at id (s ∷ jobs) ≡ spooled_at id jobs
first_is_other id s jobs is = ap (λ (b : Bool). cond b (Some s) (spooled_at id jobs)) is

same_test : (id : ℕ) (s w : SpooledRecord) (b : Bool) → w.job.id ≡ s.job.id → (id == s.job.id) ≡ b → (id == w.job.id) ≡ b
same_test id s w b same is = ap (λ (n : ℕ). id == n) same ∙ is

pub found_with : (id : ℕ) (f : SpooledRecord → SpooledRecord) → KeepsId f → (jobs : List SpooledRecord) → spooled_at id (with_job id f jobs) ≡ option_map f (spooled_at id jobs)
found_with id f same [] = refl
found_with id f same (s ∷ jobs) = step (id == s.job.id) refl (found_with id f same jobs)
  where
    step : (b : Bool) → (id == s.job.id) ≡ b → spooled_at id (with_job id f jobs) ≡ option_map f (spooled_at id jobs) → spooled_at id (cond b (f s ∷ jobs) (s ∷ with_job id f jobs)) ≡ option_map f (cond b (Some s) (spooled_at id jobs))
    step true is rest = first_is id (f s) jobs (same_test id s (f s) true (same s) is)
    step false is rest = first_is_other id s (with_job id f jobs) is ∙ rest

other_id : (id one n : ℕ) → ¬ (id ≡ one) → (one == n) ≡ true → (id == n) ≡ false
other_id id one n differ is = ne_eqb id n (λ same. differ (same ∙ sym (eqb-true one n is)))

pub found_other : (id one : ℕ) (f : SpooledRecord → SpooledRecord) → KeepsId f → ¬ (id ≡ one) → (jobs : List SpooledRecord) → spooled_at id (with_job one f jobs) ≡ spooled_at id jobs
found_other id one f same differ [] = refl
found_other id one f same differ (s ∷ jobs) = step (one == s.job.id) refl (found_other id one f same differ jobs)
  where
    rest_of : (b : Bool) → spooled_at id (with_job one f jobs) ≡ spooled_at id jobs → cond b (Some s) (spooled_at id (with_job one f jobs)) ≡ cond b (Some s) (spooled_at id jobs)
    rest_of true rest = refl
    rest_of false rest = rest

    step : (b : Bool) → (one == s.job.id) ≡ b → spooled_at id (with_job one f jobs) ≡ spooled_at id jobs → spooled_at id (cond b (f s ∷ jobs) (s ∷ with_job one f jobs)) ≡ spooled_at id (s ∷ jobs)
    step true is rest =
        let out = other_id id one s.job.id differ is in
        first_is_other id (f s) jobs (same_test id s (f s) false (same s) out) ∙ sym (first_is_other id s jobs out)
    step false is rest = rest_of (id == s.job.id) rest

pub found_map : (id : ℕ) (f : SpooledRecord → SpooledRecord) → KeepsId f → (jobs : List SpooledRecord) → spooled_at id (map f jobs) ≡ option_map f (spooled_at id jobs)
found_map id f same [] = refl
found_map id f same (s ∷ jobs) = step (id == s.job.id) refl (found_map id f same jobs)
  where
    step : (b : Bool) → (id == s.job.id) ≡ b → spooled_at id (map f jobs) ≡ option_map f (spooled_at id jobs) → spooled_at id (f s ∷ map f jobs) ≡ option_map f (cond b (Some s) (spooled_at id jobs))
    step true is rest = first_is id (f s) (map f jobs) (same_test id s (f s) true (same s) is)
    step false is rest = first_is_other id (f s) (map f jobs) (same_test id s (f s) false (same s) is) ∙ rest

there_is : {x s : SpooledRecord} → Some x ≡ Some s → x ≡ s
there_is {x} {s} is = ap (λ (o : Option SpooledRecord). option_map_or (λ y. y) o s) is

found_kept : (id : ℕ) (keep : SpooledRecord → Bool) (jobs : List SpooledRecord) (s : SpooledRecord) → spooled_at id jobs ≡ Some s → keep s ≡ true → spooled_at id (filter keep jobs) ≡ Some s
found_kept id keep [] s found kept = found
found_kept id keep (x ∷ jobs) s found kept = step (id == x.job.id) refl found (λ later. found_kept id keep jobs s later kept)
  where
    with_first : (k : Bool) → (id == x.job.id) ≡ true → x ≡ s → keep x ≡ k → spooled_at id (cond k (x ∷ filter keep jobs) (filter keep jobs)) ≡ Some s
    with_first true is same k = first_is id x (filter keep jobs) is ∙ ap (λ (y : SpooledRecord). Some y) same
    with_first false is same k = absurd (true≢false (sym kept ∙ (ap keep (sym same) ∙ k)))

    without : (k : Bool) → (id == x.job.id) ≡ false → spooled_at id (cond k (x ∷ filter keep jobs) (filter keep jobs)) ≡ spooled_at id (filter keep jobs)
    without true is = first_is_other id x (filter keep jobs) is
    without false is = refl

    step : (b : Bool) → (id == x.job.id) ≡ b → spooled_at id (x ∷ jobs) ≡ Some s → (spooled_at id jobs ≡ Some s → spooled_at id (filter keep jobs) ≡ Some s) → spooled_at id (filter keep (x ∷ jobs)) ≡ Some s
    step true is all rest = with_first (keep x) is (there_is (sym (first_is id x jobs is) ∙ all)) refl
    step false is all rest = without (keep x) is ∙ rest (sym (first_is_other id x jobs is) ∙ all)

found_before : (id : ℕ) (jobs more : List SpooledRecord) (s : SpooledRecord) → spooled_at id jobs ≡ Some s → spooled_at id (jobs ++ more) ≡ Some s
found_before id [] more s found = absurd (cc)
found_before id (x ∷ jobs) more s found = step (id == x.job.id) refl (λ later. found_before id jobs more s later)
  where
    step : (b : Bool) → (id == x.job.id) ≡ b → (spooled_at id jobs ≡ Some s → spooled_at id (jobs ++ more) ≡ Some s) → spooled_at id (x ∷ (jobs ++ more)) ≡ Some s
    step true is rest = first_is id x (jobs ++ more) is ∙ (sym (first_is id x jobs is) ∙ found)
    step false is rest = first_is_other id x (jobs ++ more) is ∙ rest (sym (first_is_other id x jobs is) ∙ found)

-- ---- a change that leaves a job on its device

-- the job is there, and a device has it
pub there : (id : ℕ) (jobs : List SpooledRecord) → is_on_device id jobs ≡ true → (s : SpooledRecord) × (spooled_at id jobs ≡ Some s) × (s.on_device ≡ true)
there id jobs = found (spooled_at id jobs) refl
  where
    found : (o : Option SpooledRecord) → spooled_at id jobs ≡ o → option_map_or (λ s. s.on_device) o false ≡ true → (s : SpooledRecord) × (spooled_at id jobs ≡ Some s) × (s.on_device ≡ true)
    found None is on = absurd (true≢false (sym on))
    found (Some s) is on = (s, is, on)

pub stays_from : (id : ℕ) (old new : List SpooledRecord) (s w : SpooledRecord) → spooled_at id old ≡ Some s → spooled_at id new ≡ Some w → w.on_device ≡ true → w.documents ≡ s.documents → Stays id old new
stays_from id old new s w before after on same = record {
  on_device = ap (λ (o : Option SpooledRecord). option_map_or (λ x. x.on_device) o false) after ∙ on;
  documents =
      let of : Option SpooledRecord → List DocumentRecord = λ o. option_map_or (λ x. x.documents) o [] in
      ap of after ∙ (same ∙ sym (ap of before));
}

-- a job that a device has, after a change of one job: it is there, with the same documents
pub record KeepsOn (f : SpooledRecord → SpooledRecord) : Type 0 where
  pub id : KeepsId f
  pub on_device : (s : SpooledRecord) → s.on_device ≡ true → (f s).on_device ≡ true
  pub documents : (s : SpooledRecord) → s.on_device ≡ true → (f s).documents ≡ s.documents

pub stay_same : (jobs : List SpooledRecord) → AllStay jobs jobs
stay_same jobs id on = record { on_device = on; documents = refl }

pub stay_then : (old mid new : List SpooledRecord) → AllStay old mid → AllStay mid new → AllStay old new
stay_then old mid new one two id on =
    let before = one id on in
    let after = two id before.on_device in
    record { on_device = after.on_device; documents = after.documents ∙ before.documents }

pub others_then : (one : ℕ) (old mid new : List SpooledRecord) → OthersStay one old mid → AllStay mid new → OthersStay one old new
others_then one old mid new first two id differ on =
    let before = first id differ on in
    let after = two id before.on_device in
    record { on_device = after.on_device; documents = after.documents ∙ before.documents }

-- the job of one id is changed
pub others_with : (one : ℕ) (f : SpooledRecord → SpooledRecord) → KeepsId f → (jobs : List SpooledRecord) → OthersStay one jobs (with_job one f jobs)
others_with one f same jobs id differ on =
    let s = there id jobs on in
    stays_from id jobs (with_job one f jobs) s.0 s.0 s.1 (found_other id one f same differ jobs ∙ s.1) s.2 refl

pub stay_with : (one : ℕ) (f : SpooledRecord → SpooledRecord) → KeepsOn f → (jobs : List SpooledRecord) → AllStay jobs (with_job one f jobs)
stay_with one f keeps jobs id on = elim (cases_eq id one) [
  | inl same ↦
      let s = there id jobs on in
      let found : spooled_at id (with_job id f jobs) ≡ Some (f s.0) = found_with id f keeps.id jobs ∙ ap (λ (o : Option SpooledRecord). option_map f o) s.1 in
      subst (λ (n : ℕ). Stays id jobs (with_job n f jobs)) same (stays_from id jobs (with_job id f jobs) s.0 (f s.0) s.1 found (keeps.on_device s.0 s.2) (keeps.documents s.0 s.2))
  | inr differ ↦ others_with one f keeps.id jobs id differ on
]

-- each job is changed
pub stay_map : (f : SpooledRecord → SpooledRecord) → KeepsOn f → (jobs : List SpooledRecord) → AllStay jobs (map f jobs)
stay_map f keeps jobs id on =
    let s = there id jobs on in
    let found : spooled_at id (map f jobs) ≡ Some (f s.0) = found_map id f keeps.id jobs ∙ ap (λ (o : Option SpooledRecord). option_map f o) s.1 in
    stays_from id jobs (map f jobs) s.0 (f s.0) s.1 found (keeps.on_device s.0 s.2) (keeps.documents s.0 s.2)

unsettled : (finished on : Bool) → on ≡ true → (finished && not on) ≡ false
unsettled true on is = ap not is
unsettled false on is = refl

-- some finished jobs are forgotten
pub stay_retained : (jobs : List SpooledRecord) → AllStay jobs (retained jobs)
stay_retained jobs id on =
    let s = there id jobs on in
    let kept : is_kept jobs s.0 ≡ true = ap (λ (b : Bool). not b || nat_lt (later_jobs jobs s.0) FINISHED_JOBS_KEPT) (unsettled (is_finished s.0.job.state) s.0.on_device s.2) in
    stays_from id jobs (retained jobs) s.0 s.0 s.1 (found_kept id (is_kept jobs) jobs s.0 s.1 kept) s.2 refl

-- more jobs come
pub stay_before : (jobs more : List SpooledRecord) → AllStay jobs (jobs ++ more)
stay_before jobs more id on =
    let s = there id jobs on in
    stays_from id jobs (jobs ++ more) s.0 s.0 s.1 (found_before id jobs more s.0 s.1) s.2 refl

-- ---- the change of a job by each call

retired_same : (s : SpooledRecord) → s.on_device ≡ true → retired s ≡ s
retired_same s on = ap (λ (b : Bool). cond b (record s { documents = [] }) s) (unsettled (is_finished s.job.state) s.on_device on)

on_after : (change : JobChange) (on : Bool) → on ≡ true → on_device_after change on ≡ true
on_after Change.Begin on is = refl
on_after _ on is = is

pub changed_on : (change : JobChange) (now : ℕ) → KeepsOn (changed change now)
changed_on change now = record {
  id = changed_id change now;
  on_device = λ s on. (both s on (job_after change now s.job)).0;
  documents = λ s on. (both s on (job_after change now s.job)).1;
}
  where
    both : (s : SpooledRecord) → s.on_device ≡ true → (o : Option JobRecord) → ((option_map_or (λ job. retired (record s { job = job; on_device = on_device_after change s.on_device })) o s).on_device ≡ true) × ((option_map_or (λ job. retired (record s { job = job; on_device = on_device_after change s.on_device })) o s).documents ≡ s.documents)
    both s on None = (on, refl)
    both s on (Some job) =
        let still = on_after change s.on_device on in
        let same = retired_same (record s { job = job; on_device = on_device_after change s.on_device }) still in
        (ap (λ (x : SpooledRecord). x.on_device) same ∙ still, ap (λ (x : SpooledRecord). x.documents) same)

pub expired_on : (now : ℕ) → KeepsOn (expired now)
expired_on now =
    let keeps = changed_on Change.Fail now in
    record {
      id = expired_id now;
      on_device = λ s on. either (λ y. y.on_device ≡ true) (is_overdue now s) (changed Change.Fail now s) s (keeps.on_device s on) on;
      documents = λ s on. either (λ y. y.documents ≡ s.documents) (is_overdue now s) (changed Change.Fail now s) s (keeps.documents s on) refl;
    }

pub marked_on : (paused : List Bool) (stranded : List Stranded) → KeepsOn (marked_by paused stranded)
marked_on paused stranded = record {
  id = marked_id paused stranded;
  on_device = λ s on. either (λ y. y.on_device ≡ true) (is_ready paused s.job) (marked (list_any (λ e. e.job == s.job.id) stranded) s) s on on;
  documents = λ s on. either (λ y. y.documents ≡ s.documents) (is_ready paused s.job) (marked (list_any (λ e. e.job == s.job.id) stranded) s) s refl refl;
}

-- a change that doesn't end the print
pub reported_on : (change : JobChange) (now : ℕ) → ends_print change ≡ false → KeepsOn (reported change now)
reported_on change now goes_on =
    let keeps = changed_on change now in
    record {
      id = reported_id change now;
      on_device = λ s on. ap (λ (b : Bool). (cond b (let_go change now s) (changed change now s)).on_device) goes_on ∙ keeps.on_device s on;
      documents = λ s on. ap (λ (b : Bool). (cond b (let_go change now s) (changed change now s)).documents) goes_on ∙ keeps.documents s on;
    }

-- ---- a device reports a change of its job

either_jobs : (P : List SpooledRecord → Type 0) (b : Bool) (xs ys : List SpooledRecord) → P xs → P ys → P (cond b xs ys)
either_jobs P true xs ys of_xs of_ys = of_xs
either_jobs P false xs ys of_xs of_ys = of_ys

pub others_reported : (one : ℕ) (change : JobChange) (now : ℕ) (jobs : List SpooledRecord) → OthersStay one jobs (jobs_reported one change now jobs)
others_reported one change now jobs =
    let after = with_job one (reported change now) jobs in
    let others : OthersStay one jobs after = others_with one (reported change now) (reported_id change now) jobs in
    either_jobs (λ new. OthersStay one jobs new) (ends_print change) (retained after) after (others_then one jobs after (retained after) others (stay_retained after)) others

pub stay_reported : (one : ℕ) (change : JobChange) (now : ℕ) (jobs : List SpooledRecord) → ends_print change ≡ false → AllStay jobs (jobs_reported one change now jobs)
stay_reported one change now jobs goes_on =
    let after = with_job one (reported change now) jobs in
    let stay : AllStay jobs after = stay_with one (reported change now) (reported_on change now goes_on) jobs in
    either_jobs (λ new. AllStay jobs new) (ends_print change) (retained after) after (stay_then jobs after (retained after) stay (stay_retained after)) stay
