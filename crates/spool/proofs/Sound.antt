-- The change of a job by each call leaves it sound.
use Rattle.std.proofs.Common.{◌≡◌, ◌==◌, ◌||◌, ◌∙◌, ℕ, zero, suc, Bool, true, false, cond, eqb, List, [], ◌∷◌, ◌++◌, Option, Some, None, refl, sym, ap, subst, remove, slice_get, All, IfSome, true≢false}
use Rattle.std.specs.Prelude.{nat_eq, unwrap_or}
use Rattle.std.specs.List.{list_any}
use Rattle.std.specs.Map.{lookup, set_value}
use Rattle.std.specs.Option.{option_map_or}
use Rattle.std.proofs.lemmas.List.Elements.{All-cons, All-head, All-tail, All-push}
use Rattle.indexmap.specs.IndexMap.{insert_entry, set_value_at}
use Rattle.base_types.specs.declared.needs.Stranded.{Stranded}
use Rattle.job_objects.specs.declared.job_state.JobState.{JobState}
use Rattle.job_objects.specs.declared.job_state.JobState.TheVariants.{Pending, PendingHeld, Processing, Stopped, Canceled, Aborted, Completed}
use Rattle.job_objects.specs.declared.job_change.JobChange.{JobChange}
use Rattle.job_objects.specs.declared.job_change.JobChange.TheVariants.{Close, Hold, Release, Begin, Stop, Continue, Cancel, Done, Fail}
use Rattle.job_objects.specs.Job.{JobRecord}
use Rattle.job_objects.specs.JobStep.{waiting, moved, ended, changed_from, job_after}
use Rattle.octets.specs.Document.{DocumentRecord}
use Rattle.spool.specs.Submission.{Submission, spooled_of}
use Rattle.spool.specs.Spooled.{SpooledRecord, is_retired, retired, on_device_after, changed, let_go, reported, attached, is_overdue, expired, marked}
use Rattle.spool.specs.Jobs.{Keyed, jobs_of, spooled_at, with_job, map_at}
use Rattle.spool.specs.Calls.{is_ready, marked_by}
use Rattle.spool.specs.Sound.{FitsState, IsSound}
use Rattle.spool.proofs.Ids.{either}
use Rattle.spool.proofs.Entries.{set_job, jobs_at, jobs_remove, new_entry, jobs_push}

-- a job that is sound is so after the change too
abbrev pub KeepsSound : (SpooledRecord → SpooledRecord) → Type 0
KeepsSound f = (s : SpooledRecord) → IsSound s → IsSound (f s)

-- ---- the table of states

-- a job that no device has, told whether it comes in and is held
waiting_fits : (incoming held on : Bool) (job : JobRecord) → job.incoming ≡ incoming → job.held ≡ held → on ≡ false
    → FitsState (cond (incoming || held) (moved PendingHeld job) (record job { state = Pending })).state (cond (incoming || held) (moved PendingHeld job) (record job { state = Pending })).incoming (cond (incoming || held) (moved PendingHeld job) (record job { state = Pending })).held on
waiting_fits true held on job comes is free = (ap (λ (b : Bool). b || job.held) comes, free)
waiting_fits false true on job comes is free = (ap (λ (b : Bool). b || job.held) comes ∙ is, free)
waiting_fits false false on job comes is free = (comes, is, free)

waits : (on : Bool) (job : JobRecord) → on ≡ false → FitsState (waiting job).state (waiting job).incoming (waiting job).held on
waits on job free = waiting_fits job.incoming job.held on job refl refl free

-- a job after a change fits the answer to whether a device has the job
abbrev Fits : JobRecord → Bool → Type 0
Fits job on = FitsState job.state job.incoming job.held on

chosen : (b on : Bool) (job : JobRecord) → Fits job on → IfSome (cond b (Some job) None) (λ after. Fits after on)
chosen true on job fits = fits
chosen false on job fits = tt

fits_after : (change : JobChange) (state : JobState) (now : ℕ) (job : JobRecord) (on : Bool) → state ≡ job.state → FitsState state job.incoming job.held on → IfSome (changed_from change state now job) (λ after. Fits after (on_device_after change on))
fits_after Close PendingHeld now job on is fits = chosen job.incoming on (waiting (record job { incoming = false })) (waits on (record job { incoming = false }) fits.1)
fits_after Close _ now job on is fits = tt
fits_after Hold Pending now job on is fits = waits on (record job { held = true }) fits.2
fits_after Hold PendingHeld now job on is fits = waits on (record job { held = true }) fits.1
fits_after Hold _ now job on is fits = tt
fits_after Release Pending now job on is fits = waits on (record job { held = false }) fits.2
fits_after Release PendingHeld now job on is fits = waits on (record job { held = false }) fits.1
fits_after Release Processing now job on is fits = subst (λ (state : JobState). FitsState state job.incoming job.held on) is fits
fits_after Release Stopped now job on is fits = subst (λ (state : JobState). FitsState state job.incoming job.held on) is fits
fits_after Release _ now job on is fits = tt
fits_after Begin Pending now job on is fits = (fits.0, fits.1, refl)
fits_after Begin _ now job on is fits = tt
fits_after Stop Processing now job on is fits = fits
fits_after Stop _ now job on is fits = tt
fits_after Continue Stopped now job on is fits = fits
fits_after Continue _ now job on is fits = tt
fits_after (Cancel by) Pending now job on is fits = refl
fits_after (Cancel by) PendingHeld now job on is fits = refl
fits_after (Cancel by) Processing now job on is fits = refl
fits_after (Cancel by) Stopped now job on is fits = refl
fits_after (Cancel by) _ now job on is fits = tt
fits_after Done Processing now job on is fits = refl
fits_after Done Stopped now job on is fits = refl
fits_after Done _ now job on is fits = tt
fits_after Fail PendingHeld now job on is fits = chosen job.incoming on (ended Aborted now job) refl
fits_after Fail Processing now job on is fits = refl
fits_after Fail Stopped now job on is fits = refl
fits_after Fail _ now job on is fits = tt

-- ---- the change of a job by each call

retired_sound : (s : SpooledRecord) → IsSound s → IsSound (retired s)
retired_sound s sound = either IsSound (is_retired s) (record s { documents = [] }) s sound sound

pub changed_sound : (change : JobChange) (now : ℕ) → KeepsSound (changed change now)
changed_sound change now s sound = after (job_after change now s.job) (fits_after change s.job.state now s.job s.on_device refl sound)
  where
    after : (o : Option JobRecord) → IfSome o (λ job. Fits job (on_device_after change s.on_device)) → IsSound (option_map_or (λ job. retired (record s { job = job; on_device = on_device_after change s.on_device })) o s)
    after None fits = sound
    after (Some job) fits = retired_sound (record s { job = job; on_device = on_device_after change s.on_device }) fits

-- a job that ends, or was finished before, isn't on a device any more
done_fits : (state : JobState) (now : ℕ) (job : JobRecord) (on : Bool) → state ≡ job.state → FitsState state job.incoming job.held on → Fits (unwrap_or (changed_from Done state now job) job) false
done_fits Pending now job on is fits = subst (λ (state : JobState). FitsState state job.incoming job.held false) is (fits.0, fits.1, refl)
done_fits PendingHeld now job on is fits = subst (λ (state : JobState). FitsState state job.incoming job.held false) is (fits.0, refl)
done_fits Processing now job on is fits = refl
done_fits Stopped now job on is fits = refl
done_fits Canceled now job on is fits = subst (λ (state : JobState). FitsState state job.incoming job.held false) is fits
done_fits Aborted now job on is fits = subst (λ (state : JobState). FitsState state job.incoming job.held false) is fits
done_fits Completed now job on is fits = subst (λ (state : JobState). FitsState state job.incoming job.held false) is fits

failed : (b : Bool) (now : ℕ) (job : JobRecord) → Fits job false → Fits (unwrap_or (cond b (Some (ended Aborted now job)) None) job) false
failed true now job fits = refl
failed false now job fits = fits

fail_fits : (state : JobState) (now : ℕ) (job : JobRecord) (on : Bool) → state ≡ job.state → FitsState state job.incoming job.held on → Fits (unwrap_or (changed_from Fail state now job) job) false
fail_fits Pending now job on is fits = subst (λ (state : JobState). FitsState state job.incoming job.held false) is (fits.0, fits.1, refl)
fail_fits PendingHeld now job on is fits = failed job.incoming now job (subst (λ (state : JobState). FitsState state job.incoming job.held false) is (fits.0, refl))
fail_fits Processing now job on is fits = refl
fail_fits Stopped now job on is fits = refl
fail_fits Canceled now job on is fits = subst (λ (state : JobState). FitsState state job.incoming job.held false) is fits
fail_fits Aborted now job on is fits = subst (λ (state : JobState). FitsState state job.incoming job.held false) is fits
fail_fits Completed now job on is fits = subst (λ (state : JobState). FitsState state job.incoming job.held false) is fits

let_go_sound : (change : JobChange) (now : ℕ) (s : SpooledRecord) → Fits (unwrap_or (job_after change now s.job) s.job) false → IsSound s → IsSound (let_go change now s)
let_go_sound change now s fits sound = either IsSound s.on_device (record s { job = unwrap_or (job_after change now s.job) s.job; documents = []; on_device = false }) s fits sound

pub reported_sound : (change : JobChange) (now : ℕ) → KeepsSound (reported change now)
reported_sound Done now s sound = let_go_sound Done now s (done_fits s.job.state now s.job s.on_device refl sound) sound
reported_sound Fail now s sound = let_go_sound Fail now s (fail_fits s.job.state now s.job s.on_device refl sound) sound
reported_sound change now s sound = changed_sound change now s sound

pub same_sound : KeepsSound (λ s. s)
same_sound s sound = sound

pub attached_sound : (document : DocumentRecord) (now : ℕ) → KeepsSound (attached document now)
attached_sound document now s sound = sound

pub expired_sound : (now : ℕ) → KeepsSound (expired now)
expired_sound now s sound = either IsSound (is_overdue now s) (changed Fail now s) s (changed_sound Fail now s sound) sound

pub marked_sound : (paused : List Bool) (stranded : List Stranded) → KeepsSound (marked_by paused stranded)
marked_sound paused stranded s sound =
    either IsSound (is_ready paused s.job) (marked (list_any (λ e. e.job == s.job.id) stranded) s) s sound sound

new_fits : (incoming held : Bool) → FitsState (cond (incoming || held) PendingHeld Pending) incoming held false
new_fits true held = (refl, refl)
new_fits false true = (refl, refl)
new_fits false false = (refl, refl, refl)

pub new_sound : (new : Submission) (id : ℕ) (incoming : Bool) → IsSound (spooled_of new id incoming)
new_sound new id incoming = new_fits incoming new.held

-- ---- lists of jobs

all_if : (b : Bool) (xs ys : List SpooledRecord) → All IsSound xs → All IsSound ys → All IsSound (cond b xs ys)
all_if true xs ys of_xs of_ys = of_xs
all_if false xs ys of_xs of_ys = of_ys

sound_with : (id : ℕ) (f : SpooledRecord → SpooledRecord) → KeepsSound f → (jobs : List SpooledRecord) → All IsSound jobs → All IsSound (with_job id f jobs)
sound_with id f keeps [] sound = sound
sound_with id f keeps (s ∷ jobs) sound =
    let first = All-head IsSound s jobs sound in
    let rest = All-tail IsSound s jobs sound in
    all_if (eqb id s.job.id) (f s ∷ jobs) (s ∷ with_job id f jobs) (All-cons IsSound (f s) jobs (keeps s first) rest) (All-cons IsSound s (with_job id f jobs) first (sound_with id f keeps jobs rest))

sound_map_at : (place : ℕ) (f : SpooledRecord → SpooledRecord) → KeepsSound f → (jobs : List SpooledRecord) → All IsSound jobs → All IsSound (map_at place f jobs)
sound_map_at place f keeps [] sound = sound
sound_map_at zero f keeps (s ∷ jobs) sound = All-cons IsSound (f s) jobs (keeps s (All-head IsSound s jobs sound)) (All-tail IsSound s jobs sound)
sound_map_at (suc place) f keeps (s ∷ jobs) sound = All-cons IsSound s (map_at place f jobs) (All-head IsSound s jobs sound) (sound_map_at place f keeps jobs (All-tail IsSound s jobs sound))

sound_remove : (place : ℕ) (jobs : List SpooledRecord) → All IsSound jobs → All IsSound (remove jobs place)
sound_remove zero [] sound = sound
sound_remove (suc place) [] sound = sound
sound_remove zero (s ∷ jobs) sound = All-tail IsSound s jobs sound
sound_remove (suc place) (s ∷ jobs) sound = All-cons IsSound s (remove jobs place) (All-head IsSound s jobs sound) (sound_remove place jobs (All-tail IsSound s jobs sound))

-- ---- the entries of the map

abbrev pub AreSound : List (ℕ × SpooledRecord) → Type 0
AreSound es = All IsSound (jobs_of es)

-- a value written at a key
pub sound_set : (f : SpooledRecord → SpooledRecord) → KeepsSound f → (key next : ℕ) (es : List (ℕ × SpooledRecord)) (s w : SpooledRecord) → Keyed es 0 next → lookup (nat_eq key) es ≡ Some s → w ≡ f s → AreSound es → AreSound (set_value (nat_eq key) es w)
sound_set f keeps key next es s w keyed is written sound =
    rw (written, set_job key 0 next es s f keyed is) (sound_with key f keeps (jobs_of es) sound)

-- a value written at a place
pub sound_at : (f : SpooledRecord → SpooledRecord) → KeepsSound f → (place : ℕ) (es : List (ℕ × SpooledRecord)) (s w : SpooledRecord) → slice_get (jobs_of es) place ≡ Some s → w ≡ f s → AreSound es → AreSound (set_value_at es place w)
sound_at f keeps place es s w is written sound =
    rw (written, jobs_at place es s f is) (sound_map_at place f keeps (jobs_of es) sound)

pub sound_removed : (place : ℕ) (es : List (ℕ × SpooledRecord)) → AreSound es → AreSound (remove es place)
sound_removed place es sound = rw (jobs_remove place es) (sound_remove place (jobs_of es) sound)

-- a new entry goes last
pub sound_new : (number next : ℕ) (es fs : List (ℕ × SpooledRecord)) (s : SpooledRecord) → Keyed es 0 next → number ≡ next → fs ≡ insert_entry nat_eq es number s → IsSound s → AreSound es → AreSound fs
sound_new number next es fs s keyed is entries new sound =
    let before : Keyed es 0 number = subst (λ (n : ℕ). Keyed es 0 n) (sym is) keyed in
    let jobs : jobs_of fs ≡ jobs_of es ++ s ∷ [] = ap jobs_of (entries ∙ new_entry 0 number es s before) ∙ jobs_push es number s in
    rw jobs (All-push IsSound (jobs_of es) s sound new)

-- the job of an id is sound
pub sound_found : (id : ℕ) (jobs : List SpooledRecord) → All IsSound jobs → IfSome (spooled_at id jobs) IsSound
sound_found id [] sound = tt
sound_found id (s ∷ jobs) sound = step (eqb id s.job.id) (sound_found id jobs (All-tail IsSound s jobs sound))
  where
    step : (b : Bool) → IfSome (spooled_at id jobs) IsSound → IfSome (cond b (Some s) (spooled_at id jobs)) IsSound
    step true rest = All-head IsSound s jobs sound
    step false rest = rest

-- a job whose documents are still to come isn't on a device
off_device : (state : JobState) (held on : Bool) → FitsState state true held on → on ≡ false
off_device Pending held on fits = absurd (true≢false fits.0)
off_device PendingHeld held on fits = fits.1
off_device Processing held on fits = absurd (true≢false fits.0)
off_device Stopped held on fits = absurd (true≢false fits.0)
off_device Canceled held on fits = absurd (true≢false fits)
off_device Aborted held on fits = absurd (true≢false fits)
off_device Completed held on fits = absurd (true≢false fits)

pub incoming_off : (s : SpooledRecord) → IsSound s → s.job.incoming ≡ true → s.on_device ≡ false
incoming_off s sound comes = off_device s.job.state s.job.held s.on_device (subst (λ (b : Bool). FitsState s.job.state b s.job.held s.on_device) comes sound)
