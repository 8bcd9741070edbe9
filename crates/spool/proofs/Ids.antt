-- The change of a job by each call leaves its id.
use Rattle.std.proofs.Common.{◌≡◌, ◌==◌, ◌||◌, ℕ, Bool, true, false, cond, List, [], Option, Some, None, refl, IfSome}
use Rattle.std.specs.Prelude.{unwrap_or}
use Rattle.std.specs.List.{list_any}
use Rattle.std.specs.Option.{option_map_or}
use Rattle.base_types.specs.declared.needs.Stranded.{Stranded}
use Rattle.job_objects.specs.declared.job_state.JobState.{JobState}
use Rattle.job_objects.specs.declared.job_state.JobState.TheVariants.{Pending, PendingHeld, Processing, Stopped, Aborted}
use Rattle.job_objects.specs.declared.job_change.JobChange.{JobChange}
use Rattle.job_objects.specs.declared.job_change.JobChange.TheVariants.{Close, Hold, Release, Begin, Stop, Continue, Cancel, Done, Fail}
use Rattle.job_objects.specs.Job.{JobRecord}
use Rattle.job_objects.specs.JobStep.{waiting, moved, ended, changed_from, job_after, ends_print}
use Rattle.spool.specs.Spooled.{SpooledRecord, is_retired, retired, on_device_after, changed, let_go, reported, is_overdue, expired, marked}
use Rattle.spool.specs.Calls.{is_ready, marked_by}

abbrev pub KeepsId : (SpooledRecord → SpooledRecord) → Type 0
KeepsId f = (s : SpooledRecord) → (f s).job.id ≡ s.job.id

either_id : (b : Bool) (x y : JobRecord) (n : ℕ) → x.id ≡ n → y.id ≡ n → (cond b x y).id ≡ n
either_id true x y n of_x of_y = of_x
either_id false x y n of_x of_y = of_y

waiting_id : (job : JobRecord) → (waiting job).id ≡ job.id
waiting_id job = either_id (job.incoming || job.held) (moved PendingHeld job) (record job { state = Pending }) job.id refl refl

chosen : (b : Bool) (x job : JobRecord) → x.id ≡ job.id → IfSome (cond b (Some x) None) (λ after. after.id ≡ job.id)
chosen true x job is = is
chosen false x job is = tt

id_after : (change : JobChange) (state : JobState) (now : ℕ) (job : JobRecord) → IfSome (changed_from change state now job) (λ after. after.id ≡ job.id)
id_after Close PendingHeld now job = chosen job.incoming (waiting (record job { incoming = false })) job (waiting_id (record job { incoming = false }))
id_after Close _ now job = tt
id_after Hold Pending now job = waiting_id (record job { held = true })
id_after Hold PendingHeld now job = waiting_id (record job { held = true })
id_after Hold _ now job = tt
id_after Release Pending now job = waiting_id (record job { held = false })
id_after Release PendingHeld now job = waiting_id (record job { held = false })
id_after Release Processing now job = refl
id_after Release Stopped now job = refl
id_after Release _ now job = tt
id_after Begin Pending now job = refl
id_after Begin _ now job = tt
id_after Stop Processing now job = refl
id_after Stop _ now job = tt
id_after Continue Stopped now job = refl
id_after Continue _ now job = tt
id_after (Cancel by) Pending now job = refl
id_after (Cancel by) PendingHeld now job = refl
id_after (Cancel by) Processing now job = refl
id_after (Cancel by) Stopped now job = refl
id_after (Cancel by) _ now job = tt
id_after Done Processing now job = refl
id_after Done Stopped now job = refl
id_after Done _ now job = tt
id_after Fail PendingHeld now job = chosen job.incoming (ended Aborted now job) job refl
id_after Fail Processing now job = refl
id_after Fail Stopped now job = refl
id_after Fail _ now job = tt

-- a property of two jobs is a property of the job that a test chooses
pub either : (P : SpooledRecord → Type 0) (b : Bool) (x y : SpooledRecord) → P x → P y → P (cond b x y)
either P true x y of_x of_y = of_x
either P false x y of_x of_y = of_y

pub changed_id : (change : JobChange) (now : ℕ) → KeepsId (changed change now)
changed_id change now s = after (job_after change now s.job) (id_after change s.job.state now s.job)
  where
    after : (o : Option JobRecord) → IfSome o (λ job. job.id ≡ s.job.id) → (option_map_or (λ job. retired (record s { job = job; on_device = on_device_after change s.on_device })) o s).job.id ≡ s.job.id
    after None is = refl
    after (Some job) is =
        let x : SpooledRecord = record s { job = job; on_device = on_device_after change s.on_device } in
        either (λ y. y.job.id ≡ s.job.id) (is_retired x) (record x { documents = [] }) x is is

let_go_id : (change : JobChange) (now : ℕ) → KeepsId (let_go change now)
let_go_id change now s =
    either (λ y. y.job.id ≡ s.job.id) s.on_device (record s { job = unwrap_or (job_after change now s.job) s.job; documents = []; on_device = false }) s (after (job_after change now s.job) (id_after change s.job.state now s.job)) refl
  where
    after : (o : Option JobRecord) → IfSome o (λ job. job.id ≡ s.job.id) → (unwrap_or o s.job).id ≡ s.job.id
    after None is = refl
    after (Some job) is = is

pub reported_id : (change : JobChange) (now : ℕ) → KeepsId (reported change now)
reported_id change now s = either (λ y. y.job.id ≡ s.job.id) (ends_print change) (let_go change now s) (changed change now s) (let_go_id change now s) (changed_id change now s)

pub expired_id : (now : ℕ) → KeepsId (expired now)
expired_id now s = either (λ y. y.job.id ≡ s.job.id) (is_overdue now s) (changed Fail now s) s (changed_id Fail now s) refl

pub marked_id : (paused : List Bool) (stranded : List Stranded) → KeepsId (marked_by paused stranded)
marked_id paused stranded s =
    either (λ y. y.job.id ≡ s.job.id) (is_ready paused s.job) (marked (list_any (λ e. e.job == s.job.id) stranded) s) s refl refl
