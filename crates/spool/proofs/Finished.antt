-- No change of a job makes a finished one unfinished.
use Rattle.std.proofs.Common.{◌≡◌, ◌==◌, ℕ, Bool, true, false, List, [], Option, None, refl, sym, ◌∙◌, ap, true≢false}
use Rattle.std.specs.Prelude.{unwrap_or}
use Rattle.std.specs.List.{list_any}
use Rattle.std.specs.Option.{option_map_or}
use Rattle.base_types.specs.declared.needs.Stranded.{Stranded}
use Rattle.job_objects.specs.declared.job_state.JobState.{JobState}
use Rattle.job_objects.specs.declared.job_state.JobState.TheVariants.{Pending, PendingHeld, Processing, Stopped, Canceled, Aborted, Completed}
use Rattle.job_objects.specs.declared.job_change.JobChange.{JobChange}
use Rattle.job_objects.specs.declared.job_change.JobChange.TheVariants.{Close, Fail}
use Rattle.job_objects.specs.JobState.{is_finished}
use Rattle.job_objects.specs.Job.{JobRecord}
use Rattle.job_objects.specs.JobStep.{changed_from, job_after, ends_print}
use Rattle.octets.specs.Document.{DocumentRecord}
use Rattle.spool.specs.Spooled.{SpooledRecord, retired, on_device_after, changed, let_go, reported, attached, is_overdue, expired, marked}
use Rattle.spool.specs.Calls.{is_ready, marked_by}
use Rattle.spool.proofs.Ids.{either}

abbrev IsFinished : SpooledRecord → Type 0
IsFinished spooled = is_finished spooled.job.state ≡ true

-- each finished job is finished after the change too
abbrev pub KeepsFinished : (SpooledRecord → SpooledRecord) → Type 0
KeepsFinished f = (s : SpooledRecord) → IsFinished s → IsFinished (f s)

-- ---- no step leads from a finished state

from_canceled : (change : JobChange) (now : ℕ) (job : JobRecord) → changed_from change Canceled now job ≡ None
from_canceled Close now job = refl
from_canceled _ now job = refl

from_aborted : (change : JobChange) (now : ℕ) (job : JobRecord) → changed_from change Aborted now job ≡ None
from_aborted Close now job = refl
from_aborted _ now job = refl

from_completed : (change : JobChange) (now : ℕ) (job : JobRecord) → changed_from change Completed now job ≡ None
from_completed Close now job = refl
from_completed _ now job = refl

from_finished : (change : JobChange) (state : JobState) (now : ℕ) (job : JobRecord) → is_finished state ≡ true → changed_from change state now job ≡ None
from_finished change Canceled now job is = from_canceled change now job
from_finished change Aborted now job is = from_aborted change now job
from_finished change Completed now job is = from_completed change now job
from_finished change Pending now job is = absurd (true≢false (sym is))
from_finished change PendingHeld now job is = absurd (true≢false (sym is))
from_finished change Processing now job is = absurd (true≢false (sym is))
from_finished change Stopped now job is = absurd (true≢false (sym is))

no_step : (change : JobChange) (now : ℕ) (s : SpooledRecord) → IsFinished s → job_after change now s.job ≡ None
no_step change now s is = from_finished change s.job.state now s.job is

-- ---- the change of a job by each call

pub same_keeps : KeepsFinished (λ s. s)
same_keeps s is = is

pub changed_keeps : (change : JobChange) (now : ℕ) → KeepsFinished (changed change now)
changed_keeps change now s is =
    ap (λ (o : Option JobRecord). is_finished (option_map_or (λ job. retired (record s { job = job; on_device = on_device_after change s.on_device })) o s).job.state) (no_step change now s is) ∙ is

let_go_keeps : (change : JobChange) (now : ℕ) → KeepsFinished (let_go change now)
let_go_keeps change now s is =
    let after = record s { job = unwrap_or (job_after change now s.job) s.job; documents = []; on_device = false } in
    let still : IsFinished after = ap (λ (o : Option JobRecord). is_finished (unwrap_or o s.job).state) (no_step change now s is) ∙ is in
    either IsFinished s.on_device after s still is

pub reported_keeps : (change : JobChange) (now : ℕ) → KeepsFinished (reported change now)
reported_keeps change now s is = either IsFinished (ends_print change) (let_go change now s) (changed change now s) (let_go_keeps change now s is) (changed_keeps change now s is)

pub attached_keeps : (document : DocumentRecord) (now : ℕ) → KeepsFinished (attached document now)
attached_keeps document now s is = is

pub expired_keeps : (now : ℕ) → KeepsFinished (expired now)
expired_keeps now s is = either IsFinished (is_overdue now s) (changed Fail now s) s (changed_keeps Fail now s is) is

pub marked_keeps : (paused : List Bool) (stranded : List Stranded) → KeepsFinished (marked_by paused stranded)
marked_keeps paused stranded s is =
    either IsFinished (is_ready paused s.job) (marked (list_any (λ e. e.job == s.job.id) stranded) s) s is is
