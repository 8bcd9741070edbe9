-- The change that each call makes of the list of jobs, and the causes of its refusal.
use Rattle.std.specs.Prelude.{ℕ, ◌≡◌, ◌+◌, ◌||◌, ◌&&◌, not, ◌==◌, nat_lt, nat_le, Bool, true, false, if◌then◌else◌, List, [], ◌∷◌, ◌++◌, length, count_by, is_some, Option, Some, None, slice_get}
use Rattle.std.specs.List.{list_any}
use Rattle.std.specs.Option.{option_map_or}
use Rattle.base_types.specs.declared.limits.TheConstants.Limits.{UNFINISHED_JOBS, LAST_JOB_ID, JOB_OCTETS, JOB_DOCUMENTS}
use Rattle.base_types.specs.declared.needs.Stranded.{Stranded}
use Rattle.job_objects.specs.declared.job.Canceler.TheVariants.{Operator}
use Rattle.job_objects.specs.declared.job_change.JobChange.{JobChange}
use Rattle.job_objects.specs.declared.job_change.JobChange.TheVariants as Change
use Rattle.job_objects.specs.JobState.{is_finished, is_pending}
use Rattle.job_objects.specs.Job.{JobRecord}
use Rattle.job_objects.specs.JobStep.{job_after}
use Rattle.spool.specs.declared.refusal.SpoolRefusal.{SpoolRefusal}
use Rattle.spool.specs.declared.refusal.SpoolRefusal.TheVariants as Why
use Rattle.octets.specs.Document.{DocumentRecord, octets_of}
use Rattle.spool.specs.Requester.{RequesterRecord, may_change, canceler_of}
use Rattle.spool.specs.Spooled.{SpooledRecord, changed, attached, marked}
use Rattle.spool.specs.Submission.{Submission, spooled_of}
use Rattle.spool.specs.Jobs.{SpoolRecord, with_job}

-- ---- a new job

abbrev pub is_unfinished : SpooledRecord → Bool
is_unfinished spooled = not (is_finished spooled.job.state)

abbrev pub unfinished_jobs : List SpooledRecord → ℕ
unfinished_jobs jobs = count_by is_unfinished jobs

-- The spool takes no further job: too many are unfinished, or the last id is used.
abbrev pub is_full : SpoolRecord → Bool
is_full spool = nat_le UNFINISHED_JOBS (unfinished_jobs spool.jobs) || nat_lt LAST_JOB_ID spool.next

-- why a job with these documents isn't taken, if there is a cause other than out of memory
abbrev pub new_refusal : SpoolRecord → List DocumentRecord → Option SpoolRefusal
new_refusal spool documents =
    if nat_lt JOB_DOCUMENTS (length documents) || nat_lt JOB_OCTETS (octets_of documents) then Some Why.TooLarge
    else if is_full spool then Some Why.Busy
    else None

-- a refusal by the cause, or by out of memory if there is no cause
abbrev pub IsRefusal : Option SpoolRefusal → SpoolRefusal → Type 0
IsRefusal cause Why.OutOfMemory = cause ≡ None
IsRefusal cause refusal = cause ≡ Some refusal

-- the job is taken under the next id; `incoming` indicates whether its documents are still to come
pub record Takes (old : SpoolRecord) (new : Submission) (incoming : Bool) (id : ℕ) (spool : SpoolRecord) : Type 0 where
  pub free : new_refusal old new.documents ≡ None
  pub id_is : id ≡ old.next
  pub spool_is : spool ≡ record { jobs = old.jobs ++ spooled_of new id incoming ∷ []; next = id + 1 }

-- ---- a change by a requester

-- why a requester may not change a job, without regard to its state
abbrev pub access_refusal : RequesterRecord → Option SpooledRecord → Option SpoolRefusal
access_refusal requester None = Some Why.NotFound
access_refusal requester (Some spooled) = if may_change requester spooled.job then None else Some Why.NotAuthorized

-- whether the state of a job allows a change
abbrev pub allows : JobChange → ℕ → Option SpooledRecord → Bool
allows change now found = option_map_or (λ s. is_some (job_after change now s.job)) found false

-- the first cause, or the second where there is no first
abbrev pub or_else : Option SpoolRefusal → Option SpoolRefusal → Option SpoolRefusal
or_else (Some cause) later = Some cause
or_else None later = later

-- why a change by a requester isn't made
abbrev pub change_refusal : RequesterRecord → JobChange → ℕ → Option SpooledRecord → Option SpoolRefusal
change_refusal requester change now found =
    or_else (access_refusal requester found) (if allows change now found then None else Some Why.NotPossible)

-- why a requester can't cancel a job: they may not change it, or it is finished
abbrev pub cancel_refusal : RequesterRecord → Option SpooledRecord → Option SpoolRefusal
cancel_refusal requester found =
    or_else (access_refusal requester found) (if option_map_or (λ s. is_finished s.job.state) found false then Some Why.NotPossible else None)

-- the cancel by a name: that of the job's owner, or of an operator
abbrev pub cancel_of : List ℕ → Option SpooledRecord → JobChange
cancel_of name found = Change.Cancel (option_map_or (λ s. canceler_of name s.job) found Operator)

-- ---- a further document

-- whether a document of this many octets is added: an empty last document isn't
abbrev pub adds : ℕ → Bool → Bool
adds octets last = not last || nat_lt 0 octets

-- whether one more document with this many octets exceeds a limit of the job
abbrev pub is_too_large : ℕ → JobRecord → Bool
is_too_large octets job = nat_le JOB_DOCUMENTS job.documents || nat_lt JOB_OCTETS (job.octets + octets)

-- why a job doesn't take a document of this many octets; `added` indicates whether the document is added
abbrev pub taking_refusal : ℕ → Bool → Option SpooledRecord → Option SpoolRefusal
taking_refusal octets added found =
    option_map_or (λ s. if not s.job.incoming then Some Why.NotPossible
    else if added && is_too_large octets s.job then Some Why.TooLarge
    else None) found None

-- why a document of this many octets by a requester isn't taken, if there is a cause other than out of memory
abbrev pub document_refusal : RequesterRecord → ℕ → Bool → Option SpooledRecord → Option SpoolRefusal
document_refusal requester octets last found =
    or_else (access_refusal requester found) (taking_refusal octets (adds octets last) found)

-- the jobs with the document, if it is added
abbrev pub with_document : Bool → ℕ → DocumentRecord → ℕ → List SpooledRecord → List SpooledRecord
with_document true id document now jobs = with_job id (attached document now) jobs
with_document false id document now jobs = jobs

-- the jobs, where the job of an id is complete if the document was the last
abbrev pub closed_if : Bool → ℕ → ℕ → List SpooledRecord → List SpooledRecord
closed_if true id now jobs = with_job id (changed Change.Close now) jobs
closed_if false id now jobs = jobs

-- ---- planning

-- whether the printer at a place is paused
abbrev pub paused_at : List Bool → ℕ → Bool
paused_at paused place = option_map_or (λ p. p) (slice_get paused place) false

-- Whether a job is ready: it is pending, and its printer isn't paused.
abbrev pub is_ready : List Bool → JobRecord → Bool
is_ready paused job = is_pending job.state && not (paused_at paused job.needs.printer)

-- a ready job is marked as stranded if it has an entry, and as not stranded if it has none; other jobs are unchanged
abbrev pub marked_by : List Bool → List Stranded → SpooledRecord → SpooledRecord
marked_by paused stranded spooled =
    if is_ready paused spooled.job then marked (list_any (λ e. e.job == spooled.job.id) stranded) spooled else spooled
