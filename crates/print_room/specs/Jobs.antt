-- The changes of jobs and printers that requests and time make.
use Rattle.std.specs.Prelude.{ℕ, ◌≡◌, ◌+◌, Bool, List, [], ◌∷◌, ◌++◌, map, set, length, Option, None}
use Rattle.std.specs.List.{list_any}
use Rattle.std.specs.Str.{bytes_eq}
use Rattle.job_objects.specs.declared.job_change.JobChange.{JobChange}
use Rattle.spool.specs.declared.refusal.SpoolRefusal.{SpoolRefusal}
use Rattle.octets.specs.Document.{DocumentRecord}
use Rattle.spool.specs.Submission.{Submission, spooled_of}
use Rattle.spool.specs.Spooled.{SpooledRecord, changed, expired}
use Rattle.spool.specs.Jobs.{spooled_at, with_job}
use Rattle.spool.specs.Kept.{retained}
use Rattle.spool.specs.Requester.{RequesterRecord}
use Rattle.spool.specs.Calls.{new_refusal, change_refusal, cancel_refusal, cancel_of, adds, document_refusal, with_document, closed_if}
use Rattle.print_room.specs.State.{State}

-- ---- the requester

-- whether the name is an operator's
abbrev pub is_operator : List ℕ → State → Bool
is_operator name state = list_any (bytes_eq name) state.settings.operators

-- ---- a new job

-- the state with these jobs, at a moment
abbrev pub with_jobs : ℕ → List SpooledRecord → State → State
with_jobs now jobs old = record old { last = now; spool = record old.spool { jobs = jobs } }

-- the state with one more job under the next id; `incoming` indicates whether its documents are still to come
abbrev pub with_job_taken : ℕ → Submission → Bool → State → State
with_job_taken now job incoming old = record old {
  last = now;
  spool = record { jobs = old.spool.jobs ++ spooled_of job old.spool.next incoming ∷ []; next = old.spool.next + 1 };
}

-- a job without a reason for refusal is taken under the next id
pub record Submits (now : ℕ) (old : State) (job : Submission) (incoming : Bool) (id : ℕ) (new : State) : Type 0 where
  pub free : new_refusal old.spool job.documents ≡ None
  pub id_is : id ≡ old.spool.next
  pub state : new ≡ with_job_taken now job incoming old

-- the requester with this name
abbrev pub requester_of : List ℕ → State → RequesterRecord
requester_of name state = record { name = name; is_operator = is_operator name state }

-- why a document of this many octets isn't taken for the job of an id, if there is a cause other than out of memory
abbrev pub sending_refusal : ℕ → List ℕ → ℕ → Bool → State → Option SpoolRefusal
sending_refusal id name octets last state = document_refusal (requester_of name state) octets last (spooled_at id state.spool.jobs)

-- the job of an id takes a document; with the last document it is complete
abbrev pub sending : ℕ → ℕ → DocumentRecord → Bool → State → State
sending now id document last old = with_jobs now (closed_if last id now (with_document (adds (length document.contents) last) id document now old.spool.jobs)) old

-- ---- a change of a job

-- why a change of the job of an id isn't made
abbrev pub asked_refusal : ℕ → List ℕ → JobChange → ℕ → State → Option SpoolRefusal
asked_refusal id name change now state = change_refusal (requester_of name state) change now (spooled_at id state.spool.jobs)

-- the job of an id is changed
abbrev pub changing : ℕ → ℕ → JobChange → State → State
changing now id change old = with_jobs now (with_job id (changed change now) old.spool.jobs) old

-- why a cancel of the job of an id isn't made
abbrev pub canceling_refusal : ℕ → List ℕ → State → Option SpoolRefusal
canceling_refusal id name state = cancel_refusal (requester_of name state) (spooled_at id state.spool.jobs)

-- the cancel by a name: that of the job's owner, or of an operator
abbrev pub cancel_by : ℕ → List ℕ → State → JobChange
cancel_by id name state = cancel_of name (spooled_at id state.spool.jobs)

-- the job of an id is canceled, and the oldest of the finished jobs may be forgotten
abbrev pub canceling : ℕ → ℕ → List ℕ → State → State
canceling now id name old = with_jobs now (retained (with_job id (changed (cancel_by id name old) now) old.spool.jobs)) old

-- the jobs of these ids are canceled, one after the other
abbrev pub canceling_each : ℕ → List ℕ → List ℕ → State → State
canceling_each now name [] old = record old { last = now }
canceling_each now name (id ∷ ids) old = canceling_each now name ids (canceling now id name old)

-- ---- the pause of a printer

-- the printer at a place is paused, or its pause has ended
abbrev pub pausing : ℕ → ℕ → Bool → State → State
pausing now place paused old = record old { last = now; paused = set old.paused place paused }

-- ---- time

-- the jobs whose documents stopped coming are aborted, and the oldest of the finished jobs may be forgotten
abbrev pub expiring : ℕ → State → State
expiring now old = with_jobs now (retained (map (expired now) old.spool.jobs)) old
