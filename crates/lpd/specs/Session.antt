-- An LPD session (RFC 1179, sections 5 and 6), and the change that each item makes of it.
use Rattle.std.specs.Prelude.{ℕ, not, Bool, true, false, List, Option, Some, None, Result, Ok, Err, slice_get}
use Rattle.std.specs.Option.{option_and_then}
use Rattle.lpd.specs.declared.item.FileHead.{FileHead}
use Rattle.lpd.specs.declared.item.FileKind.{FileKind}
use Rattle.lpd.specs.declared.item.FileKind.TheVariants as Kind
use Rattle.lpd.specs.declared.control.ControlFault.{ControlFault}
use Rattle.lpd.specs.Control.{ControlRecord, control_in}
use Rattle.octets.specs.Document.{DocumentRecord}
use Rattle.lpd.specs.Pending.{PendingRecord, JobFileRecord, no_files, with_file, with_control, is_too_much, documents_of, without}

-- the files that are received for a queue, and the file that was announced, if it hasn't come
pub record SessionState : Type 0 where
  pub queue : List ℕ
  pub pending : PendingRecord
  pub coming : Option FileHead

-- the command to receive jobs was taken
abbrev pub opened : List ℕ → SessionState
opened queue = record { queue = queue; pending = no_files; coming = None }

-- the client aborts: all pending files are dropped
abbrev pub aborted : SessionState → SessionState
aborted session = opened session.queue

-- whether an announced file is admitted: it exceeds no limit
abbrev pub admits : FileHead → SessionState → Bool
admits head session = not (is_too_much head.kind head.name head.length session.pending)

abbrev pub announced : FileHead → SessionState → SessionState
announced head session = record session { coming = Some head }

-- the session without an announced file
abbrev pub unannounced : SessionState → SessionState
unannounced session = record session { coming = None }

-- ---- keeping a file

-- the pending files with a control file, if that describes a job
abbrev pub control_kept : List ℕ → PendingRecord → Result ControlRecord ControlFault → PendingRecord
control_kept name pending (Ok control) = record pending { controls = with_control (record { name = name; control = control }) pending.controls }
control_kept name pending (Err fault) = pending

abbrev pub file_kept : FileKind → List ℕ → List ℕ → PendingRecord → PendingRecord
file_kept Kind.Control name contents pending = control_kept name pending (control_in contents)
file_kept Kind.Data name contents pending = record pending { files = with_file (record { name = name; contents = contents }) pending.files }

abbrev pub is_valid_control : Result ControlRecord ControlFault → Bool
is_valid_control (Ok control) = true
is_valid_control (Err fault) = false

abbrev pub is_kept : FileKind → List ℕ → Bool
is_kept Kind.Control contents = is_valid_control (control_in contents)
is_kept Kind.Data contents = true

-- whether the announced file is kept
abbrev pub keeps_of : Option FileHead → List ℕ → Bool
keeps_of None contents = false
keeps_of (Some head) contents = is_kept head.kind contents

abbrev pub keeps : List ℕ → SessionState → Bool
keeps contents session = keeps_of session.coming contents

abbrev pub kept_of : Option FileHead → List ℕ → PendingRecord → PendingRecord
kept_of None contents pending = pending
kept_of (Some head) contents pending = file_kept head.kind head.name contents pending

abbrev pub kept : List ℕ → SessionState → SessionState
kept contents session = record session { pending = kept_of session.coming contents session.pending; coming = None }

-- ---- a job is complete

-- a job of files: its queue, its owner, its name, and a document for each print line
pub record SentRecord : Type 0 where
  pub queue : List ℕ
  pub owner : List ℕ
  pub name : List ℕ
  pub documents : List DocumentRecord

abbrev pub sent_by : SessionState → JobFileRecord → SentRecord
sent_by session control = record { queue = session.queue; owner = control.control.owner; name = control.control.name; documents = documents_of control session.pending.files }

-- the job of the control file at a place
abbrev pub sent_at : ℕ → SessionState → Option SentRecord
sent_at place session = option_and_then (λ control. Some (sent_by session control)) (slice_get session.pending.controls place)

-- the session without the files of a job
abbrev pub without_job : ℕ → SessionState → SessionState
without_job place session = record session { pending = without place session.pending }
