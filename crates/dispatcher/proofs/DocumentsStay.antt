-- A step leaves the documents of jobs that devices have.
use Rattle.std.proofs.Common.{◌≡◌, ℕ, Bool, true, false, List, [], ◌∷◌, length, Option, Some, None, Result, Ok, Err, refl, sym, ap, subst}
use Rattle.std.specs.Prelude.{MatchOption, MatchResult}
use Rattle.text.specs.Steps.{◌>>=◌}
use Rattle.base_types.specs.declared.report.Report.{Report}
use Rattle.job_objects.specs.declared.job_change.JobChange.{JobChange}
use Rattle.job_objects.specs.declared.job_change.JobChange.TheVariants as Change
use Rattle.job_objects.specs.Job.{JobRecord}
use Rattle.octets.specs.Document.{DocumentRecord}
use Rattle.spool.specs.Submission.{Submission}
use Rattle.spool.specs.declared.refusal.SpoolRefusal.{SpoolRefusal}
use Rattle.print_room.specs.State.{State}
use Rattle.print_room.specs.Jobs.{with_job_taken, sending_refusal, sending, changing, canceling, canceling_each, pausing, expiring}
use Rattle.print_room.specs.Report.{Reports}
use Rattle.print_room.specs.DeviceJobs.{AllKeep, KeepsOrEnds}
use Rattle.ipp_codec.specs.Message.{IppAttribute, IppGroup}
use Rattle.listings.specs.Groups.{printer_group, job_group, job_groups}
use Rattle.events.specs.declared.event.Event.{Event}
use Rattle.events.specs.declared.event.Event.TheVariants as Is
use Rattle.events.specs.declared.event.SendDocument.{SendDocument}
use Rattle.events.specs.declared.event.JobRequest.{JobRequest}
use Rattle.events.specs.declared.event.HoldUntil.{HoldUntil}
use Rattle.events.specs.declared.event.HoldUntil.TheVariants.{NoHold, Indefinite, Unsupported}
use Rattle.dispatcher.specs.declared.submission.Accepted.{Accepted}
use Rattle.dispatcher.specs.declared.send_document.Sent.{Sent}
use Rattle.dispatcher.specs.declared.checks.Rejection.{Rejection}
use Rattle.events.specs.declared.effects.Effects.{Effects}
use Rattle.dispatcher.specs.Answers.{Refuses, Shows}
use Rattle.dispatcher.specs.GetJobs.{wanted_of}
use Rattle.dispatcher.specs.Checks.{named_job, named_printer, printer_of_job, checked_format, unrefused}
use Rattle.dispatcher.specs.PrintJob.{TakesJob, checked_of}
use Rattle.dispatcher.specs.ValidateJob.{Validates, validated_of}
use Rattle.dispatcher.specs.CreateJob.{CreatesIt, created_of}
use Rattle.dispatcher.specs.SendDocument.{SendsIt, sent_group, sent_in_format, sent_to_printer, sent_to_job, sent_of}
use Rattle.dispatcher.specs.CancelJob.{CancelsIt, canceled_of}
use Rattle.dispatcher.specs.HoldJob.{ChangesIt, HoldsUntil, changed_of}
use Rattle.dispatcher.specs.PausePrinter.{PausesIt, paused_of}
use Rattle.dispatcher.specs.SubmitFiles.{FilesJob, FilesNothing, filed_of}
use Rattle.dispatcher.specs.ListQueue.{ListsIt, ListsNothing}
use Rattle.dispatcher.specs.RemoveJobs.{RemovesJobs}
use Rattle.events.specs.declared.queue.ListQueue.{ListQueue}
use Rattle.events.specs.declared.queue.RemoveJobs.{RemoveJobs}
use Rattle.listings.specs.Queue.{queue_of}
use Rattle.listings.specs.Removal.{removed_jobs}
use Rattle.dispatcher.specs.Step.{StepAt}
use Rattle.dispatcher.specs.Keeping.{StepKeeps}

-- the promises of the room for each change
pub record RoomKeeps (old : State) : Type 0 where
  pub submits : (now : ℕ) (job : Submission) (incoming : Bool) → AllKeep old (with_job_taken now job incoming old)
  pub sends : (now id : ℕ) (name : List ℕ) (document : DocumentRecord) (last : Bool) → sending_refusal id name (length document.contents) last old ≡ None → AllKeep old (sending now id document last old)
  pub changes : (now id : ℕ) (change : JobChange) → AllKeep old (changing now id change old)
  pub cancels : (now id : ℕ) (name : List ℕ) → AllKeep old (canceling now id name old)
  pub removes : (now : ℕ) (name ids : List ℕ) → AllKeep old (canceling_each now name ids old)
  pub pauses : (now place : ℕ) (paused : Bool) → AllKeep old (pausing now place paused old)
  pub expires : (now : ℕ) → AllKeep old (expiring now old)
  pub reports : (now place : ℕ) (report : Report) (documents : List DocumentRecord) (new : State) → Reports now place report old documents new → KeepsOrEnds place old documents new

-- ---- a document is sent only if no check refuses it

-- the result of two checks is the result of the second check on the value of the first
tail : {A B : Type 0} (first : Result A Rejection) (second : A → Result B Rejection) (made : B) → (first >>= second) ≡ Ok made → (a : A) × (first ≡ Ok a) × (second a ≡ Ok made)
tail (Ok a) second made is = (a, refl, is)
tail (Err refusal) second made is = absurd (cc)

at_last : {A : Type 0} (cause : Option SpoolRefusal) (one made : A) → (unrefused cause >>= (λ _. Ok one)) ≡ Ok made → (cause ≡ None) × (one ≡ made)
at_last None one made is = (refl, cc is)
at_last (Some why) one made is = absurd (cc)

-- the job that a Send-Document names, which takes its document, and the answer about the job
pub record IsSent (request : SendDocument) (old : State) (sent : Sent) : Type 0 where
  pub job : JobRecord
  pub named : named_job request.job.target old ≡ Ok job
  pub free : sending_refusal job.id request.job.user (length request.octets) request.last old ≡ None
  pub id_is : job.id ≡ sent.job
  pub groups_are : sent_group old job request.last ∷ [] ≡ sent.groups

pub is_sent : (request : SendDocument) (old : State) (sent : Sent) → sent_of request old ≡ Ok sent → IsSent request old sent
is_sent request old sent is =
    let job = tail (named_job request.job.target old) (sent_to_job request old) sent is in
    let printer = tail (printer_of_job job.0 old) (sent_to_printer request old job.0) sent job.2 in
    let format = tail (checked_format request.form printer.0.offer) (sent_in_format request old job.0) sent printer.2 in
    let one : Sent = record { job = job.0.id; format = format.0; groups = sent_group old job.0 request.last ∷ [] } in
    let last = at_last (sending_refusal job.0.id request.job.user (length request.octets) request.last old) one sent format.2 in
    record {
      job = job.0;
      named = job.1;
      free = last.0;
      id_is = ap (λ (s : Sent). s.job) last.1;
      groups_are = ap (λ (s : Sent). s.groups) last.1;
    }

sent_free : (request : SendDocument) (old : State) (sent : Sent) → sent_of request old ≡ Ok sent → sending_refusal sent.job request.job.user (length request.octets) request.last old ≡ None
sent_free request old sent is =
    let found = is_sent request old sent is in
    subst (λ (id : ℕ). sending_refusal id request.job.user (length request.octets) request.last old ≡ None) found.id_is found.free

-- ---- each step

module _ (old : State) (room : RoomKeeps old) where
  -- only the last moment changes
  only_later : (now : ℕ) (new : State) → new ≡ record old { last = now } → AllKeep old new
  only_later now new is = subst (λ (s : State). AllKeep old s) (sym is) (λ place id has. (has, refl))

  becomes : (new after : State) → new ≡ after → AllKeep old after → AllKeep old new
  becomes new after is keeps = subst (λ (s : State). AllKeep old s) (sym is) keeps

  refusing : (now : ℕ) (effects : Effects) (new : State) (refusal : Rejection) → Refuses now old refusal effects new → AllKeep old new × (effects.documents.items ≡ [])
  refusing now effects new refusal refuses = (only_later now new refuses.state, refuses.replies.documents)

  printed : (now : ℕ) (effects : Effects) (new : State) (r : Result Accepted Rejection) → MatchResult r (λ accepted. TakesJob now old accepted effects new) (λ refusal. Refuses now old refusal effects new) → AllKeep old new × (effects.documents.items ≡ [])
  printed now effects new (Ok accepted) is = (becomes new (with_job_taken now accepted.job false old) is.state (room.submits now accepted.job false), is.replies.documents)
  printed now effects new (Err refusal) refuses = refusing now effects new refusal refuses

  created : (now : ℕ) (effects : Effects) (new : State) (r : Result Accepted Rejection) → MatchResult r (λ accepted. CreatesIt now old accepted effects new) (λ refusal. Refuses now old refusal effects new) → AllKeep old new × (effects.documents.items ≡ [])
  created now effects new (Ok accepted) is = (becomes new (with_job_taken now accepted.job true old) is.state (room.submits now accepted.job true), is.replies.documents)
  created now effects new (Err refusal) refuses = refusing now effects new refusal refuses

  validated : (now : ℕ) (effects : Effects) (new : State) (r : Result (List IppAttribute) Rejection) → MatchResult r (λ unsupported. Validates now old unsupported effects new) (λ refusal. Refuses now old refusal effects new) → AllKeep old new × (effects.documents.items ≡ [])
  validated now effects new (Ok unsupported) is = (only_later now new is.state, is.replies.documents)
  validated now effects new (Err refusal) refuses = refusing now effects new refusal refuses

  sent : (now : ℕ) (request : SendDocument) (effects : Effects) (new : State) (r : Result Sent Rejection) → sent_of request old ≡ r → MatchResult r (λ sent. SendsIt now old request sent effects new) (λ refusal. Refuses now old refusal effects new) → AllKeep old new × (effects.documents.items ≡ [])
  sent now request effects new (Ok s) found is =
      let document : DocumentRecord = record { format = s.format; contents = request.octets } in
      (becomes new (sending now s.job document request.last old) is.state (room.sends now s.job request.job.user document request.last (sent_free request old s found)), is.replies.documents)
  sent now request effects new (Err refusal) found refuses = refusing now effects new refusal refuses

  canceled : (now : ℕ) (name : List ℕ) (effects : Effects) (new : State) (r : Result ℕ Rejection) → MatchResult r (λ id. CancelsIt now old name id effects new) (λ refusal. Refuses now old refusal effects new) → AllKeep old new × (effects.documents.items ≡ [])
  canceled now name effects new (Ok id) is = (becomes new (canceling now id name old) is.state (room.cancels now id name), is.documents)
  canceled now name effects new (Err refusal) refuses = refusing now effects new refusal refuses

  changed : (now : ℕ) (change : JobChange) (unsupported : List IppAttribute) (effects : Effects) (new : State) (r : Result ℕ Rejection) → MatchResult r (λ id. ChangesIt now old change unsupported id effects new) (λ refusal. Refuses now old refusal effects new) → AllKeep old new × (effects.documents.items ≡ [])
  changed now change unsupported effects new (Ok id) is = (becomes new (changing now id change old) is.state (room.changes now id change), is.replies.documents)
  changed now change unsupported effects new (Err refusal) refuses = refusing now effects new refusal refuses

  held : (now : ℕ) (request : JobRequest) (until : HoldUntil) (effects : Effects) (new : State) → HoldsUntil now request until old effects new → AllKeep old new × (effects.documents.items ≡ [])
  held now request NoHold effects new step = changed now Change.Release [] effects new (changed_of request Change.Release now old) step
  held now request Indefinite effects new step = changed now Change.Hold [] effects new (changed_of request Change.Hold now old) step
  held now request (Unsupported attribute) effects new step = changed now Change.Hold attribute effects new (changed_of request Change.Hold now old) step

  paused : (now : ℕ) (pauses : Bool) (effects : Effects) (new : State) (r : Result ℕ Rejection) → MatchResult r (λ place. PausesIt now old pauses place effects new) (λ refusal. Refuses now old refusal effects new) → AllKeep old new × (effects.documents.items ≡ [])
  paused now pauses effects new (Ok place) is = (becomes new (pausing now place pauses old) is.state (room.pauses now place pauses), is.replies.documents)
  paused now pauses effects new (Err refusal) refuses = refusing now effects new refusal refuses

  shown : {A : Type 0} (now : ℕ) (effects : Effects) (new : State) (groups : A → List IppGroup) (r : Result A Rejection) → MatchResult r (λ a. Shows now old (groups a) effects new) (λ refusal. Refuses now old refusal effects new) → AllKeep old new × (effects.documents.items ≡ [])
  shown now effects new groups (Ok a) is = (only_later now new is.state, is.replies.documents)
  shown now effects new groups (Err refusal) refuses = refusing now effects new refusal refuses

  filed : (now : ℕ) (effects : Effects) (new : State) (o : Option Submission) → MatchOption o (FilesNothing now old effects new) (λ job. FilesJob now old job effects new) → AllKeep old new × (effects.documents.items ≡ [])
  filed now effects new None is = (only_later now new is.state, is.answers.documents)
  filed now effects new (Some job) is = (becomes new (with_job_taken now job false old) is.state (room.submits now job false), is.answers.documents)

  queue_listed : (now : ℕ) (request : ListQueue) (effects : Effects) (new : State) (o : Option ℕ) → MatchOption o (ListsNothing now old effects new) (λ place. ListsIt now old request place effects new) → AllKeep old new × (effects.documents.items ≡ [])
  queue_listed now request effects new None is = (only_later now new is.state, is.answers.documents)
  queue_listed now request effects new (Some place) is = (only_later now new is.state, is.documents)

  removed : (now : ℕ) (request : RemoveJobs) (effects : Effects) (new : State) → RemovesJobs now request old effects new → AllKeep old new × (effects.documents.items ≡ [])
  removed now request effects new is = (becomes new (canceling_each now request.agent (removed_jobs request old) old) is.state (room.removes now request.agent (removed_jobs request old)), is.documents)

  pub step_keeps : (event : Event) (now : ℕ) (effects : Effects) (new : State) → StepAt event now old effects new → StepKeeps event old effects.documents.items new
  step_keeps (Is.PrintJob request) now effects new step = printed now effects new (checked_of request now old) step
  step_keeps (Is.ValidateJob request) now effects new step = validated now effects new (validated_of request old) step
  step_keeps (Is.CreateJob request) now effects new step = created now effects new (created_of request now old) step
  step_keeps (Is.SendDocument request) now effects new step = sent now request effects new (sent_of request old) refl step
  step_keeps (Is.CancelJob request) now effects new step = canceled now request.user effects new (canceled_of request old) step
  step_keeps (Is.GetJobAttributes request) now effects new step = shown now effects new (λ job. job_group now request.requested old job ∷ []) (named_job request.target old) step
  step_keeps (Is.GetJobs request) now effects new step = shown now effects new (λ wanted. job_groups wanted now request.requested old) (wanted_of request old) step
  step_keeps (Is.GetPrinterAttributes request) now effects new step = shown now effects new (λ printer. printer_group printer.id printer.offer now request.requested old ∷ []) (named_printer request.target old) step
  step_keeps (Is.HoldJob request) now effects new step = held now request.job request.until effects new step
  step_keeps (Is.ReleaseJob request) now effects new step = changed now Change.Release [] effects new (changed_of request Change.Release now old) step
  step_keeps (Is.PausePrinter request) now effects new step = paused now true effects new (paused_of request old) step
  step_keeps (Is.ResumePrinter request) now effects new step = paused now false effects new (paused_of request old) step
  step_keeps (Is.SubmitFiles request) now effects new step = filed now effects new (filed_of request now old) step
  step_keeps (Is.ListQueue request) now effects new step = queue_listed now request effects new (queue_of request.queue old) step
  step_keeps (Is.RemoveJobs request) now effects new step = removed now request effects new step
  step_keeps (Is.Report device report) now effects new step = room.reports now device report effects.documents.items new step.reports
  step_keeps Is.Tick now effects new step = (becomes new (expiring now old) step.state (room.expires now), step.documents)
