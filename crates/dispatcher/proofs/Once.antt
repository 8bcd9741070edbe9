-- An event leads to one state and one value of effects, and so do two events with the same content.
use Rattle.std.proofs.Common.{◌≡◌, ℕ, true, false, List, [], Option, None, Some, Result, Ok, Err, refl, sym, subst, ◌∙◌, max, slice_get, ap}
use Rattle.std.specs.Prelude.{MatchOption, MatchResult}
use Rattle.std.specs.Global.{Vec}
use Rattle.ipp_codec.specs.Message.{IppAttribute, IppGroup}
use Rattle.base_types.specs.Device.{Device}
use Rattle.base_types.specs.declared.report.Report.{Report}
use Rattle.base_types.specs.declared.report.Report.TheVariants.{Media}
use Rattle.base_types.specs.Report.{report_of}
use Rattle.octets.specs.Document.{DocumentRecord}
use Rattle.job_objects.specs.declared.job_change.JobChange.{JobChange}
use Rattle.job_objects.specs.declared.job_change.JobChange.TheVariants as Change
use Rattle.events.specs.declared.status.Status.{Status}
use Rattle.events.specs.declared.event.Event.{Event}
use Rattle.events.specs.declared.event.Event.TheVariants as Is
use Rattle.events.specs.declared.event.HoldUntil.{HoldUntil}
use Rattle.events.specs.declared.event.HoldUntil.TheVariants.{NoHold, Indefinite, Unsupported}
use Rattle.events.specs.declared.event.JobRequest.{JobRequest}
use Rattle.events.specs.declared.event.SubmitFiles.{SubmitFiles}
use Rattle.events.specs.declared.queue.ListQueue.{ListQueue}
use Rattle.events.specs.declared.queue.QueueListing.{QueueListing}
use Rattle.events.specs.declared.queue.RemoveJobs.{RemoveJobs}
use Rattle.events.specs.declared.effects.Response.{Response}
use Rattle.events.specs.declared.effects.Response.TheVariants.{Ipp, Lpd, Nothing}
use Rattle.events.specs.declared.effects.LpdResponse.{LpdResponse}
use Rattle.events.specs.declared.effects.LpdResponse.TheVariants.{Taken, Queue, NoQueue}
use Rattle.events.specs.declared.effects.Effects.{Effects}
use Rattle.events.specs.Event.{is_query}
use Rattle.events.specs.Effects.{IsResponse, Replies, AnswersLpd}
use Rattle.events.specs.SameEvent.{SameFiles, SameList, SameRemoval, SameEvent}
use Rattle.events.proofs.Sames.{by_report, OfEach, by_same}
use Rattle.listings.specs.Queue.{queue_of}
use Rattle.listings.specs.QueueListing.{ShowsQueue, entries_of}
use Rattle.listings.specs.Removal.{removed_jobs}
use Rattle.print_room.specs.Activity.{job_on}
use Rattle.print_room.specs.Jobs.{canceling_each}
use Rattle.print_room.specs.State.{State, holding, with_device}
use Rattle.print_room.specs.Report.{documents_out, jobs_after, state_after, Reports}
use Rattle.dispatcher.specs.declared.checks.Rejection.{Rejection}
use Rattle.dispatcher.specs.Answers.{Refuses, Shows}
use Rattle.dispatcher.specs.Checks.{named_job, named_printer}
use Rattle.dispatcher.specs.PrintJob.{checked_of, TakesJob}
use Rattle.dispatcher.specs.ValidateJob.{validated_of, Validates}
use Rattle.dispatcher.specs.CreateJob.{created_of, CreatesIt}
use Rattle.dispatcher.specs.SendDocument.{sent_of, SendsIt}
use Rattle.dispatcher.specs.CancelJob.{canceled_of, CancelsIt}
use Rattle.dispatcher.specs.HoldJob.{changed_of, ChangesIt, ChangesJob, HoldsUntil}
use Rattle.dispatcher.specs.PausePrinter.{paused_of, PausesIt}
use Rattle.dispatcher.specs.GetJobs.{wanted_of}
use Rattle.dispatcher.specs.SubmitFiles.{filed_of, FilesJob, FilesNothing, SubmitsFiles}
use Rattle.dispatcher.specs.ListQueue.{IsListed, ListsIt, ListsNothing, ListsQueue}
use Rattle.dispatcher.specs.RemoveJobs.{cancels_of_each, due_cancels, RemovesJobs}
use Rattle.dispatcher.specs.Step.{Step, StepAt, TakesNoMemory, TakesNoMemoryAt}
use Rattle.dispatcher.specs.OneStep.{SameLpdAnswer, SameAnswer, SameReply, SameEnd}

-- ---- answers

same_answers : (status : Status) (unsupported : List IppAttribute) (groups : List IppGroup) (one other : Response) → IsResponse status unsupported groups one → IsResponse status unsupported groups other → SameAnswer one other
same_answers status unsupported groups (Ipp one) (Ipp other) a b = record { status = a.0 ∙ sym b.0; unsupported = a.1 ∙ sym b.1; groups = a.2 ∙ sym b.2 }
same_answers status unsupported groups (Ipp one) (Lpd other) a b = absurd b
same_answers status unsupported groups (Ipp one) Nothing a b = absurd b
same_answers status unsupported groups (Lpd one) other a b = absurd a
same_answers status unsupported groups Nothing other a b = absurd a

same_replies : (status : Status) (unsupported : List IppAttribute) (groups : List IppGroup) (one other : Effects) → Replies status unsupported groups one → Replies status unsupported groups other → SameReply one other
same_replies status unsupported groups one other a b = record {
  response = same_answers status unsupported groups one.response other.response a.response b.response;
  cancels = a.cancels ∙ sym b.cancels;
  documents = a.documents ∙ sym b.documents;
}

-- equal answers have the same content

same_lpd_self : (one : LpdResponse) → SameLpdAnswer one one
same_lpd_self (Taken taken) = refl
same_lpd_self (Queue listing) = record { form = refl; name = refl; state = refl; jobs = refl }
same_lpd_self NoQueue = tt

same_self : (one : Response) → SameAnswer one one
same_self (Ipp one) = record { status = refl; unsupported = refl; groups = refl }
same_self (Lpd one) = same_lpd_self one
same_self Nothing = tt

same_as : (second one other : Response) → one ≡ second → other ≡ second → SameAnswer one other
same_as second one other a b =
    let both : one ≡ other = a ∙ sym b in
    subst (λ x. SameAnswer one x) both (same_self one)

lpd_replies : (second : LpdResponse) (one other : Effects) → AnswersLpd second one → AnswersLpd second other → SameReply one other
lpd_replies second one other a b = record { response = same_as (Lpd second) one.response other.response a.response b.response; cancels = a.cancels ∙ sym b.cancels; documents = a.documents ∙ sym b.documents }

-- ---- judgments

-- a judged request leads to one end, if each result of the judgment does
judged : {T : Type 0} (r : Result T Rejection) (Comes : T → Effects → State → Type 0) (now : ℕ) (old : State) (one : Effects) (new : State) (other : Effects) (new' : State)
    → MatchResult r (λ x. Comes x one new) (λ refusal. Refuses now old refusal one new)
    → MatchResult r (λ x. Comes x other new') (λ refusal. Refuses now old refusal other new')
    → ((x : T) → Comes x one new → Comes x other new' → SameEnd one new other new') → SameEnd one new other new'
judged (Ok x) Comes now old one new other new' a b each = each x a b
judged (Err refusal) Comes now old one new other new' a b each =
    record { state = a.state ∙ sym b.state; effects_are = same_replies refusal.status refusal.unsupported [] one other a.replies b.replies }

shown : (now : ℕ) (old : State) (groups : List IppGroup) (one : Effects) (new : State) (other : Effects) (new' : State) → Shows now old groups one new → Shows now old groups other new' → SameEnd one new other new'
shown now old groups one new other new' a b = record { state = a.state ∙ sym b.state; effects_are = same_replies _ [] groups one other a.replies b.replies }

changed : (now : ℕ) (request : JobRequest) (change : JobChange) (unsupported : List IppAttribute) (old : State) (one : Effects) (new : State) (other : Effects) (new' : State)
    → ChangesJob now request change unsupported old one new → ChangesJob now request change unsupported old other new' → SameEnd one new other new'
changed now request change unsupported old one new other new' a b =
    judged (changed_of request change now old) (ChangesIt now old change unsupported) now old one new other new' a b
    (λ id x y. record { state = x.state ∙ sym y.state; effects_are = same_replies _ unsupported [] one other x.replies y.replies })

held : (now : ℕ) (request : JobRequest) (until : HoldUntil) (old : State) (one : Effects) (new : State) (other : Effects) (new' : State)
    → HoldsUntil now request until old one new → HoldsUntil now request until old other new' → SameEnd one new other new'
held now request NoHold old one new other new' a b = changed now request Change.Release [] old one new other new' a b
held now request Indefinite old one new other new' a b = changed now request Change.Hold [] old one new other new' a b
held now request (Unsupported attribute) old one new other new' a b = changed now request Change.Hold attribute old one new other new' a b

filed : (now : ℕ) (old : State) (r : Option _) (one : Effects) (new : State) (other : Effects) (new' : State)
    → MatchOption r (FilesNothing now old one new) (λ job. FilesJob now old job one new) → MatchOption r (FilesNothing now old other new') (λ job. FilesJob now old job other new') → SameEnd one new other new'
filed now old None one new other new' a b = record { state = a.state ∙ sym b.state; effects_are = lpd_replies (Taken false) one other a.answers b.answers }
filed now old (Some job) one new other new' a b = record { state = a.state ∙ sym b.state; effects_are = lpd_replies (Taken true) one other a.answers b.answers }

listed : (now place : ℕ) (request : ListQueue) (old : State) (one other : Response) → IsListed now place request old one → IsListed now place request old other → SameAnswer one other
listed now place request old (Lpd (Queue one)) (Lpd (Queue other)) a b = record { form = a.form ∙ sym b.form; name = a.name ∙ sym b.name; state = a.state_is ∙ sym b.state_is; jobs = a.jobs ∙ sym b.jobs }
listed now place request old (Lpd (Queue one)) (Lpd (Taken other)) a b = absurd b
listed now place request old (Lpd (Queue one)) (Lpd NoQueue) a b = absurd b
listed now place request old (Lpd (Queue one)) (Ipp other) a b = absurd b
listed now place request old (Lpd (Queue one)) Nothing a b = absurd b
listed now place request old (Lpd (Taken one)) other a b = absurd a
listed now place request old (Lpd NoQueue) other a b = absurd a
listed now place request old (Ipp one) other a b = absurd a
listed now place request old Nothing other a b = absurd a

listed_by : (now : ℕ) (request : ListQueue) (old : State) (r : Option ℕ) (one : Effects) (new : State) (other : Effects) (new' : State)
    → MatchOption r (ListsNothing now old one new) (λ place. ListsIt now old request place one new) → MatchOption r (ListsNothing now old other new') (λ place. ListsIt now old request place other new') → SameEnd one new other new'
listed_by now request old None one new other new' a b = record { state = a.state ∙ sym b.state; effects_are = lpd_replies NoQueue one other a.answers b.answers }
listed_by now request old (Some place) one new other new' a b = record {
  state = a.state ∙ sym b.state;
  effects_are = record { response = listed now place request old one.response other.response a.response b.response; cancels = a.cancels ∙ sym b.cancels; documents = a.documents ∙ sym b.documents };
}

-- a report leaves one state, and hands out one list of documents
record SameReport (documents : List DocumentRecord) (new : State) (documents' : List DocumentRecord) (new' : State) : Type 0 where
  pub state : new ≡ new'
  pub documents_are : documents ≡ documents'

reported : (now place : ℕ) (report : Report) (old : State) (documents : List DocumentRecord) (new : State) (documents' : List DocumentRecord) (new' : State)
    → Reports now place report old documents new → Reports now place report old documents' new' → SameReport documents new documents' new'
reported now place report old documents new documents' new' a b = match_at (slice_get old.devices place) _ _ _ _ _ _ _ _ a b
  where
    match_at : {X : Type 0} (r : Option X) (n : State) (ds : List DocumentRecord) (of_state : X → State) (of_documents : X → List DocumentRecord) (documents : List DocumentRecord) (new : State) (documents' : List DocumentRecord) (new' : State)
        → MatchOption r ((new ≡ n) × (documents ≡ ds)) (λ x. (new ≡ of_state x) × (documents ≡ of_documents x))
        → MatchOption r ((new' ≡ n) × (documents' ≡ ds)) (λ x. (new' ≡ of_state x) × (documents' ≡ of_documents x)) → SameReport documents new documents' new'
    match_at None n ds of_state of_documents documents new documents' new' a b = record { state = a.0 ∙ sym b.0; documents_are = a.1 ∙ sym b.1 }
    match_at (Some x) n ds of_state of_documents documents new documents' new' a b = record { state = a.0 ∙ sym b.0; documents_are = a.1 ∙ sym b.1 }

-- ---- each event

at_once : (event : Event) (now : ℕ) (old : State) (one : Effects) (new : State) (other : Effects) (new' : State) → StepAt event now old one new → StepAt event now old other new' → SameEnd one new other new'
at_once (Is.PrintJob request) now old one new other new' a b =
    judged (checked_of request now old) (TakesJob now old) now old one new other new' a b
    (λ job x y. record { state = x.state ∙ sym y.state; effects_are = same_replies _ _ _ one other x.replies y.replies })
at_once (Is.ValidateJob request) now old one new other new' a b =
    judged (validated_of request old) (Validates now old) now old one new other new' a b
    (λ u x y. record { state = x.state ∙ sym y.state; effects_are = same_replies _ _ _ one other x.replies y.replies })
at_once (Is.CreateJob request) now old one new other new' a b =
    judged (created_of request now old) (CreatesIt now old) now old one new other new' a b
    (λ job x y. record { state = x.state ∙ sym y.state; effects_are = same_replies _ _ _ one other x.replies y.replies })
at_once (Is.SendDocument request) now old one new other new' a b =
    judged (sent_of request old) (SendsIt now old request) now old one new other new' a b
    (λ sent x y. record { state = x.state ∙ sym y.state; effects_are = same_replies _ _ _ one other x.replies y.replies })
at_once (Is.CancelJob request) now old one new other new' a b =
    judged (canceled_of request old) (CancelsIt now old request.user) now old one new other new' a b
    (λ id x y. record { state = x.state ∙ sym y.state; effects_are = record { response = same_answers _ [] [] one.response other.response x.response y.response; cancels = x.cancels ∙ sym y.cancels; documents = x.documents ∙ sym y.documents } })
at_once (Is.GetJobAttributes request) now old one new other new' a b =
    judged (named_job request.target old) (λ job. Shows now old _) now old one new other new' a b (λ job x y. shown now old _ one new other new' x y)
at_once (Is.GetJobs request) now old one new other new' a b =
    judged (wanted_of request old) (λ wanted. Shows now old _) now old one new other new' a b (λ wanted x y. shown now old _ one new other new' x y)
at_once (Is.GetPrinterAttributes request) now old one new other new' a b =
    judged (named_printer request.target old) (λ printer. Shows now old _) now old one new other new' a b (λ printer x y. shown now old _ one new other new' x y)
at_once (Is.HoldJob request) now old one new other new' a b = held now request.job request.until old one new other new' a b
at_once (Is.ReleaseJob request) now old one new other new' a b = changed now request Change.Release [] old one new other new' a b
at_once (Is.PausePrinter request) now old one new other new' a b =
    judged (paused_of request old) (PausesIt now old true) now old one new other new' a b
    (λ place x y. record { state = x.state ∙ sym y.state; effects_are = same_replies _ [] [] one other x.replies y.replies })
at_once (Is.ResumePrinter request) now old one new other new' a b =
    judged (paused_of request old) (PausesIt now old false) now old one new other new' a b
    (λ place x y. record { state = x.state ∙ sym y.state; effects_are = same_replies _ [] [] one other x.replies y.replies })
at_once (Is.SubmitFiles request) now old one new other new' a b = filed now old (filed_of request now old) one new other new' a b
at_once (Is.ListQueue request) now old one new other new' a b = listed_by now request old (queue_of request.queue old) one new other new' a b
at_once (Is.RemoveJobs request) now old one new other new' a b = record {
  state = a.state ∙ sym b.state;
  effects_are = record { response = same_as Nothing one.response other.response a.unanswered b.unanswered; cancels = a.cancels ∙ sym b.cancels; documents = a.documents ∙ sym b.documents };
}
at_once (Is.Report device report) now old one new other new' a b =
    let same = reported now device report old one.documents.items new other.documents.items new' a.reports b.reports in
    record { state = same.state; effects_are = record { response = same_as Nothing one.response other.response a.unanswered b.unanswered; cancels = a.cancels ∙ sym b.cancels; documents = same.documents_are } }
at_once Is.Tick now old one new other new' a b = record {
  state = a.state ∙ sym b.state;
  effects_are = record { response = same_as Nothing one.response other.response a.unanswered b.unanswered; cancels = a.cancels ∙ sym b.cancels; documents = a.documents ∙ sym b.documents };
}

-- ---- two events with the same content

-- a job of files
filed_same : (one other : SubmitFiles) → SameFiles one other → (now : ℕ) (old : State) → filed_of one now old ≡ filed_of other now old
filed_same one other same now old = rw (same.queue, same.owner, same.name, same.documents) refl

files_as : (one other : SubmitFiles) → SameFiles one other → (now : ℕ) (old : State) (effects : Effects) (new : State) → SubmitsFiles now other old effects new → SubmitsFiles now one old effects new
files_as one other same now old effects new b =
    subst (λ r. MatchOption r (FilesNothing now old effects new) (λ job. FilesJob now old job effects new)) (sym (filed_same one other same now old)) b

-- a queue to list
shows_as : (one other : ListQueue) → SameList one other → (now place : ℕ) (old : State) (listing : QueueListing) → ShowsQueue now place other old listing → ShowsQueue now place one old listing
shows_as one other same now place old listing b = record {
  form = b.form ∙ sym same.form;
  name = b.name ∙ sym same.queue;
  state_is = b.state_is;
  jobs = b.jobs ∙ ap (λ (xs : List (List ℕ)). entries_of now place xs old) (sym same.operands);
}

listed_as : (one other : ListQueue) → SameList one other → (now place : ℕ) (old : State) (answer : Response) → IsListed now place other old answer → IsListed now place one old answer
listed_as one other same now place old (Lpd (Queue listing)) b = shows_as one other same now place old listing b
listed_as one other same now place old (Lpd (Taken taken)) b = absurd b
listed_as one other same now place old (Lpd NoQueue) b = absurd b
listed_as one other same now place old (Ipp answer) b = absurd b
listed_as one other same now place old Nothing b = absurd b

lists_at : (one other : ListQueue) → SameList one other → (now : ℕ) (old : State) (r : Option ℕ) (effects : Effects) (new : State)
    → MatchOption r (ListsNothing now old effects new) (λ place. ListsIt now old other place effects new) → MatchOption r (ListsNothing now old effects new) (λ place. ListsIt now old one place effects new)
lists_at one other same now old None effects new b = b
lists_at one other same now old (Some place) effects new b = record { response = listed_as one other same now place old effects.response b.response; cancels = b.cancels; documents = b.documents; state = b.state }

lists_as : (one other : ListQueue) → SameList one other → (now : ℕ) (old : State) (effects : Effects) (new : State) → ListsQueue now other old effects new → ListsQueue now one old effects new
lists_as one other same now old effects new b =
    subst (λ (queue : List ℕ). MatchOption (queue_of queue old) (ListsNothing now old effects new) (λ place. ListsIt now old one place effects new)) (sym same.queue)
    (lists_at one other same now old (queue_of other.queue old) effects new b)

-- jobs to remove
removed_same : (one other : RemoveJobs) → SameRemoval one other → (old : State) → removed_jobs one old ≡ removed_jobs other old
removed_same one other same old = rw (same.queue, same.agent, same.operands) refl

notified_same : (one other : RemoveJobs) → SameRemoval one other → (old : State) → due_cancels one old ≡ due_cancels other old
notified_same one other same old = ap (λ (ids : List ℕ). cancels_of_each ids old) (removed_same one other same old)

removes_as : (one other : RemoveJobs) → SameRemoval one other → (now : ℕ) (old : State) (effects : Effects) (new : State) → RemovesJobs now other old effects new → RemovesJobs now one old effects new
removes_as one other same now old effects new b = record {
  unanswered = b.unanswered;
  cancels = b.cancels ∙ sym (notified_same one other same old);
  documents = b.documents;
  state = b.state ∙ ap (λ (agent : List ℕ). canceling_each now agent (removed_jobs other old) old) (sym same.agent) ∙ ap (λ (ids : List ℕ). canceling_each now one.agent ids old) (sym (removed_same one other same old));
}

-- a report
abbrev ReportsAs : ℕ → ℕ → State → Report → Report → Type 0
ReportsAs now place old one other = (documents : List DocumentRecord) (new : State) → Reports now place other old documents new → Reports now place one old documents new

media_as : (now place : ℕ) (old : State) (one other : Vec (List ℕ)) → one.items ≡ other.items → ReportsAs now place old (Media one) (Media other)
media_as now place old one other same documents new b = at_device (slice_get old.devices place) b
  where
    at_device : (r : Option Device)
        → MatchOption r ((new ≡ record old { last = now }) × (documents ≡ [])) (λ device. (new ≡ state_after now place (Media other) device old) × (documents ≡ documents_out (job_on device.activity) None old.spool.jobs))
        → MatchOption r ((new ≡ record old { last = now }) × (documents ≡ [])) (λ device. (new ≡ state_after now place (Media one) device old) × (documents ≡ documents_out (job_on device.activity) None old.spool.jobs))
    at_device None b = b
    at_device (Some device) b = (b.0 ∙ held_same device, b.1)
      where
        held_same : (device : Device) → state_after now place (Media other) device old ≡ state_after now place (Media one) device old
        held_same device = ap (λ (held : List (List ℕ)). record old { last = now; devices = with_device place (holding held) old.devices; spool = record old.spool { jobs = jobs_after now (job_on device.activity) None old.spool.jobs } }) (sym same)

reports_as : (now place : ℕ) (old : State) (one other : Report) → report_of one ≡ report_of other → ReportsAs now place old one other
reports_as now place old one other same = by_report (ReportsAs now place old) (λ report documents new b. b) (media_as now place old) one other same

-- ---- all events with the same content

abbrev EndsAs : Event → Event → Type 0
EndsAs one other = (now : ℕ) (old : State) (effects : Effects) (new : State) (second : Effects) (after : State) → StepAt one now old effects new → StepAt other now old second after → SameEnd effects new second after

ends_as : (one other : Event) → ((now : ℕ) (old : State) (second : Effects) (after : State) → StepAt other now old second after → StepAt one now old second after) → EndsAs one other
ends_as one other same now old effects new second after a b = at_once one now old effects new second after a (same now old second after b)

each_end : OfEach EndsAs
each_end = record {
  equal = λ event. ends_as event event (λ now old second after b. b);
  files = λ one other same. ends_as (Is.SubmitFiles one) (Is.SubmitFiles other) (files_as one other same);
  lists = λ one other same. ends_as (Is.ListQueue one) (Is.ListQueue other) (lists_as one other same);
  removes = λ one other same. ends_as (Is.RemoveJobs one) (Is.RemoveJobs other) (removes_as one other same);
  reports = λ device one other same. ends_as (Is.Report device one) (Is.Report device other)
      (λ now old second after b. record { unanswered = b.unanswered; cancels = b.cancels; reports = reports_as now device old one other same second.documents.items after b.reports });
}

pub same_end : (old : State) (one other : Event) (moment : ℕ) (effects : Effects) (new : State) (second : Effects) (after : State) → SameEvent one other → Step old one moment effects new → Step old other moment second after → SameEnd effects new second after
same_end old one other moment effects new second after same = by_same EndsAs each_end one other same (max moment old.last) old effects new second after

-- queries, and events that are acted on without memory

pub same_query : (one other : Event) → SameEvent one other → is_query one ≡ is_query other
same_query one other same =
    by_same (λ one other. is_query one ≡ is_query other)
    (record { equal = λ event. refl; files = λ one other same. refl; lists = λ one other same. refl; removes = λ one other same. refl; reports = λ device one other same. refl })
    one other same

abbrev NeedsAs : Event → Event → Type 0
NeedsAs one other = (now : ℕ) (old : State) → TakesNoMemoryAt one now old → TakesNoMemoryAt other now old

each_need : OfEach NeedsAs
each_need = record {
  equal = λ event now old none. none;
  files = λ one other same now old none. sym (filed_same one other same now old) ∙ none;
  lists = λ one other same now old none. ap (λ (queue : List ℕ). queue_of queue old) (sym same.queue) ∙ none;
  removes = λ one other same now old none. sym (notified_same one other same old) ∙ none;
  reports = λ device one other same now old none. tt;
}

pub same_needs : (one other : Event) (moment : ℕ) (old : State) → SameEvent one other → TakesNoMemory one moment old → TakesNoMemory other moment old
same_needs one other moment old same = by_same NeedsAs each_need one other same (max moment old.last) old
