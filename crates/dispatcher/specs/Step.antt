-- A step: the change that an event makes of the state, and the effects.
use Rattle.std.specs.Prelude.{ℕ, ◌≡◌, max, true, false, [], None, IsErr}
use Rattle.base_types.specs.declared.report.Report.{Report}
use Rattle.events.specs.declared.event.Event.{Event}
use Rattle.events.specs.declared.event.Event.TheVariants as Is
use Rattle.events.specs.declared.effects.Effects.{Effects}
use Rattle.events.specs.declared.effects.Response.TheVariants as responds
use Rattle.dispatcher.specs.Checks.{named_job, named_printer}
use Rattle.dispatcher.specs.PrintJob.{PrintsJob, checked_of}
use Rattle.dispatcher.specs.ValidateJob.{ValidatesJob}
use Rattle.dispatcher.specs.CreateJob.{CreatesJob, created_of}
use Rattle.dispatcher.specs.SendDocument.{SendsDocument, sent_of}
use Rattle.dispatcher.specs.CancelJob.{CancelsJob, canceled_of}
use Rattle.dispatcher.specs.HoldJob.{HoldsJob, ReleasesJob}
use Rattle.dispatcher.specs.PausePrinter.{SetsPaused}
use Rattle.dispatcher.specs.GetPrinterAttributes.{ShowsPrinter}
use Rattle.dispatcher.specs.GetJobAttributes.{ShowsJob}
use Rattle.dispatcher.specs.GetJobs.{ListsJobs, wanted_of}
use Rattle.dispatcher.specs.SubmitFiles.{SubmitsFiles, filed_of}
use Rattle.dispatcher.specs.ListQueue.{ListsQueue}
use Rattle.dispatcher.specs.RemoveJobs.{RemovesJobs, due_cancels}
use Rattle.listings.specs.Queue.{queue_of}
use Rattle.print_room.specs.Report.{Reports}
use Rattle.print_room.specs.State.{State}
use Rattle.print_room.specs.Jobs.{expiring}

-- the effects of a device's report have no response
pub record Reported (now device : ℕ) (report : Report) (old : State) (effects : Effects) (new : State) : Type 0 where
  pub unanswered : effects.response ≡ responds.Nothing
  pub cancels : effects.cancels.items ≡ []
  pub reports : Reports now device report old effects.documents.items new

-- The effects of a tick have no response. The tick aborts the jobs whose documents stopped coming, and may forget the oldest of the finished jobs.
pub record Ticks (now : ℕ) (old : State) (effects : Effects) (new : State) : Type 0 where
  pub unanswered : effects.response ≡ responds.Nothing
  pub cancels : effects.cancels.items ≡ []
  pub documents : effects.documents.items ≡ []
  pub state : new ≡ expiring now old

-- the step of each event, at a moment that isn't before the last one
abbrev pub StepAt : Event → ℕ → State → Effects → State → Type 0
StepAt (Is.PrintJob request) now old effects new = PrintsJob now request old effects new
StepAt (Is.ValidateJob request) now old effects new = ValidatesJob now request old effects new
StepAt (Is.CreateJob request) now old effects new = CreatesJob now request old effects new
StepAt (Is.SendDocument request) now old effects new = SendsDocument now request old effects new
StepAt (Is.CancelJob request) now old effects new = CancelsJob now request old effects new
StepAt (Is.GetJobAttributes request) now old effects new = ShowsJob now request old effects new
StepAt (Is.GetJobs request) now old effects new = ListsJobs now request old effects new
StepAt (Is.GetPrinterAttributes request) now old effects new = ShowsPrinter now request old effects new
StepAt (Is.HoldJob request) now old effects new = HoldsJob now request old effects new
StepAt (Is.ReleaseJob request) now old effects new = ReleasesJob now request old effects new
StepAt (Is.PausePrinter request) now old effects new = SetsPaused now request true old effects new
StepAt (Is.ResumePrinter request) now old effects new = SetsPaused now request false old effects new
StepAt (Is.SubmitFiles request) now old effects new = SubmitsFiles now request old effects new
StepAt (Is.ListQueue request) now old effects new = ListsQueue now request old effects new
StepAt (Is.RemoveJobs request) now old effects new = RemovesJobs now request old effects new
StepAt (Is.Report device report) now old effects new = Reported now device report old effects new
StepAt Is.Tick now old effects new = Ticks now old effects new

abbrev pub Step : State → Event → ℕ → Effects → State → Type 0
Step old event moment effects new = StepAt event (max moment old.last) old effects new

-- the step of the event takes no memory. Memory is taken for a response of more than a status, for a job of files that is taken, for the listing of a queue, and for a cancel of which a device is notified
abbrev pub TakesNoMemoryAt : Event → ℕ → State → Type 0
TakesNoMemoryAt (Is.PrintJob request) now old = IsErr (checked_of request now old)
TakesNoMemoryAt (Is.ValidateJob request) now old = Unit {0}
TakesNoMemoryAt (Is.CreateJob request) now old = IsErr (created_of request now old)
TakesNoMemoryAt (Is.SendDocument request) now old = IsErr (sent_of request old)
TakesNoMemoryAt (Is.CancelJob request) now old = IsErr (canceled_of request old)
TakesNoMemoryAt (Is.GetJobAttributes request) now old = IsErr (named_job request.target old)
TakesNoMemoryAt (Is.GetJobs request) now old = IsErr (wanted_of request old)
TakesNoMemoryAt (Is.GetPrinterAttributes request) now old = IsErr (named_printer request.target old)
TakesNoMemoryAt (Is.HoldJob request) now old = Unit {0}
TakesNoMemoryAt (Is.ReleaseJob request) now old = Unit {0}
TakesNoMemoryAt (Is.PausePrinter request) now old = Unit {0}
TakesNoMemoryAt (Is.ResumePrinter request) now old = Unit {0}
TakesNoMemoryAt (Is.SubmitFiles request) now old = filed_of request now old ≡ None
TakesNoMemoryAt (Is.ListQueue request) now old = queue_of request.queue old ≡ None
TakesNoMemoryAt (Is.RemoveJobs request) now old = due_cancels request old ≡ []
TakesNoMemoryAt (Is.Report device report) now old = Unit {0}
TakesNoMemoryAt Is.Tick now old = Unit {0}

abbrev pub TakesNoMemory : Event → ℕ → State → Type 0
TakesNoMemory event moment old = TakesNoMemoryAt event (max moment old.last) old
