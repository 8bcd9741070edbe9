-- Events with the same content. A list in a request or a report has a place in memory too, so two such events needn't be equal.
use Rattle.std.specs.Prelude.{◌≡◌}
use Rattle.base_types.specs.Report.{report_of}
use Rattle.events.specs.declared.event.Event.{Event}
use Rattle.events.specs.declared.event.Event.TheVariants as Is
use Rattle.events.specs.declared.event.SubmitFiles.{SubmitFiles}
use Rattle.events.specs.declared.queue.ListQueue.{ListQueue}
use Rattle.events.specs.declared.queue.RemoveJobs.{RemoveJobs}

-- two jobs of files with the same content
pub record SameFiles (one other : SubmitFiles) : Type 0 where
  pub queue : one.queue ≡ other.queue
  pub owner : one.owner ≡ other.owner
  pub name : one.name ≡ other.name
  pub documents : one.documents.items ≡ other.documents.items

-- two requests to list a queue with the same content
pub record SameList (one other : ListQueue) : Type 0 where
  pub queue : one.queue ≡ other.queue
  pub form : one.form ≡ other.form
  pub operands : one.operands.items ≡ other.operands.items

-- two requests to remove jobs with the same content
pub record SameRemoval (one other : RemoveJobs) : Type 0 where
  pub queue : one.queue ≡ other.queue
  pub agent : one.agent ≡ other.agent
  pub operands : one.operands.items ≡ other.operands.items

abbrev pub SameEvent : Event → Event → Type 0
SameEvent (Is.SubmitFiles one) (Is.SubmitFiles other) = SameFiles one other
SameEvent (Is.ListQueue one) (Is.ListQueue other) = SameList one other
SameEvent (Is.RemoveJobs one) (Is.RemoveJobs other) = SameRemoval one other
SameEvent (Is.Report device report) (Is.Report other reported) = (device ≡ other) × (report_of report ≡ report_of reported)
SameEvent one other = one ≡ other
