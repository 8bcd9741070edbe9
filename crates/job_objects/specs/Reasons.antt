-- The reasons of a job's state, and their keywords (RFC 8011, section 5.3.8).
use Rattle.std.specs.Prelude.{ℕ, ◌||◌, Bool, true, false, if◌then◌else◌, List, Option, Some, None, codes}
use Rattle.job_objects.specs.declared.job_state.JobState.{JobState}
use Rattle.job_objects.specs.declared.job_state.JobState.TheVariants.{Pending, PendingHeld, Processing, Stopped, Canceled, Aborted, Completed}
use Rattle.job_objects.specs.declared.job.Canceler.{Canceler}
use Rattle.job_objects.specs.declared.job.Canceler.TheVariants.{Owner}
use Rattle.job_objects.specs.declared.reason.Reason.{Reason}
use Rattle.job_objects.specs.declared.reason.Reason.TheVariants.{Nothing, PrinterStopped, ResourcesAreNotReady, JobIncoming, JobHoldUntilSpecified, JobPrinting, JobCanceledByUser, JobCanceledByOperator, AbortedBySystem, JobCompletedSuccessfully}
use Rattle.job_objects.specs.declared.reason.JobReasons.{JobReasons}
use Rattle.job_objects.specs.Job.{JobRecord}

abbrev pub keyword_of : Reason → List ℕ
keyword_of Nothing = codes "none"
keyword_of PrinterStopped = codes "printer-stopped"
keyword_of ResourcesAreNotReady = codes "resources-are-not-ready"
keyword_of JobIncoming = codes "job-incoming"
keyword_of JobHoldUntilSpecified = codes "job-hold-until-specified"
keyword_of JobPrinting = codes "job-printing"
keyword_of JobCanceledByUser = codes "job-canceled-by-user"
keyword_of JobCanceledByOperator = codes "job-canceled-by-operator"
keyword_of AbortedBySystem = codes "aborted-by-system"
keyword_of JobCompletedSuccessfully = codes "job-completed-successfully"

abbrev pub one : Reason → JobReasons
one reason = record { first = reason; second = None }

-- a pending job waits for its printer or for a device that can print it
abbrev pub pending_reason : Bool → Bool → Reason
pending_reason stranded paused = if paused then PrinterStopped else if stranded then ResourcesAreNotReady else Nothing

-- the reasons of a pending-held job: documents are still to come, the job is held, or both in this order
abbrev pub held_reasons : Bool → Bool → JobReasons
held_reasons true true = record { first = JobIncoming; second = Some JobHoldUntilSpecified }
held_reasons true false = one JobIncoming
held_reasons false held = one JobHoldUntilSpecified

-- the reasons of a job that no device has had
abbrev pub waiting_reasons : Bool → Bool → Bool → Bool → JobReasons
waiting_reasons incoming held stranded paused =
    if incoming || held then held_reasons incoming held
    else one (pending_reason stranded paused)

abbrev pub canceled_reason : Option Canceler → Reason
canceled_reason (Some Owner) = JobCanceledByUser
canceled_reason _ = JobCanceledByOperator

abbrev pub reasons_in : JobState → JobRecord → Bool → JobReasons
reasons_in Pending job paused = one (pending_reason job.stranded paused)
reasons_in PendingHeld job paused = held_reasons job.incoming job.held
reasons_in Processing job paused = one JobPrinting
reasons_in Stopped job paused = one PrinterStopped
reasons_in Canceled job paused = one (canceled_reason job.canceled_by)
reasons_in Aborted job paused = one AbortedBySystem
reasons_in Completed job paused = one JobCompletedSuccessfully

-- the reasons of a job; `paused` indicates whether its printer is paused
abbrev pub reasons_of : JobRecord → Bool → JobReasons
reasons_of job paused = reasons_in job.state job paused
