-- The text of a queue for an LPD client (RFC 1179, sections 5.3 and 5.4), and the byte that acknowledges a job (section 6).
use Rattle.std.specs.Prelude.{ℕ, ◌++◌, ◌==◌, ◌&&◌, ◌||◌, nat_lt, Bool, true, false, if◌then◌else◌, List, [], ◌∷◌, map, Option, Some, None, codes}
use Rattle.std.specs.Fmt.{decimal}
use Rattle.std.specs.List.{flat_map}
use Rattle.job_objects.specs.declared.job_state.JobState.{JobState}
use Rattle.job_objects.specs.declared.job_state.JobState.TheVariants as Job
use Rattle.job_objects.specs.declared.reason.JobReasons.{JobReasons}
use Rattle.job_objects.specs.declared.reason.Reason.{Reason}
use Rattle.job_objects.specs.Reasons.{keyword_of}
use Rattle.printer_objects.specs.declared.state.PrinterState.{PrinterState}
use Rattle.printer_objects.specs.declared.state.PrinterState.TheVariants as Printer
use Rattle.events.specs.declared.queue.QueueEntry.{QueueEntry}
use Rattle.events.specs.declared.queue.QueueListing.{QueueListing}
use Rattle.events.specs.declared.queue.QueueForm.{QueueForm}
use Rattle.events.specs.declared.queue.QueueForm.TheVariants.{Short, Long}
use Rattle.events.specs.declared.effects.LpdResponse.{LpdResponse}
use Rattle.events.specs.declared.effects.LpdResponse.TheVariants.{Taken, Queue, NoQueue}
use Rattle.ipp_operations.specs.declared.queue_text.TheConstants.{ACCEPTED, REFUSED}

-- ---- words

-- a control character is written as a question mark; in a name that has to be one word a space is too
abbrev pub shown_byte : Bool → ℕ → ℕ
shown_byte one_word byte = if nat_lt byte 32 || (byte == 127) || (one_word && (byte == 32)) then 63 else byte

abbrev pub shown : Bool → List ℕ → List ℕ
shown one_word bytes = map (shown_byte one_word) bytes

abbrev pub printer_word : PrinterState → List ℕ
printer_word Printer.Idle = codes "idle"
printer_word Printer.Processing = codes "processing"
printer_word Printer.Stopped = codes "stopped"

abbrev pub state_word : JobState → List ℕ
state_word Job.Pending = codes "pending"
state_word Job.PendingHeld = codes "pending-held"
state_word Job.Processing = codes "processing"
state_word Job.Stopped = codes "processing-stopped"
state_word Job.Canceled = codes "canceled"
state_word Job.Aborted = codes "aborted"
state_word Job.Completed = codes "completed"

-- the second reason, after a comma
abbrev pub further_reason : Option Reason → List ℕ
further_reason None = []
further_reason (Some reason) = codes "," ++ keyword_of reason

abbrev pub reasons_word : JobReasons → List ℕ
reasons_word reasons = keyword_of reasons.first ++ further_reason reasons.second

-- ---- lines

-- the line of a job in the short form: id, state, owner, octets, name
abbrev pub short_line : QueueEntry → List ℕ
short_line job =
    decimal job.id ++ (codes " " ++ (state_word job.state ++ (codes " " ++ (shown true job.owner ++ (codes " " ++ (decimal job.octets ++ (codes " " ++ (shown false job.name ++ codes "\n"))))))))

-- the beginning of the long form: id, state, reasons, with a space after them
unfoldable pub long_start : QueueEntry → List ℕ
long_start job = decimal job.id ++ (codes " " ++ (state_word job.state ++ (codes " " ++ (reasons_word job.reasons ++ codes " "))))

-- octets, impressions and copies, with spaces between and around them
unfoldable pub sizes_of : QueueEntry → List ℕ
sizes_of job = codes " " ++ (decimal job.octets ++ (codes " " ++ (decimal job.impressions ++ (codes " " ++ (decimal job.copies ++ codes " ")))))

-- the line of a job in the long form: id, state, reasons, owner, octets, impressions, copies, name
abbrev pub long_line : QueueEntry → List ℕ
long_line job = long_start job ++ (shown true job.owner ++ (sizes_of job ++ (shown false job.name ++ codes "\n")))

abbrev pub line_of : QueueForm → QueueEntry → List ℕ
line_of Short job = short_line job
line_of Long job = long_line job

-- a line for each job, or the line `no entries`
abbrev pub lines_of : QueueForm → List QueueEntry → List ℕ
lines_of form [] = codes "no entries\n"
lines_of form (job ∷ jobs) = flat_map (line_of form) (job ∷ jobs)

-- the name and the state of the printer, and then its jobs
abbrev pub queue_text : QueueListing → List ℕ
queue_text listing = listing.name ++ (codes " " ++ (printer_word listing.state ++ (codes "\n" ++ lines_of listing.form listing.jobs.items)))

-- ---- responses

-- the text for a client that lists a queue; empty for an acknowledgement
abbrev pub text_of : LpdResponse → List ℕ
text_of (Queue listing) = queue_text listing
text_of NoQueue = codes "no queue\n"
text_of (Taken taken) = []

-- the byte for a client that sent a job: 0 if the job was taken, else 1
abbrev pub ack_of : LpdResponse → ℕ
ack_of (Taken true) = ACCEPTED
ack_of (Taken false) = REFUSED
ack_of (Queue listing) = REFUSED
ack_of NoQueue = REFUSED
