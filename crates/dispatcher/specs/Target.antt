-- The printer and the job that a request names (RFC 8011, section 4.1.5).
use Rattle.std.specs.Prelude.{ℕ, ◌==◌, if◌then◌else◌, List, find, Option, Some, None}
use Rattle.std.specs.List.{enumerate_from}
use Rattle.std.specs.Option.{option_and_then}
use Rattle.settings_file.specs.Settings.{PrinterEntry}
use Rattle.job_objects.specs.Job.{JobRecord}
use Rattle.spool.specs.Jobs.{job_at}
use Rattle.events.specs.declared.event.Target.{Target}
use Rattle.events.specs.Target.{names}
use Rattle.events.specs.declared.event.JobTarget.{JobTarget}
use Rattle.events.specs.declared.event.JobTarget.TheVariants as Job
use Rattle.print_room.specs.State.{State}

-- the first printer that the target names, with its place
abbrev pub printer_of : Target → List PrinterEntry → Option (ℕ × PrinterEntry)
printer_of target printers = find (λ found. names target found.1) (enumerate_from 0 printers)

-- the job, if it was sent to the printer at a place
abbrev pub if_sent_to : ℕ → JobRecord → Option JobRecord
if_sent_to place job = if job.needs.printer == place then Some job else None

-- the job that the target names, if it is kept: by its own URI, or by its id among the jobs of a printer
abbrev pub job_of : JobTarget → State → Option JobRecord
job_of (Job.Numbered id) state = job_at id state.spool.jobs
job_of (Job.OfPrinter target id) state =
    option_and_then (λ found. option_and_then (if_sent_to found.0) (job_at id state.spool.jobs)) (printer_of target state.settings.printers)
job_of Job.Unknown state = None
