-- The job of a request, and the response if the job is taken (RFC 8011, sections 4.2.1 and 4.2.4).
use Rattle.std.specs.Prelude.{ℕ, Bool, List, [], Result, Ok}
use Rattle.text.specs.Steps.{◌>>=◌}
use Rattle.ipp_codec.specs.Message.{IppGroup}
use Rattle.printer_objects.specs.Created.{created_group}
use Rattle.job_template.specs.Template.{template_of, medium_of}
use Rattle.octets.specs.Document.{DocumentRecord}
use Rattle.spool.specs.Submission.{Submission, spooled_of}
use Rattle.spool.specs.Calls.{paused_at}
use Rattle.events.specs.declared.event.JobCreation.{JobCreation}
use Rattle.dispatcher.specs.declared.checks.NamedPrinter.{NamedPrinter}
use Rattle.dispatcher.specs.declared.checks.Rejection.{Rejection}
use Rattle.dispatcher.specs.declared.submission.Accepted.{Accepted}
use Rattle.dispatcher.specs.Checks.{unsupported_attributes, room_for}
use Rattle.print_room.specs.State.{State}

-- the job, with the values of its job group; its documents are added later
abbrev pub submission_of : JobCreation → ℕ → NamedPrinter → Submission
submission_of requested now printer =
    let template = template_of printer.offer requested.template in record {
      created = now;
      printer = printer.id;
      owner = requested.user;
      name = requested.name;
      priority = template.priority;
      sides = template.sides;
      finishings = template.finishings;
      media = medium_of printer.offer requested.template;
      copies = template.copies;
      held = template.held;
      impressions = requested.impressions;
      documents = [];
    }

-- an accepted job with these documents
abbrev pub of_documents : List DocumentRecord → Accepted → Accepted
of_documents documents accepted = record accepted { job = record accepted.job { documents = documents } }

-- the accepted job at a printer, for this many octets, or the rejection of the first check that fails
abbrev pub checked_job : JobCreation → ℕ → ℕ → State → NamedPrinter → Result Accepted Rejection
checked_job requested octets now old printer =
    unsupported_attributes requested.fidelity requested.template printer.offer >>= (λ unsupported.
    room_for octets old >>= (λ _.
    Ok (record { job = submission_of requested now printer; unsupported = unsupported })))

-- the group of the job that is taken next, before any dispatch (section 4.2.1.2); `incoming` indicates whether its documents are still to come
abbrev pub group_of : State → Submission → Bool → IppGroup
group_of old job incoming = created_group old.settings.uri_base (spooled_of job old.spool.next incoming).job (paused_at old.paused job.printer)
