-- The event of a message with an operation, or why the message is refused: the first of these checks that fails decides (RFC 8011, section 4.1).
use Rattle.std.specs.Prelude.{ℕ, ◌&&◌, not, Bool, if◌then◌else◌, List, Result, Ok, Err}
use Rattle.std.specs.List.{list_all}
use Rattle.std.specs.Option.{option_map_or}
use Rattle.ipp_codec.specs.Message.{IppAttribute, IppGroup, IppMessage}
use Rattle.printer_objects.specs.declared.operation.Operation.{Operation}
use Rattle.printer_objects.specs.declared.operation.Operation.TheVariants as operation
use Rattle.events.specs.declared.event.Event.{Event}
use Rattle.events.specs.declared.event.Event.TheVariants as event
use Rattle.events.specs.declared.status.Status.{Status}
use Rattle.events.specs.declared.status.Status.TheVariants.{BadRequest, CharsetNotSupported}
use Rattle.ipp_operations.specs.declared.operation_attribute.OperationAttribute.TheVariants.{PrinterUri, LastDocument}
use Rattle.ipp_operations.specs.Attributes.{has, is_tagged}
use Rattle.ipp_operations.specs.JobCreation.{asked_job_of, print_job_of, validate_job_of}
use Rattle.ipp_operations.specs.JobRequests.{job_request_of, send_document_of, hold_job_of, get_job_attributes_of}
use Rattle.ipp_operations.specs.OperationAttribute.{attributes_read}
use Rattle.ipp_operations.specs.PrinterRequests.{printer_request_of, get_printer_attributes_of, get_jobs_of}
use Rattle.ipp_operations.specs.Request.{operation_group, job_attributes, is_utf8}
use Rattle.ipp_operations.specs.Target.{names_job}

-- the attributes that a request must have: those of its job or its printer, and in a Send-Document last-document
abbrev pub is_complete : Operation → IppGroup → Bool
is_complete operation.SendDocument group = names_job group && has LastDocument group
is_complete operation.CancelJob group = names_job group
is_complete operation.GetJobAttributes group = names_job group
is_complete operation.HoldJob group = names_job group
is_complete operation.ReleaseJob group = names_job group
is_complete _ group = has PrinterUri group

-- each attribute that the operation reads has a tag of its syntax, if the group has it
abbrev pub are_tagged : Operation → IppGroup → Bool
are_tagged asked group = list_all (is_tagged group) (attributes_read asked)

-- the event of a request that has passed all checks, by the operation
abbrev pub event_of_group : Operation → IppGroup → List IppAttribute → List ℕ → Event
event_of_group operation.PrintJob group template document = event.PrintJob (print_job_of group template document)
event_of_group operation.ValidateJob group template document = event.ValidateJob (validate_job_of group template)
event_of_group operation.CreateJob group template document = event.CreateJob (asked_job_of group template)
event_of_group operation.SendDocument group template document = event.SendDocument (send_document_of group document)
event_of_group operation.CancelJob group template document = event.CancelJob (job_request_of group)
event_of_group operation.GetJobAttributes group template document = event.GetJobAttributes (get_job_attributes_of group)
event_of_group operation.GetJobs group template document = event.GetJobs (get_jobs_of group)
event_of_group operation.GetPrinterAttributes group template document = event.GetPrinterAttributes (get_printer_attributes_of group)
event_of_group operation.HoldJob group template document = event.HoldJob (hold_job_of group)
event_of_group operation.ReleaseJob group template document = event.ReleaseJob (job_request_of group)
event_of_group operation.PausePrinter group template document = event.PausePrinter (printer_request_of group)
event_of_group operation.ResumePrinter group template document = event.ResumePrinter (printer_request_of group)

-- the checks of the operation group, in order
abbrev pub checked_event : Operation → IppGroup → List IppAttribute → List ℕ → Result Event Status
checked_event asked group template document =
    if not (is_utf8 group) then Err CharsetNotSupported
    else if not (are_tagged asked group) then Err BadRequest
    else if not (is_complete asked group) then Err BadRequest
    else Ok (event_of_group asked group template document)

-- the event of a message; BadRequest if the message isn't a request
abbrev pub event_of : Operation → IppMessage → List ℕ → Result Event Status
event_of asked message document = option_map_or (λ group. checked_event asked group (job_attributes message) document) (operation_group message) (Err BadRequest)
