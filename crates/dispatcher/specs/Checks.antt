-- The checks of a request, in order (RFC 8011, sections 4.1.5 to 4.1.7, 4.2.1.1 and 4.2.1.2): its printer or its job, its document's form, its template, whether its user is allowed to, whether the job's state allows it, and whether there is room for it. The first that fails decides. Each operation's file has the checks of that operation.
use Rattle.std.specs.Prelude.{ℕ, ◌==◌, ◌&&◌, not, nat_lt, Bool, false, if◌then◌else◌, List, [], length, Option, Some, None, Result, Ok, Err, codes, slice_get}
use Rattle.std.specs.Option.{option_map_or}
use Rattle.std.specs.Str.{bytes_eq}
use Rattle.base_types.specs.declared.limits.TheConstants.Limits.{JOB_OCTETS}
use Rattle.settings_file.specs.Settings.{PrinterEntry}
use Rattle.ipp_codec.specs.Message.{IppAttribute}
use Rattle.printer_objects.specs.Offer.{OfferRecord, format_named}
use Rattle.spool.specs.Calls.{is_full}
use Rattle.job_template.specs.Unsupported.{unsupported_of}
use Rattle.events.specs.declared.event.DocumentForm.{DocumentForm}
use Rattle.events.specs.declared.event.Target.{Target}
use Rattle.events.specs.declared.status.Status.{Status}
use Rattle.events.specs.declared.status.Status.TheVariants as Went
use Rattle.dispatcher.specs.declared.checks.NamedPrinter.{NamedPrinter}
use Rattle.dispatcher.specs.declared.checks.Rejection.{Rejection}
use Rattle.events.specs.declared.event.JobTarget.{JobTarget}
use Rattle.dispatcher.specs.Target.{printer_of, job_of}
use Rattle.job_objects.specs.Job.{JobRecord}
use Rattle.spool.specs.declared.refusal.SpoolRefusal.{SpoolRefusal}
use Rattle.spool.specs.declared.refusal.SpoolRefusal.TheVariants as Why
use Rattle.print_room.specs.Jobs.{is_operator}
use Rattle.print_room.specs.State.{State}

-- the rejection with a status, and no unsupported attributes
abbrev pub refused : Status → Rejection
refused status = record { status = status; unsupported = [] }

-- the offer of a printer, by the state of the devices
abbrev pub offer_of : State → PrinterEntry → OfferRecord
offer_of state printer = record { devices = state.devices; printer = printer }

-- the printer is known
abbrev pub named_printer : Target → State → Result NamedPrinter Rejection
named_printer target state =
    option_map_or (λ found. Ok (record { id = found.0; offer = offer_of state found.1 })) (printer_of target state.settings.printers) (Err (refused Went.NotFound))

-- the job is known
abbrev pub named_job : JobTarget → State → Result JobRecord Rejection
named_job target state = option_map_or Ok (job_of target state) (Err (refused Went.NotFound))

-- the printer of a job
abbrev pub printer_of_job : JobRecord → State → Result NamedPrinter Rejection
printer_of_job job state =
    option_map_or (λ printer. Ok (record { id = job.needs.printer; offer = offer_of state printer })) (slice_get state.settings.printers job.needs.printer) (Err (refused Went.NotFound))

-- compression is present and isn't `none` (section 4.2.1.1)
abbrev pub is_compressed : Option (List ℕ) → Bool
is_compressed compression = option_map_or (λ c. not (bytes_eq c (codes "none"))) compression false

-- the requested format as the settings spell it (section 5.1.10), if the printer has it; without document-format the printer's default
abbrev pub format_of : OfferRecord → Option (List ℕ) → Option (List ℕ)
format_of offer None = Some offer.printer.format_default
format_of offer (Some requested) = format_named offer requested

-- the format of the document, which has to be uncompressed and of a supported format
abbrev pub checked_format : DocumentForm → OfferRecord → Result (List ℕ) Rejection
checked_format form offer =
    if is_compressed form.compression then Err (refused Went.CompressionNotSupported)
    else option_map_or Ok (format_of offer form.format) (Err (refused Went.FormatNotSupported))

-- the unsupported attributes of the job group; they are a rejection if the request has ipp-attribute-fidelity (section 4.1.7)
abbrev pub unsupported_attributes : Bool → List IppAttribute → OfferRecord → Result (List IppAttribute) Rejection
unsupported_attributes fidelity template offer =
    if fidelity && not (length (unsupported_of offer template) == 0) then Err (record { status = Went.AttributesNotSupported; unsupported = unsupported_of offer template })
    else Ok (unsupported_of offer template)

-- the status for a refused change of a job
abbrev pub status_of : SpoolRefusal → Status
status_of Why.Busy = Went.Busy
status_of Why.TooLarge = Went.TooLarge
status_of Why.NotFound = Went.NotFound
status_of Why.NotPossible = Went.NotPossible
status_of Why.NotAuthorized = Went.NotAuthorized
status_of Why.OutOfMemory = Went.TemporaryError

-- a change of a job isn't refused
abbrev pub unrefused : Option SpoolRefusal → Result (Unit {0}) Rejection
unrefused None = Ok tt
unrefused (Some cause) = Err (refused (status_of cause))

-- the user is an operator
abbrev pub by_operator : List ℕ → State → Result (Unit {0}) Rejection
by_operator name state = if is_operator name state then Ok tt else Err (refused Went.NotAuthorized)

-- the octets of a job are within the limit, and a further job is accepted
abbrev pub room_for : ℕ → State → Result (Unit {0}) Rejection
room_for octets state =
    if nat_lt JOB_OCTETS octets then Err (refused Went.TooLarge)
    else if is_full state.spool then Err (refused Went.Busy)
    else Ok tt
