-- The request in an IPP body (RFC 8011, section 4.1): its header is checked first, then its attributes; the document is after them.
use Rattle.std.specs.Prelude.{ℕ, ◌≡◌, ◌≤◌, ◌⊎◌, ◌==◌, ◌||◌, not, if◌then◌else◌, List, [], ◌∷◌, take, drop, find, Option, Some, None, option_map, MatchOption, Result, Ok, Err, MatchResult}
use Rattle.std.specs.Option.{option_map_or}
use Rattle.std.specs.Int.{w16, w32, from_be_bytes}
use Rattle.base_types.specs.declared.limits.TheConstants.Limits.{IPP_HEAD_BYTES}
use Rattle.ipp_codec.specs.declared.fault.CodecFault.{CodecFault}
use Rattle.ipp_codec.specs.declared.fault.CodecFault.TheVariants as fault
use Rattle.ipp_codec.specs.Message.{IppMessage}
use Rattle.ipp_codec.specs.Grammar.{Spells}
use Rattle.ipp_codec.specs.FirstFault.{HeadFault}
use Rattle.printer_objects.specs.declared.operation.Operation.{Operation}
use Rattle.printer_objects.specs.Operation.{operation_code, operation_table}
use Rattle.events.specs.declared.event.Event.{Event}
use Rattle.events.specs.declared.status.Status.{Status}
use Rattle.events.specs.declared.status.Status.TheVariants as status
use Rattle.ipp_operations.specs.declared.header.Header.{Header}
use Rattle.ipp_operations.specs.declared.parsed_request.ParsedRequest.{ParsedRequest}
use Rattle.ipp_operations.specs.declared.parsed_request.ParsedRequest.TheVariants.{TooShort, Refused, Event as Comes}
use Rattle.ipp_operations.specs.Event.{event_of}

-- version, operation and request-id: the first eight bytes (RFC 8010, section 3.1.1)
abbrev pub header_of : List ℕ → Option Header
header_of (major ∷ minor ∷ high ∷ low ∷ id_3 ∷ id_2 ∷ id_1 ∷ id_0 ∷ tail) = Some (record {
  major = major;
  operation = from_be_bytes w16 (high ∷ low ∷ []);
  request_id = from_be_bytes w32 (id_3 ∷ id_2 ∷ id_1 ∷ id_0 ∷ []);
})
header_of _ = None

-- the request-id of a body that has a whole header
abbrev pub request_id_of : List ℕ → Option ℕ
request_id_of body = option_map (λ header. header.request_id) (header_of body)

-- the operation of a code, if the table has it (section 5.4.15)
abbrev pub operation_in : ℕ → Option Operation
operation_in code = find (λ o. operation_code o == code) operation_table

-- the operation of a header: the version's major number has to be 1 or 2 (RFC 8011, section 4.1.8), and the operation has to be in the table
abbrev pub operation_of : Header → Result Operation Status
operation_of header =
    if not ((header.major == 1) || (header.major == 2)) then Err status.VersionNotSupported
    else option_map_or Ok (operation_in header.operation) (Err status.OperationNotSupported)

abbrev pub status_of : CodecFault → Status
status_of fault.TooLarge = status.TooLarge
status_of _ = status.BadRequest

-- the status of the first fault of the bytes; or the event of the message that a prefix of the bytes spells, with the bytes after it as the document
abbrev pub Requests : Operation → List ℕ → Result Event Status → Type 0
Requests asked body event =
    ((fault : CodecFault) × HeadFault body fault × (event ≡ Err (status_of fault)))
    ⊎ ((n : ℕ) × (message : IppMessage) × (n ≤ IPP_HEAD_BYTES) × Spells (take n body) message × (event ≡ event_of asked message (drop n body)))

abbrev pub answered : ℕ → Result Event Status → ParsedRequest
answered id (Ok event) = Comes id event
answered id (Err status) = Refused status id

-- the parsed request of a body with an operation
abbrev pub AsksBy : Operation → ℕ → List ℕ → ParsedRequest → Type 0
AsksBy operation id body asked = (event : Result Event Status) × Requests operation body event × (asked ≡ answered id event)

-- the parsed request of a body with this header
abbrev pub AsksUnder : Header → List ℕ → ParsedRequest → Type 0
AsksUnder header body asked =
    MatchResult (operation_of header)
    (λ operation. AsksBy operation header.request_id body asked)
    (λ status. asked ≡ Refused status header.request_id)

abbrev pub Asks : List ℕ → ParsedRequest → Type 0
Asks body asked = MatchOption (header_of body) (asked ≡ TooShort) (λ header. AsksUnder header body asked)
