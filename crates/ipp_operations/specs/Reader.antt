-- The state of a parser that was fed a body, in segments of any length.
use Rattle.std.specs.Prelude.{◌≡◌, ℕ, Bool, true, false, if◌then◌else◌, List, [], length, drop, Result, Ok, Err}
use Rattle.std.specs.Option.{option_map_or}
use Rattle.ipp_codec.specs.declared.stage.Stage.{Stage}
use Rattle.ipp_codec.specs.declared.stage.Stage.TheVariants.{Whole}
use Rattle.ipp_codec.specs.Decoder.{DecoderState, HasDecoded}
use Rattle.printer_objects.specs.declared.operation.Operation.{Operation}
use Rattle.printer_objects.specs.declared.operation.Operation.TheVariants.{PrintJob, SendDocument}
use Rattle.events.specs.declared.event.Event.{Event}
use Rattle.events.specs.declared.status.Status.{Status}
use Rattle.ipp_operations.specs.declared.header.Header.{Header}
use Rattle.ipp_operations.specs.declared.parsed_request.ParsedRequest.{ParsedRequest}
use Rattle.ipp_operations.specs.ParsedRequest.{header_of, operation_of, Requests, AsksBy, AsksUnder, Asks}

-- the state of a parser: its decoder of the head, and the octets that it keeps of the document
pub record ReaderState : Type 0 where
  pub decoder : DecoderState
  pub document : List ℕ

-- the operations whose requests have a document after the attributes
abbrev pub has_document : Operation → Bool
has_document PrintJob = true
has_document SendDocument = true
has_document _ = false

abbrev pub sends_document : Result Operation Status → Bool
sends_document (Ok operation) = has_document operation
sends_document (Err status) = false

-- whether the header in these bytes has an operation with a document
abbrev pub reads_document : List ℕ → Bool
reads_document head = option_map_or (λ header. sends_document (operation_of header)) (header_of head) false

-- the octets that the parser keeps of the document: all after the head, if the operation has a document
abbrev pub KeptAt : Stage → List ℕ → ReaderState → Type 0
KeptAt Whole bytes reader = reader.document ≡ (if reads_document reader.decoder.head then drop (length reader.decoder.head) bytes else [])
KeptAt _ bytes reader = reader.document ≡ []

-- The reader was fed these bytes.
pub record HasRead (bytes : List ℕ) (reader : ReaderState) : Type 0 where
  pub reaches : HasDecoded bytes reader.decoder
  pub kept : KeptAt reader.decoder.stage bytes reader

-- a decoder that was fed some bytes
abbrev pub WasFed : DecoderState → Type 0
WasFed decoder = (bytes : List ℕ) × HasDecoded bytes decoder

-- ---- the parsed request of a whole body, all of which the decoder was fed, and this document

-- the document is that of the bytes, if the operation has a document
abbrev pub Holds : Bool → List ℕ → DecoderState → List ℕ → Type 0
Holds reads bytes decoder document = reads ≡ true → decoder.stage ≡ Whole → document ≡ drop (length decoder.head) bytes

abbrev pub RequestsOf : Operation → DecoderState → List ℕ → Result Event Status → Type 0
RequestsOf asked decoder document event = (bytes : List ℕ) → HasDecoded bytes decoder → Holds (has_document asked) bytes decoder document → Requests asked bytes event

abbrev pub AsksByOf : Operation → ℕ → DecoderState → List ℕ → ParsedRequest → Type 0
AsksByOf asked id decoder document parsed = (bytes : List ℕ) → HasDecoded bytes decoder → Holds (has_document asked) bytes decoder document → AsksBy asked id bytes parsed

abbrev pub AsksUnderOf : Header → DecoderState → List ℕ → ParsedRequest → Type 0
AsksUnderOf header decoder document parsed = (bytes : List ℕ) → HasDecoded bytes decoder → Holds (sends_document (operation_of header)) bytes decoder document → AsksUnder header bytes parsed

abbrev pub AsksOf : DecoderState → List ℕ → ParsedRequest → Type 0
AsksOf decoder document parsed = (bytes : List ℕ) → HasDecoded bytes decoder → Holds (reads_document decoder.head) bytes decoder document → Asks bytes parsed
