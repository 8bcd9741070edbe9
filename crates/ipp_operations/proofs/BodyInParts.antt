-- A body that comes in segments: the bytes that its reader was fed, and the event that the body asks for.
use Rattle.std.proofs.Common.{◌≡◌, ℕ, ◌+◌, ◌≤◌, Bool, true, false, cond, List, [], ◌∷◌, ◌++◌, length, take, drop, Option, Some, None, option_map, Result, Ok, Err, MatchOption, MatchResult, refl, sym, ap, subst, ◌∙◌, inl, inr, arith}
use Rattle.std.specs.Option.{option_map_or}
use Rattle.std.proofs.lemmas.List.{length-append, drop-append-le, drop_at, drop-drop, drop_all}
use Rattle.base_types.specs.declared.limits.TheConstants.Limits.{IPP_HEAD_BYTES}
use Rattle.ipp_codec.specs.declared.fault.CodecFault.{CodecFault}
use Rattle.ipp_codec.specs.declared.stage.Stage.{Stage}
use Rattle.ipp_codec.specs.declared.stage.Stage.TheVariants.{Awaiting, Whole, Faulty}
use Rattle.ipp_codec.specs.Message.{IppMessage}
use Rattle.ipp_codec.specs.Grammar.{Spells}
use Rattle.ipp_codec.specs.FirstFault.{HeadFault}
use Rattle.ipp_codec.specs.Decoder.{DecoderState, IsAtStage, HasDecoded, TakesIn}
use Rattle.printer_objects.specs.declared.operation.Operation.{Operation}
use Rattle.printer_objects.specs.declared.operation.Operation.TheVariants as operation
use Rattle.events.specs.declared.event.Event.{Event}
use Rattle.events.specs.declared.status.Status.{Status}
use Rattle.ipp_operations.specs.declared.header.Header.{Header}
use Rattle.ipp_operations.specs.declared.parsed_request.ParsedRequest.{ParsedRequest}
use Rattle.ipp_operations.specs.declared.parsed_request.ParsedRequest.TheVariants.{TooShort, Refused}
use Rattle.ipp_operations.specs.ParsedRequest.{header_of, operation_of, request_id_of, status_of, Requests, answered, AsksBy, AsksUnder}
use Rattle.ipp_operations.specs.Event.{event_of}
use Rattle.ipp_operations.specs.Reader.{ReaderState, has_document, reads_document, sends_document, KeptAt, HasRead, Holds, RequestsOf, AsksByOf, AsksUnderOf, AsksOf}

-- ---- the header

header_prefix : (bytes : List ℕ) → header_of bytes ≡ header_of (take 8 bytes)
header_prefix [] = refl
header_prefix (a ∷ []) = refl
header_prefix (a ∷ b ∷ []) = refl
header_prefix (a ∷ b ∷ c ∷ []) = refl
header_prefix (a ∷ b ∷ c ∷ d ∷ []) = refl
header_prefix (a ∷ b ∷ c ∷ d ∷ e ∷ []) = refl
header_prefix (a ∷ b ∷ c ∷ d ∷ e ∷ f ∷ []) = refl
header_prefix (a ∷ b ∷ c ∷ d ∷ e ∷ f ∷ g ∷ []) = refl
header_prefix (a ∷ b ∷ c ∷ d ∷ e ∷ f ∷ g ∷ h ∷ rest) = refl

-- the header of the kept bytes is the header of all bytes
pub header_kept : (bytes : List ℕ) (decoder : DecoderState) → HasDecoded bytes decoder → header_of decoder.head ≡ header_of bytes
header_kept bytes decoder reaches = header_prefix decoder.head ∙ ap header_of reaches.header ∙ sym (header_prefix bytes)

-- ---- the request of a body

-- an event that has no document is the same whatever follows its head
no_document : (asked : Operation) (message : IppMessage) (x y : List ℕ) → has_document asked ≡ false → event_of asked message x ≡ event_of asked message y
no_document operation.PrintJob message x y none = absurd cc
no_document operation.SendDocument message x y none = absurd cc
no_document operation.ValidateJob message x y none = refl
no_document operation.CreateJob message x y none = refl
no_document operation.CancelJob message x y none = refl
no_document operation.GetJobAttributes message x y none = refl
no_document operation.GetJobs message x y none = refl
no_document operation.GetPrinterAttributes message x y none = refl
no_document operation.HoldJob message x y none = refl
no_document operation.ReleaseJob message x y none = refl
no_document operation.PausePrinter message x y none = refl
no_document operation.ResumePrinter message x y none = refl

event_by : (asked : Operation) (has : Bool) → has_document asked ≡ has → (message : IppMessage) (bytes document : List ℕ) (decoder : DecoderState) → decoder.stage ≡ Whole → Holds has bytes decoder document
    → event_of asked message document ≡ event_of asked message (drop (length decoder.head) bytes)
event_by asked true is message bytes document decoder whole holds = ap (λ (l : List ℕ). event_of asked message l) (holds refl whole)
event_by asked false is message bytes document decoder whole holds = no_document asked message document (drop (length decoder.head) bytes) is

-- the event of a message that a decoder found
pub found_requests : (asked : Operation) (message : IppMessage) (count : ℕ) (bytes document : List ℕ) (decoder : DecoderState) (event : Result Event Status)
    → (count ≤ IPP_HEAD_BYTES) × (count ≤ length bytes) × Spells (take count bytes) message → count ≡ length decoder.head → decoder.stage ≡ Whole → Holds (has_document asked) bytes decoder document
    → event ≡ event_of asked message document → Requests asked bytes event
found_requests asked message count bytes document decoder event found long whole holds is =
    let same : event_of asked message document ≡ event_of asked message (drop count bytes) =
    event_by asked (has_document asked) refl message bytes document decoder whole holds ∙ ap (λ (n : ℕ). event_of asked message (drop n bytes)) (sym long) in
    inr (count, message, found.0, found.2, is ∙ same)

-- the first fault that a decoder answered
pub fault_requests : (asked : Operation) (fault : CodecFault) (bytes : List ℕ) → HeadFault bytes fault → Requests asked bytes (Err (status_of fault))
fault_requests asked fault bytes is = inl (fault, is, refl)

-- the request-id of the kept bytes is the request-id of all bytes
pub id_kept : (bytes : List ℕ) (decoder : DecoderState) → HasDecoded bytes decoder → request_id_of decoder.head ≡ request_id_of bytes
id_kept bytes decoder reaches = ap (λ (o : Option Header). option_map (λ (h : Header). h.request_id) o) (header_kept bytes decoder reaches)

-- ---- a reader

-- the kept octets are the document, if the document is read
pub holds : (bytes : List ℕ) (reader : ReaderState) → HasRead bytes reader → Holds (reads_document reader.decoder.head) bytes reader.decoder reader.document
holds bytes reader has_read reads whole =
    let kept : KeptAt Whole bytes reader = subst (λ (s : Stage). KeptAt s bytes reader) whole has_read.kept in
    kept ∙ ap (λ (b : Bool). cond b (drop (length reader.decoder.head) bytes) []) reads

-- ---- a segment

abbrev reader_of : DecoderState → List ℕ → ReaderState
reader_of decoder document = record { decoder = decoder; document = document }

-- a decoder that awaits no more bytes stays as it is
abbrev pub StaysOver : DecoderState → DecoderState → Type 0
StaysOver old new = ¬ (old.stage ≡ Awaiting) → new ≡ old

none_yet : (bytes document : List ℕ) (old new : DecoderState) (stage : Stage) → old.stage ≡ stage → KeptAt stage bytes (reader_of old document) → StaysOver old new → ¬ (new.stage ≡ Whole) → document ≡ []
none_yet bytes document old new Awaiting is kept over head = kept
none_yet bytes document old new (Faulty fault) is kept over head = kept
none_yet bytes document old new Whole is kept over head =
    let same : new ≡ old = over (λ h. let e : Whole ≡ Awaiting = sym is ∙ h in absurd cc) in
    absurd (head (ap (λ (d : DecoderState). d.stage) same ∙ is))

no_document_at : (bytes document : List ℕ) (new : DecoderState) (stage : Stage) → new.stage ≡ stage → ¬ (new.stage ≡ Whole) → document ≡ [] → KeptAt stage bytes (reader_of new document)
no_document_at bytes document new Awaiting is head none = none
no_document_at bytes document new (Faulty fault) is head none = none
no_document_at bytes document new Whole is head none = absurd (head is)

-- a segment after which the head isn't whole
pub read_no_head : (bytes segment document : List ℕ) (old new : DecoderState) → TakesIn old segment new → StaysOver old new → ¬ (new.stage ≡ Whole) → HasRead bytes (reader_of old document) → HasRead (bytes ++ segment) (reader_of new document)
read_no_head bytes segment document old new takes over head has_read = record {
  reaches = takes bytes has_read.reaches;
  kept = no_document_at (bytes ++ segment) document new new.stage refl head (none_yet bytes document old new old.stage refl has_read.kept over head);
}

went_on : (reads : Bool) (document before part segment all : List ℕ) → document ≡ cond reads before [] → part ≡ segment → all ≡ before ++ segment → cond reads (document ++ part) document ≡ cond reads all []
went_on true document before part segment all was more tail = ap (λ (l : List ℕ). l ++ part) was ∙ ap (λ (l : List ℕ). before ++ l) more ∙ sym tail
went_on false document before part segment all was more tail = was

-- the document after a segment in which the head becomes whole
headed : (bytes segment document : List ℕ) (old new : DecoderState) (count : ℕ) (stage : Stage) (reads : Bool) → old.stage ≡ stage → HasDecoded bytes old → IsAtStage stage bytes old → KeptAt stage bytes (reader_of old document)
    → StaysOver old new → new.stage ≡ Whole → length new.head ≡ length old.head + count → reads_document new.head ≡ reads
    → cond reads (document ++ drop count segment) document ≡ cond reads (drop (length new.head) (bytes ++ segment)) []
headed bytes segment document old new count Awaiting false is reaches known kept over whole long reads = kept
headed bytes segment document old new count Awaiting true is reaches known kept over whole long reads =
    let all : length bytes ≡ length old.head = ap length (sym known.0) in
    let far : length new.head ≡ length bytes + count = omega (arith, long, all) in
    ap (λ (l : List ℕ). l ++ drop count segment) kept
    ∙ sym (ap (λ (n : ℕ). drop n (bytes ++ segment)) far ∙ sym (drop-drop count (length bytes) (bytes ++ segment)) ∙ ap (λ (l : List ℕ). drop count l) (drop_at bytes segment (length bytes) refl))
headed bytes segment document old new count (Faulty fault) reads is reaches known kept over whole long read =
    let same : new ≡ old = over (λ h. let e : Faulty fault ≡ Awaiting = sym is ∙ h in absurd cc) in
    let e : Whole ≡ Faulty fault = sym whole ∙ ap (λ (d : DecoderState). d.stage) same ∙ is in
    absurd cc
headed bytes segment document old new count Whole reads is reaches known kept over whole long read =
    let same : new ≡ old = over (λ h. let e : Whole ≡ Awaiting = sym is ∙ h in absurd cc) in
    let heads : new.head ≡ old.head = ap (λ (d : DecoderState). d.head) same in
    let none : count ≡ 0 = omega (arith, long, ap length heads) in
    let was : document ≡ cond reads (drop (length old.head) bytes) [] = kept ∙ ap (λ (b : Bool). cond b (drop (length old.head) bytes) []) (ap reads_document (sym heads) ∙ read) in
    let within : length old.head ≤ length bytes = omega (arith, ap length reaches.prefix.1, length-append old.head reaches.prefix.0) in
    let tail : drop (length new.head) (bytes ++ segment) ≡ drop (length old.head) bytes ++ segment = ap (λ (l : List ℕ). drop (length l) (bytes ++ segment)) heads ∙ drop-append-le (length old.head) bytes segment within in
    let more : drop count segment ≡ segment = ap (λ (n : ℕ). drop n segment) none in
    went_on reads document (drop (length old.head) bytes) (drop count segment) segment (drop (length new.head) (bytes ++ segment)) was more tail

-- a segment in which the head is whole
pub read_head : (bytes segment document later : List ℕ) (old new : DecoderState) (count : ℕ) → TakesIn old segment new → StaysOver old new → new.stage ≡ Whole → length new.head ≡ length old.head + count
    → later ≡ cond (reads_document new.head) (document ++ drop count segment) document → HasRead bytes (reader_of old document) → HasRead (bytes ++ segment) (reader_of new later)
read_head bytes segment document later old new count takes over whole long is has_read =
    let kept : KeptAt Whole (bytes ++ segment) (reader_of new later) = is ∙ headed bytes segment document old new count old.stage (reads_document new.head) refl has_read.reaches has_read.reaches.known has_read.kept over whole long refl in
    record {
      reaches = takes bytes has_read.reaches;
      kept = subst (λ (s : Stage). KeptAt s (bytes ++ segment) (reader_of new later)) (sym whole) kept;
    }

-- ---- nothing yet

either : (b : Bool) (x : List ℕ) → x ≡ [] → cond b x [] ≡ []
either true x is = is
either false x is = refl

none_kept : (decoder : DecoderState) (document : List ℕ) (stage : Stage) → document ≡ [] → KeptAt stage [] (reader_of decoder document)
none_kept decoder document Awaiting none = none
none_kept decoder document (Faulty fault) none = none
none_kept decoder document Whole none = none ∙ sym (either (reads_document decoder.head) (drop (length decoder.head) []) (drop_all (length decoder.head) [] (omega arith)))

-- a reader of a new body
pub read_nothing : (decoder : DecoderState) (document : List ℕ) → HasDecoded [] decoder → document ≡ [] → HasRead [] (reader_of decoder document)
read_nothing decoder document reaches none = record { reaches = reaches; kept = none_kept decoder document decoder.stage none }

-- ---- from a decoder to the request

-- the header is there
pub asks_under : (decoder : DecoderState) (document : List ℕ) (header : Header) (parsed : ParsedRequest) → header_of decoder.head ≡ Some header → AsksUnderOf header decoder document parsed → AsksOf decoder document parsed
asks_under decoder document header parsed is under bytes reaches holds =
    let all : header_of bytes ≡ Some header = sym (header_kept bytes decoder reaches) ∙ is in
    let reads : reads_document decoder.head ≡ sends_document (operation_of header) = ap (λ (o : Option Header). option_map_or (λ (h : Header). sends_document (operation_of h)) o false) is in
    subst (λ (o : Option Header). MatchOption o (parsed ≡ TooShort) (λ (h : Header). AsksUnder h bytes parsed)) (sym all) (under bytes reaches (λ so. holds (reads ∙ so)))

-- the header isn't whole
pub asks_short : (decoder : DecoderState) (document : List ℕ) → header_of decoder.head ≡ None → AsksOf decoder document TooShort
asks_short decoder document is bytes reaches holds =
    subst (λ (o : Option Header). MatchOption o (TooShort ≡ TooShort) (λ (h : Header). AsksUnder h bytes TooShort)) (sym (sym (header_kept bytes decoder reaches) ∙ is)) refl

-- the header gives an operation
pub asks_by : (decoder : DecoderState) (document : List ℕ) (header : Header) (asked : Operation) (parsed : ParsedRequest) → operation_of header ≡ Ok asked → AsksByOf asked header.request_id decoder document parsed → AsksUnderOf header decoder document parsed
asks_by decoder document header asked parsed is by bytes reaches holds =
    subst (λ (r : Result Operation Status). MatchResult r (λ (o : Operation). AsksBy o header.request_id bytes parsed) (λ (s : Status). parsed ≡ Refused s header.request_id)) (sym is)
    (by bytes reaches (λ so. holds (ap sends_document is ∙ so)))

-- the header gives a status instead of an operation
pub asks_none : (decoder : DecoderState) (document : List ℕ) (header : Header) (status : Status) → operation_of header ≡ Err status → AsksUnderOf header decoder document (Refused status header.request_id)
asks_none decoder document header status is bytes reaches holds =
    let parsed = Refused status header.request_id in
    subst (λ (r : Result Operation Status). MatchResult r (λ (o : Operation). AsksBy o header.request_id bytes parsed) (λ (s : Status). parsed ≡ Refused s header.request_id)) (sym is) refl

pub asks_event : (decoder : DecoderState) (document : List ℕ) (asked : Operation) (id : ℕ) (event : Result Event Status) → RequestsOf asked decoder document event → AsksByOf asked id decoder document (answered id event)
asks_event decoder document asked id event requests bytes reaches holds = (event, requests bytes reaches holds, refl)

-- the parsed request of a body whose header names an operation, by the event or the status of what follows
pub asks_answered : (decoder : DecoderState) (document : List ℕ) (header : Header) (asked : Operation) (event : Result Event Status) → header_of decoder.head ≡ Some header → operation_of header ≡ Ok asked → RequestsOf asked decoder document event → AsksOf decoder document (answered header.request_id event)
asks_answered decoder document header asked event named known requests =
    asks_under decoder document header (answered header.request_id event) named (asks_by decoder document header asked (answered header.request_id event) known (asks_event decoder document asked header.request_id event requests))
