-- The exchanges in an HTTP client's stream of bytes (RFC 9112), in order, up to the last: one
-- that is refused, closes the connection or has too short a body. Each byte of a body is an element, so the parts in
-- which they come make no difference.
use Rattle.std.specs.Prelude.{ℕ, ◌≡◌, ◌==◌, ◌<◌, ◌≤◌, ◌+◌, ◌-◌, ◌*◌, ◌||◌, ◌⊎◌, nat_le, nat_lt, Bool, false, suc, zero, if◌then◌else◌, List, [], ◌∷◌, ◌++◌, map, take, drop, MatchBool, length, not, Option, Some, None, Result, Ok, Err, ⊤}
use Rattle.text.specs.FirstLine.{first_line_of}
use Rattle.text.specs.declared.line.FirstLine.{FirstLine}
use Rattle.text.specs.declared.line.FirstLine.TheVariants.{Whole, TooLong, Unfinished}
use Rattle.base_types.specs.declared.limits.TheConstants.Limits.{IPP_HEADER_BYTES, HTTP_HEAD_BYTES, HTTP_BODY_BYTES, HTTP_CHUNK_LINE_BYTES, HTTP_TRAILER_BYTES}
use Rattle.http_front.specs.declared.refusal.HttpRejection.{HttpRejection}
use Rattle.http_front.specs.declared.refusal.HttpRejection.TheVariants.{BadRequest, ContentTooLarge, HeadTooLarge}
use Rattle.http_front.specs.declared.item.HttpItem.{HttpItem}
use Rattle.http_front.specs.declared.item.HttpItem.TheVariants as item
use Rattle.http_front.specs.declared.awaited.Request.{Request}
use Rattle.http_front.specs.declared.awaited.Framing.{Framing}
use Rattle.http_front.specs.declared.awaited.Framing.TheVariants.{Length, Chunked}
use Rattle.http_front.specs.declared.awaited.Following.{Following}
use Rattle.http_front.specs.declared.awaited.Following.TheVariants.{Close, Chunk}
use Rattle.http_front.specs.declared.awaited.Awaited.{Awaited}
use Rattle.http_front.specs.declared.awaited.Awaited.TheVariants.{Head, Invitation, Body, Size, Trailer, Nothing}
use Rattle.http_front.specs.Section.{section_in}
use Rattle.http_front.specs.declared.chunk.ChunkEnd.{ChunkEnd}
use Rattle.http_front.specs.declared.chunk.ChunkEnd.TheVariants as end
use Rattle.http_front.specs.declared.reader.Step.{Step}
use Rattle.http_front.specs.declared.reader.Step.TheVariants as step
use Rattle.http_front.specs.Chunk.{IsSizeOf, chunk_end}
use Rattle.http_front.specs.Head.{Asks}

-- an element of a stream: a head, an invitation, a byte of a body, the end of a body, or a refusal
pub data HttpElement : Type 0 where
  HasHead : (closes : Bool) → HttpElement
  Invites : HttpElement
  HasByte : ℕ → HttpElement
  EndsBody : HttpElement
  IsRefused : HttpRejection → HttpElement

-- the elements of an item, with the part that the reader lends
abbrev pub elements_of : HttpItem → List ℕ → List HttpElement
elements_of (item.Head closes) part = HasHead closes ∷ []
elements_of item.Continue part = Invites ∷ []
elements_of item.BodyPart part = map HasByte part
elements_of item.BodyEnd part = EndsBody ∷ []
elements_of (item.Refuse refusal) part = IsRefused refusal ∷ []

-- a step at the beginning of the bytes: its elements, the bytes after it, and the part that is awaited next; or a wait for more bytes
pub data Prefix : Type 0 where
  Goes : (parsed : List HttpElement) (rest : List ℕ) (next : Awaited) → Prefix
  Waits : Prefix

abbrev pub refused : HttpRejection → List ℕ → Prefix
refused refusal rest = Goes (IsRefused refusal ∷ []) rest Nothing

-- the exchange closes the connection, or its body is too short for an IPP message: bytes after it are dropped
abbrev pub is_last : Bool → ℕ → Bool
is_last closes count = closes || nat_lt count IPP_HEADER_BYTES

abbrev pub body_by : Framing → Bool → Awaited
body_by (Length count) closes = Body count (Close (is_last closes count))
body_by Chunked closes = Size HTTP_BODY_BYTES closes

-- the bytes that are left of a body or of a chunk and come next
abbrev pub body_left : Awaited → ℕ
body_left (Body count following) = count
body_left Head = 0
body_left (Invitation framing closes) = 0
body_left (Size room closes) = 0
body_left (Trailer last) = 0
body_left Nothing = 0

-- the part that is awaited after `count` more bytes of a body or of a chunk
abbrev pub past_body : ℕ → Awaited → Awaited
past_body count (Body left following) = Body (left - count) following
past_body count Head = Head
past_body count (Invitation framing closes) = Invitation framing closes
past_body count (Size room closes) = Size room closes
past_body count (Trailer last) = Trailer last
past_body count Nothing = Nothing

abbrev pub after_head : Request → Awaited
after_head request = if request.invites then Invitation request.framing request.closes else body_by request.framing request.closes

abbrev pub begun : Result Request HttpRejection → List ℕ → Prefix
begun (Ok request) rest = Goes (HasHead request.closes ∷ []) rest (after_head request)
begun (Err refusal) rest = refused refusal rest

-- the part that is awaited after a body; after the last body nothing is awaited, and bytes are dropped
abbrev pub after_body : Bool → Awaited
after_body last = if last then Nothing else Head

-- the step for a head whose lines end at `count`, or don't end within the limit
abbrev pub HeadIn : List ℕ → FirstLine → Prefix → Type 0
HeadIn bytes (Whole count) prefix = (asked : Result Request HttpRejection) × Asks (take count bytes) asked × (prefix ≡ begun asked (drop count bytes))
HeadIn bytes TooLong prefix = prefix ≡ refused HeadTooLarge bytes
HeadIn bytes Unfinished prefix = prefix ≡ Waits

-- a byte of a line end; line ends before a head are dropped (RFC 9112, section 2.2)
abbrev pub is_line_end : ℕ → Bool
is_line_end byte = (byte == 13) || (byte == 10)

-- the first line of a head begins with the first byte
abbrev pub begins_head : List ℕ → Bool
begins_head [] = false
begins_head (byte ∷ bytes) = not (is_line_end byte)

abbrev pub AtHead : List ℕ → Prefix → Type 0
AtHead [] prefix = prefix ≡ Waits
AtHead (byte ∷ bytes) prefix =
    MatchBool (is_line_end byte) (prefix ≡ Goes [] bytes Head) (HeadIn (byte ∷ bytes) (section_in HTTP_HEAD_BYTES (byte ∷ bytes)) prefix)

abbrev pub chunk_prefix : ℕ → Bool → List ℕ → ChunkEnd → Prefix
chunk_prefix room closes bytes end.Whole = Goes [] (drop 2 bytes) (Size room closes)
chunk_prefix room closes bytes end.Broken = refused BadRequest bytes
chunk_prefix room closes bytes end.Unfinished = Waits

abbrev pub following : Following → List ℕ → Prefix
following (Close last) bytes = Goes (EndsBody ∷ []) bytes (after_body last)
following (Chunk room closes) bytes = chunk_prefix room closes bytes (chunk_end bytes)

abbrev pub byte_of : ℕ → Following → List ℕ → Prefix
byte_of count next [] = Waits
byte_of count next (byte ∷ bytes) = Goes (HasByte byte ∷ []) bytes (Body (count - 1) next)

-- the step at `count` bytes of a body, with what follows the body
abbrev pub body_prefix : ℕ → Following → List ℕ → Prefix
body_prefix count next bytes = if count == 0 then following next bytes else byte_of count next bytes

-- the step after the size of a chunk: the last chunk has size 0; the chunks together have at most `room` bytes
abbrev pub sized : Option ℕ → ℕ → Bool → List ℕ → Prefix
sized None room closes rest = refused BadRequest rest
sized (Some size) room closes rest =
    if size == 0 then Goes [] rest (Trailer (is_last closes (HTTP_BODY_BYTES - room)))
    else if nat_le size room then Goes [] rest (Body size (Chunk (room - size) closes))
    else refused ContentTooLarge rest

abbrev pub SizeIn : List ℕ → ℕ → Bool → FirstLine → Prefix → Type 0
SizeIn bytes room closes (Whole count) prefix = (size : Option ℕ) × IsSizeOf (take (count + 1) bytes) size × (prefix ≡ sized size room closes (drop (count + 1) bytes))
SizeIn bytes room closes TooLong prefix = prefix ≡ refused BadRequest bytes
SizeIn bytes room closes Unfinished prefix = prefix ≡ Waits

-- the step at a trailer section, whose fields are dropped (RFC 9112, section 7.1.2)
abbrev pub trailer_prefix : Bool → List ℕ → FirstLine → Prefix
trailer_prefix last bytes (Whole count) = Goes (EndsBody ∷ []) (drop count bytes) (after_body last)
trailer_prefix last bytes TooLong = refused BadRequest bytes
trailer_prefix last bytes Unfinished = Waits

-- the step at the beginning of the bytes, by the part that is awaited
abbrev pub PrefixIs : Awaited → List ℕ → Prefix → Type 0
PrefixIs Head bytes prefix = AtHead bytes prefix
PrefixIs (Invitation framing closes) bytes prefix = prefix ≡ Goes (Invites ∷ []) bytes (body_by framing closes)
PrefixIs (Body count next) bytes prefix = prefix ≡ body_prefix count next bytes
PrefixIs (Size room closes) bytes prefix = SizeIn bytes room closes (first_line_of HTTP_CHUNK_LINE_BYTES bytes) prefix
PrefixIs (Trailer last) bytes prefix = prefix ≡ trailer_prefix last bytes (section_in HTTP_TRAILER_BYTES bytes)
PrefixIs Nothing bytes prefix = prefix ≡ Waits

-- the bytes parse as these elements in `steps` steps, and then more bytes are awaited
abbrev pub ParsesIn : ℕ → Awaited → List ℕ → List HttpElement → Type 0
ParsesIn zero awaited bytes parsed = (parsed ≡ []) × PrefixIs awaited bytes Waits
ParsesIn (suc steps) awaited bytes parsed =
    (first : List HttpElement) × (rest : List ℕ) × (next : Awaited) × (later : List HttpElement)
    × PrefixIs awaited bytes (Goes first rest next) × (parsed ≡ first ++ later) × ParsesIn steps next rest later

abbrev pub Parses : Awaited → List ℕ → List HttpElement → Type 0
Parses awaited bytes parsed = (steps : ℕ) × ParsesIn steps awaited bytes parsed

-- the elements of a whole stream
abbrev pub Exchanges : List ℕ → List HttpElement → Type 0
Exchanges stream parsed = Parses Head stream parsed

-- two readings of one stream give the same elements
abbrev pub OneParse : Type 0
OneParse = (stream : List ℕ) (given parsed : List HttpElement) → Exchanges stream given → Exchanges stream parsed → given ≡ parsed

-- each stream has a reading
abbrev pub SomeParse : Type 0
SomeParse = (stream : List ℕ) → (parsed : List HttpElement) × Exchanges stream parsed

-- the elements of a stream are a prefix of the elements of the stream with more bytes after it
abbrev pub StaysInPrefix : Type 0
StaysInPrefix = (stream more : List ℕ) (given parsed : List HttpElement) → Exchanges stream given → Exchanges (stream ++ more) parsed → (later : List HttpElement) × (parsed ≡ given ++ later)

-- the bytes parse as these elements in `steps` steps, and lead to this awaited part with these bytes left
abbrev pub LeadsIn : ℕ → Awaited → List ℕ → List HttpElement → Awaited → List ℕ → Type 0
LeadsIn zero awaited bytes parsed next left = (parsed ≡ []) × (next ≡ awaited) × (left ≡ bytes)
LeadsIn (suc steps) awaited bytes parsed next left =
    (first : List HttpElement) × (rest : List ℕ) × (after : Awaited) × (later : List HttpElement)
    × PrefixIs awaited bytes (Goes first rest after) × (parsed ≡ first ++ later) × LeadsIn steps after rest later next left

abbrev pub Leads : Awaited → List ℕ → List HttpElement → Awaited → List ℕ → Type 0
Leads awaited bytes parsed next left = (steps : ℕ) × LeadsIn steps awaited bytes parsed next left

-- these are the first elements of the stream, whatever bytes follow
pub record ParsesFirst (stream : List ℕ) (parsed : List HttpElement) : Type 0 where
  pub next : Awaited
  pub left : List ℕ
  pub leads : Leads Head stream parsed next left

-- the first elements of a stream are a prefix of the elements of the stream with more bytes after it
abbrev pub FirstStays : Type 0
FirstStays = (stream more : List ℕ) (first parsed : List HttpElement) → ParsesFirst stream first → Exchanges (stream ++ more) parsed → (later : List HttpElement) × (parsed ≡ first ++ later)

-- two prefixes of the elements of a stream are equal if their lengths are equal
abbrev pub FirstIsOne : Type 0
FirstIsOne = (stream : List ℕ) (one other : List HttpElement) → ParsesFirst stream one → ParsesFirst stream other → length one ≡ length other → one ≡ other

-- the state of a reader: the part of a body that it lends, the bytes that aren't read, and the part that it awaits
pub record HttpState : Type 0 where
  pub part : List ℕ
  pub rest : List ℕ
  pub awaited : Awaited

-- a body, or a chunk, has so many bytes left
abbrev pub HasLeft : ℕ → Awaited → Type 0
HasLeft count (Body left following) = count ≤ left
HasLeft count Head = ⊥
HasLeft count (Invitation framing closes) = ⊥
HasLeft count (Size room closes) = ⊥
HasLeft count (Trailer last) = ⊥
HasLeft count Nothing = ⊥

-- the next so many bytes that the reader is fed are bytes of a body
abbrev pub AwaitsBody : ℕ → HttpState → Type 0
AwaitsBody count reader = (reader.rest ≡ []) × HasLeft count reader.awaited

-- the reader awaits nothing: it gives no more items, and drops the bytes that it is fed
abbrev pub IsOver : HttpState → Type 0
IsOver reader = reader.awaited ≡ Nothing

-- The reader was fed this stream and has given these elements. They are the first of the stream, and lead to the part that the reader awaits, with the bytes that the reader has left. A reader that awaits nothing may have dropped those bytes.
pub record HasRead (stream : List ℕ) (given : List HttpElement) (reader : HttpState) : Type 0 where
  pub left : List ℕ
  pub leads : Leads Head stream given reader.awaited left
  pub kept : IsOver reader ⊎ (left ≡ reader.rest)

-- the elements that a reader has given are a prefix of the elements of its stream
abbrev pub GivesThePrefix : Type 0
GivesThePrefix = (stream : List ℕ) (given : List HttpElement) (reader : HttpState) → HasRead stream given reader → (later : List HttpElement) × Exchanges stream (given ++ later)

-- the elements of a whole stream are those that a reader has given, and then those that the reader's state parses from its bytes and the bytes that follow
abbrev pub ParsesTheRest : Type 0
ParsesTheRest =
    (stream coming : List ℕ) (given parsed : List HttpElement) (reader : HttpState)
    → HasRead stream given reader → Parses reader.awaited (reader.rest ++ coming) parsed → Exchanges (stream ++ coming) (given ++ parsed)

-- the reader went from one state to another and gave these elements of its stream
abbrev pub Advances : HttpState → List HttpElement → HttpState → Type 0
Advances old parsed new = (stream : List ℕ) (given : List HttpElement) → HasRead stream given old → HasRead stream (given ++ parsed) new

-- after a refusal the reader awaits nothing
abbrev pub Stops : HttpItem → HttpState → Type 0
Stops (item.Refuse refusal) new = IsOver new
Stops parsed new = ⊤

-- an upper bound on the items that can come without reading a byte
abbrev pub rank : Awaited → ℕ
rank Nothing = 0
rank Head = 1
rank (Body count next) = 2
rank (Size room closes) = 2
rank (Trailer closes) = 2
rank (Invitation framing closes) = 3

-- a bound above the items that can come from the bytes that were fed
abbrev pub work : HttpState → ℕ
work reader = 4 * length reader.rest + rank reader.awaited

-- the result of one step of the reader: a step without an item passes over bytes without an element, or waits and changes nothing
abbrev pub Steps : HttpState → Step → HttpState → Type 0
Steps old (step.Gives parsed) new = Advances old (elements_of parsed new.part) new × Stops parsed new × (work new < work old)
Steps old step.Passes new = Advances old [] new × (length new.rest < length old.rest)
Steps old step.Waits new = (new ≡ old) × PrefixIs old.awaited old.rest Waits

-- the answer of a reader, and its state then: the next item of the stream; or no item, and then the stream contains no more
abbrev pub Answers : HttpState → Option HttpItem → HttpState → Type 0
Answers old (Some parsed) new = Advances old (elements_of parsed new.part) new × Stops parsed new
Answers old None new = Advances old [] new × ((stream : List ℕ) (given : List HttpElement) → HasRead stream given old → Exchanges stream given)
