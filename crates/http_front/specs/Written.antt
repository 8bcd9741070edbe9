-- A request as its client writes it: a head, and a body of a length or in chunks (RFC 9112, sections 6.2 and 7.1). The laws here connect the written request to the elements of its stream.
use Rattle.std.specs.Prelude.{ℕ, ◌≡◌, ◌+◌, ◌-◌, ◌<◌, ◌≤◌, true, if◌then◌else◌, List, [], ◌∷◌, ◌++◌, length, map, Some, Ok}
use Rattle.std.specs.List.{flat_map}
use Rattle.base_types.specs.declared.limits.TheConstants.Limits.{HTTP_HEAD_BYTES, HTTP_BODY_BYTES, HTTP_CHUNK_LINE_BYTES, HTTP_TRAILER_BYTES}
use Rattle.text.specs.FirstLine.{first_line_of}
use Rattle.text.specs.declared.line.FirstLine.TheVariants.{Whole}
use Rattle.http_front.specs.declared.awaited.Request.{Request}
use Rattle.http_front.specs.declared.awaited.Framing.TheVariants.{Length, Chunked}
use Rattle.http_front.specs.Chunk.{IsSizeOf}
use Rattle.http_front.specs.Head.{Asks}
use Rattle.http_front.specs.Section.{section_in}
use Rattle.http_front.specs.Stream.{HttpElement, HasHead, Invites, HasByte, EndsBody, begins_head, is_last, after_body, Parses, Exchanges}

-- a whole head of a request
pub record IsHead (head : List ℕ) (request : Request) : Type 0 where
  pub begins : begins_head head ≡ true
  pub whole : section_in HTTP_HEAD_BYTES head ≡ Whole (length head)
  pub asks : Asks head (Ok request)

-- the elements of the stream of a request: its head, the invitation that the client awaits, its body, and its end
abbrev pub elements_of_request : Request → List ℕ → List HttpElement
elements_of_request request body = HasHead request.closes ∷ ((if request.invites then Invites ∷ [] else []) ++ (map HasByte body ++ EndsBody ∷ []))

-- a line with a chunk's size, with its extensions
pub record IsSizeLine (line : List ℕ) (size : ℕ) : Type 0 where
  pub place : ℕ
  pub whole : first_line_of HTTP_CHUNK_LINE_BYTES line ≡ Whole place
  pub ends : length line ≡ place + 1
  pub is : IsSizeOf line (Some size)

-- bytes of a body, after a line with their count
pub record WrittenChunk : Type 0 where
  pub line : List ℕ
  pub octets : List ℕ

abbrev pub chunk_bytes : WrittenChunk → List ℕ
chunk_bytes chunk = chunk.line ++ (chunk.octets ++ 13 ∷ 10 ∷ [])

-- chunks that aren't empty and have at most `room` bytes together
abbrev pub AreChunks : ℕ → List WrittenChunk → Type 0
AreChunks room [] = Unit {0}
AreChunks room (chunk ∷ chunks) = IsSizeLine chunk.line (length chunk.octets) × (0 < length chunk.octets) × (length chunk.octets ≤ room) × AreChunks (room - length chunk.octets) chunks

abbrev pub octets_of : List WrittenChunk → List ℕ
octets_of chunks = flat_map (λ (chunk : WrittenChunk). chunk.octets) chunks

-- the lines after the last chunk, up to and with the first empty line
abbrev pub IsTrailer : List ℕ → Type 0
IsTrailer trailer = section_in HTTP_TRAILER_BYTES trailer ≡ Whole (length trailer)

-- a stream that begins with a head with a length and a body of that length has the elements of that request, and then those of the remaining bytes
abbrev pub LengthParses : Type 0
LengthParses =
    (head body more : List ℕ) (request : Request) (later : List HttpElement) → IsHead head request → request.framing ≡ Length (length body)
    → Parses (after_body (is_last request.closes (length body))) more later → Exchanges (head ++ (body ++ more)) (elements_of_request request body ++ later)

-- a stream that begins with a body in chunks has the elements of the same request for every division into chunks, with extensions and a trailer
abbrev pub ChunksParse : Type 0
ChunksParse =
    (head : List ℕ) (chunks : List WrittenChunk) (last trailer more : List ℕ) (request : Request) (later : List HttpElement) → IsHead head request → request.framing ≡ Chunked → AreChunks HTTP_BODY_BYTES chunks
    → IsSizeLine last 0 → IsTrailer trailer → Parses (after_body (is_last request.closes (length (octets_of chunks)))) more later
    → Exchanges (head ++ (flat_map chunk_bytes chunks ++ (last ++ (trailer ++ more)))) (elements_of_request request (octets_of chunks) ++ later)
