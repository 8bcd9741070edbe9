-- The request that the head asks for, or why it is refused: the first of these checks that fails decides.
use Rattle.std.specs.Prelude.{ℕ, ◌≡◌, ◌==◌, ◌≤◌, ◌&&◌, ◌||◌, ◌⊎◌, not, nat_lt, nat_le, Bool, true, false, if◌then◌else◌, List, [], length, map, codes, Option, Some, None, Result, Ok, Err}
use Rattle.std.specs.Option.{option_map_or}
use Rattle.std.specs.Str.{bytes_eq}
use Rattle.httparse.specs.Grammar.{RequestHead, ReadsRequest}
use Rattle.httparse.specs.Spans.{name_and_value}
use Rattle.base_types.specs.declared.limits.TheConstants.Limits.{HTTP_BODY_BYTES, HTTP_FIELDS}
use Rattle.http_front.specs.declared.refusal.HttpRejection.{HttpRejection}
use Rattle.http_front.specs.declared.refusal.HttpRejection.TheVariants.{BadRequest, MethodNotAllowed, ContentTooLarge, UnsupportedMediaType, ExpectationFailed, NotImplemented}
use Rattle.http_front.specs.declared.awaited.Request.{Request}
use Rattle.http_front.specs.declared.awaited.Framing.{Framing}
use Rattle.http_front.specs.declared.awaited.Framing.TheVariants.{Length, Chunked}
use Rattle.text.specs.Trimmed.{without_parameters}
use Rattle.http_front.specs.Words.{is_word, length_in}
use Rattle.http_front.specs.Fields.{Fields, count_of, first_of, all_have, any_lists}

-- exactly one Transfer-Encoding field, and the coding is chunked (RFC 9112, section 6.1)
abbrev pub is_chunked : Fields → Bool
is_chunked fields =
    (count_of (codes "transfer-encoding") fields == 1)
    && option_map_or (λ value. is_word value (codes "chunked")) (first_of (codes "transfer-encoding") fields) false

-- the framing by a transfer coding: HTTP/1.0 has no transfer coding, and a message with a transfer coding has no length
abbrev pub coded : ℕ → Fields → Result Framing HttpRejection
coded minor fields =
    if (minor == 0) || nat_lt 0 (count_of (codes "content-length") fields) then Err BadRequest
    else if is_chunked fields then Ok Chunked
    else Err NotImplemented

abbrev pub within_limit : Option ℕ → Result Framing HttpRejection
within_limit None = Err BadRequest
within_limit (Some count) = if nat_le count HTTP_BODY_BYTES then Ok (Length count) else Err ContentTooLarge

-- the framing by the length that all Content-Length fields agree on (RFC 9112, section 6.3); without such a field there is no body
abbrev pub counted : Fields → Option (List ℕ) → Result Framing HttpRejection
counted fields None = Ok (Length 0)
counted fields (Some value) = if all_have (codes "content-length") value fields then within_limit (length_in value) else Err BadRequest

abbrev pub framing_of : ℕ → Fields → Result Framing HttpRejection
framing_of minor fields =
    if nat_lt 0 (count_of (codes "transfer-encoding") fields) then coded minor fields
    else counted fields (first_of (codes "content-length") fields)

-- the body is IPP, by the first Content-Type field (RFC 8010, section 4)
abbrev pub is_ipp : Fields → Bool
is_ipp fields = option_map_or (λ value. is_word (without_parameters value) (codes "application/ipp")) (first_of (codes "content-type") fields) false

-- the body isn't compressed, by the first Content-Encoding field
abbrev pub is_plain : Fields → Bool
is_plain fields = option_map_or (λ value. is_word value (codes "identity")) (first_of (codes "content-encoding") fields) true

abbrev pub is_plain_ipp : Fields → Bool
is_plain_ipp fields = is_ipp fields && is_plain fields

-- whether the connection closes after the reply (RFC 9112, section 9.3)
abbrev pub closes_after : ℕ → Fields → Bool
closes_after minor fields = (minor == 0) || any_lists (codes "connection") (codes "close") fields

abbrev pub is_empty : Framing → Bool
is_empty (Length count) = count == 0
is_empty Chunked = false

-- the only expectation of RFC 9110, section 10.1.1, is 100-continue: an HTTP/1.1 client waits for an invitation before it sends a body
abbrev pub expecting : ℕ → Fields → Framing → Option (List ℕ) → Result Request HttpRejection
expecting minor fields framing None = Ok (record { framing = framing; invites = false; closes = closes_after minor fields })
expecting minor fields framing (Some value) =
    if is_word value (codes "100-continue")
    then Ok (record { framing = framing; invites = (minor == 1) && not (is_empty framing); closes = closes_after minor fields })
    else Err ExpectationFailed

abbrev pub framed : ℕ → Fields → Result Framing HttpRejection → Result Request HttpRejection
framed minor fields (Err refusal) = Err refusal
framed minor fields (Ok framing) =
    if is_plain_ipp fields then expecting minor fields framing (first_of (codes "expect") fields) else Err UnsupportedMediaType

-- the request of a head with a method, a minor version and fields
abbrev pub judged : List ℕ → ℕ → Fields → Result Request HttpRejection
judged method minor fields =
    if (minor == 1) && not (count_of (codes "host") fields == 1) then Err BadRequest
    else if bytes_eq method (codes "POST") then framed minor fields (framing_of minor fields)
    else Err MethodNotAllowed

-- the bytes are one head of the grammar (RFC 9112, sections 2 to 5)
abbrev pub IsHead : List ℕ → RequestHead → Type 0
IsHead bytes head = ReadsRequest bytes head [] × (length head.fields ≤ HTTP_FIELDS)

-- the request of the bytes of a head; BadRequest where they aren't a head of the grammar
abbrev pub Asks : List ℕ → Result Request HttpRejection → Type 0
Asks bytes asked =
    ((head : RequestHead) × IsHead bytes head × (asked ≡ judged head.method head.minor (map name_and_value head.fields)))
    ⊎ (((head : RequestHead) → IsHead bytes head → ⊥) × (asked ≡ Err BadRequest))
