-- The elements of a stream are in the order of exchanges.
use Rattle.std.specs.Prelude.{ℕ, suc, zero, ◌≡◌, ◌+◌, ◌-◌, ◌≤◌, ◌==◌, nat_le, if◌then◌else◌, Bool, true, false, MatchBool, List, [], ◌∷◌, ◌++◌, drop, Option, Some, None, Result, Ok, Err}
use Rattle.std.proofs.Common.{arith, refl, subst, sym, ap, ◌∙◌, zero-add}
use Rattle.text.specs.FirstLine.{first_line_of}
use Rattle.text.specs.declared.line.FirstLine.{FirstLine}
use Rattle.text.specs.declared.line.FirstLine.TheVariants.{Whole, TooLong, Unfinished}
use Rattle.base_types.specs.declared.limits.TheConstants.Limits.{HTTP_HEAD_BYTES, HTTP_BODY_BYTES, HTTP_CHUNK_LINE_BYTES, HTTP_TRAILER_BYTES}
use Rattle.http_front.specs.declared.refusal.HttpRejection.{HttpRejection}
use Rattle.http_front.specs.declared.refusal.HttpRejection.TheVariants.{BadRequest, ContentTooLarge, HeadTooLarge}
use Rattle.http_front.specs.declared.awaited.Request.{Request}
use Rattle.http_front.specs.declared.awaited.Framing.{Framing}
use Rattle.http_front.specs.declared.awaited.Framing.TheVariants.{Length, Chunked}
use Rattle.http_front.specs.declared.awaited.Awaited.{Awaited}
use Rattle.http_front.specs.declared.awaited.Awaited.TheVariants.{Head, Invitation, Body, Size, Trailer, Nothing}
use Rattle.http_front.specs.declared.awaited.Following.{Following}
use Rattle.http_front.specs.declared.awaited.Following.TheVariants.{Close, Chunk}
use Rattle.http_front.specs.declared.chunk.ChunkEnd.{ChunkEnd}
use Rattle.http_front.specs.declared.chunk.ChunkEnd.TheVariants as end
use Rattle.http_front.specs.Section.{section_in}
use Rattle.http_front.specs.Chunk.{chunk_end}
use Rattle.http_front.specs.Stream.{HttpElement, HasHead, Invites, HasByte, EndsBody, IsRefused, Prefix, Goes, Waits, PrefixIs, AtHead, HeadIn, SizeIn, begun, refused, sized, chunk_prefix, following, byte_of, trailer_prefix, is_line_end, is_last, after_head, after_body, body_by, ParsesIn}
use Rattle.http_front.specs.Order.{Place, Between, Headed, Within, in_order, is_none}
use Rattle.http_front.proofs.Laws.{goes_is}

-- the parts that may be awaited at a place

-- this number of bytes of a body were parsed, or will be parsed before `following` comes
abbrev BodyAllows : Bool → ℕ → Following → Type 0
BodyAllows closes total (Close last) = last ≡ is_last closes total
BodyAllows closes total (Chunk room also) = (also ≡ closes) × (total + room ≡ HTTP_BODY_BYTES)

abbrev Allows : Place → Awaited → Type 0
Allows place Nothing = Unit {0}
Allows Between Head = Unit {0}
Allows (Headed closes) (Invitation framing also) = also ≡ closes
Allows (Headed closes) (Body count after) = BodyAllows closes (0 + count) after
Allows (Headed closes) (Size room also) = (also ≡ closes) × (0 + room ≡ HTTP_BODY_BYTES)
Allows (Headed closes) (Trailer last) = last ≡ is_last closes 0
Allows (Within closes octets_read) (Body count after) = BodyAllows closes (octets_read + count) after
Allows (Within closes octets_read) (Size room also) = (also ≡ closes) × (octets_read + room ≡ HTTP_BODY_BYTES)
Allows (Within closes octets_read) (Trailer last) = last ≡ is_last closes octets_read
Allows place awaited = ⊥

-- the later elements are in order at each place that the awaited part allows
abbrev Later : Awaited → List HttpElement → Type 0
Later next later = ((place : Place) → Allows place next → in_order place later ≡ true) × (next ≡ Nothing → later ≡ [])

abbrev OrderOf : Place → Prefix → Type 0
OrderOf place prefix = (parsed : List HttpElement) (rest : List ℕ) (next : Awaited) → Goes parsed rest next ≡ prefix → (later : List HttpElement) → Later next later → in_order place (parsed ++ later) ≡ true

goes_order : (place : Place) (octets_read : List HttpElement) (left : List ℕ) (after : Awaited) → ((later : List HttpElement) → Later after later → in_order place (octets_read ++ later) ≡ true) → OrderOf place (Goes octets_read left after)
goes_order place octets_read left after holds parsed rest next is later ok =
    let parts = goes_is parsed octets_read rest left next after is in
    let there : Later after later = subst (λ n. Later n later) parts.2 ok in
    subst (λ s. in_order place (s ++ later) ≡ true) (sym parts.0) (holds later there)

waits_order : (place : Place) → OrderOf place Waits
waits_order place parsed rest next is later ok = absurd (let no : Goes parsed rest next ≡ Waits = is in (cc))

last_order : (place : Place) (refusal : HttpRejection) (later : List HttpElement) → later ≡ [] → in_order place (IsRefused refusal ∷ later) ≡ true
last_order Between refusal later is = rw is refl
last_order (Headed closes) refusal later is = rw is refl
last_order (Within closes octets_read) refusal later is = rw is refl

refused_order : (place : Place) (refusal : HttpRejection) (bytes : List ℕ) → OrderOf place (refused refusal bytes)
refused_order place refusal bytes = goes_order place (IsRefused refusal ∷ []) bytes Nothing (λ later ok. last_order place refusal later (ok.1 refl))

if_order : (place : Place) (t : Bool) (f g : Prefix) → (t ≡ true → OrderOf place f) → (t ≡ false → OrderOf place g) → OrderOf place (if t then f else g)
if_order place true f g first second = first refl
if_order place false f g first second = second refl

-- a head

allows_body_by : (framing : Framing) (closes : Bool) → Allows (Headed closes) (body_by framing closes) × Allows (Within closes 0) (body_by framing closes)
allows_body_by (Length count) closes = (ap (λ (n : ℕ). is_last closes n) (sym (zero-add count)), ap (λ (n : ℕ). is_last closes n) (sym (zero-add count)))
allows_body_by Chunked closes = ((refl, refl), (refl, refl))

allows_after : (invites : Bool) (framing : Framing) (closes : Bool) → Allows (Headed closes) (if invites then Invitation framing closes else body_by framing closes)
allows_after true framing closes = refl
allows_after false framing closes = (allows_body_by framing closes).0

begun_order : (asked : Result Request HttpRejection) (bytes : List ℕ) → OrderOf Between (begun asked bytes)
begun_order (Ok request) bytes = goes_order Between (HasHead request.closes ∷ []) bytes (after_head request) (λ later ok. ok.0 (Headed request.closes) (allows_after request.invites request.framing request.closes))
begun_order (Err refusal) bytes = refused_order Between refusal bytes

head_order : (bytes : List ℕ) (line : FirstLine) (parsed : List HttpElement) (rest : List ℕ) (next : Awaited) → HeadIn bytes line (Goes parsed rest next) → (later : List HttpElement) → Later next later → in_order Between (parsed ++ later) ≡ true
head_order bytes (Whole count) parsed rest next x later ok = begun_order x.0 (drop count bytes) parsed rest next x.2 later ok
head_order bytes TooLong parsed rest next x later ok = refused_order Between HeadTooLarge bytes parsed rest next x later ok
head_order bytes Unfinished parsed rest next x later ok = waits_order Between parsed rest next x later ok

by_case : (t : Bool) (P Q C : Type 0) → (P → C) → (Q → C) → MatchBool t P Q → C
by_case true P Q C p q x = p x
by_case false P Q C p q x = q x

at_head_order : (bytes : List ℕ) (parsed : List HttpElement) (rest : List ℕ) (next : Awaited) → AtHead bytes (Goes parsed rest next) → (later : List HttpElement) → Later next later → in_order Between (parsed ++ later) ≡ true
at_head_order [] parsed rest next x later ok = waits_order Between parsed rest next x later ok
at_head_order (byte ∷ bytes) parsed rest next x later ok =
    by_case (is_line_end byte) (Goes parsed rest next ≡ Goes [] bytes Head) (HeadIn (byte ∷ bytes) (section_in HTTP_HEAD_BYTES (byte ∷ bytes)) (Goes parsed rest next)) (in_order Between (parsed ++ later) ≡ true)
    (λ is. goes_order Between [] bytes Head (λ later ok. ok.0 Between tt) parsed rest next is later ok)
    (λ is. head_order (byte ∷ bytes) (section_in HTTP_HEAD_BYTES (byte ∷ bytes)) parsed rest next is later ok) x

-- a place within an exchange, of whose body `octets_read` bytes were given
record Inside (place : Place) (closes : Bool) (octets_read : ℕ) : Type 0 where
  allows : (awaited : Awaited) → Allows (Within closes octets_read) awaited → Allows place awaited
  ends : (later : List HttpElement) → (if is_last closes octets_read then is_none later else in_order Between later) ≡ true → in_order place (EndsBody ∷ later) ≡ true
  byte : (byte : ℕ) (later : List HttpElement) → in_order (Within closes (octets_read + 1)) later ≡ true → in_order place (HasByte byte ∷ later) ≡ true

headed_allows : (closes : Bool) (awaited : Awaited) → Allows (Within closes 0) awaited → Allows (Headed closes) awaited
headed_allows closes Head ok = absurd ok
headed_allows closes (Invitation framing also) ok = absurd ok
headed_allows closes (Body count after) ok = ok
headed_allows closes (Size room also) ok = ok
headed_allows closes (Trailer last) ok = ok
headed_allows closes Nothing ok = ok

headed : (closes : Bool) → Inside (Headed closes) closes 0
headed closes = record { allows = headed_allows closes; ends = λ later ok. ok; byte = λ byte later ok. ok }

within : (closes : Bool) (octets_read : ℕ) → Inside (Within closes octets_read) closes octets_read
within closes octets_read = record { allows = λ awaited ok. ok; ends = λ later ok. ok; byte = λ byte later ok. ok }

record At (place : Place) (awaited : Awaited) : Type 0 where
  closes : Bool
  octets_read : ℕ
  inside : Inside place closes octets_read
  allowed : Allows (Within closes octets_read) awaited

at_body : (place : Place) (count : ℕ) (after : Following) → Allows place (Body count after) → At place (Body count after)
at_body Between count after ok = absurd ok
at_body (Headed closes) count after ok = record { closes = closes; octets_read = 0; inside = headed closes; allowed = ok }
at_body (Within closes octets_read) count after ok = record { closes = closes; octets_read = octets_read; inside = within closes octets_read; allowed = ok }

at_size : (place : Place) (room : ℕ) (also : Bool) → Allows place (Size room also) → At place (Size room also)
at_size Between room also ok = absurd ok
at_size (Headed closes) room also ok = record { closes = closes; octets_read = 0; inside = headed closes; allowed = ok }
at_size (Within closes octets_read) room also ok = record { closes = closes; octets_read = octets_read; inside = within closes octets_read; allowed = ok }

at_trailer : (place : Place) (last : Bool) → Allows place (Trailer last) → At place (Trailer last)
at_trailer Between last ok = absurd ok
at_trailer (Headed closes) last ok = record { closes = closes; octets_read = 0; inside = headed closes; allowed = ok }
at_trailer (Within closes octets_read) last ok = record { closes = closes; octets_read = octets_read; inside = within closes octets_read; allowed = ok }

-- nothing follows the last exchange
after_order : (last : Bool) (later : List HttpElement) → Later (after_body last) later → (if last then is_none later else in_order Between later) ≡ true
after_order true later ok = rw (ok.1 refl) refl
after_order false later ok = ok.0 Between tt

ends_order : (place : Place) (closes : Bool) (octets_read : ℕ) → Inside place closes octets_read → (last : Bool) → last ≡ is_last closes octets_read → (bytes : List ℕ) → OrderOf place (Goes (EndsBody ∷ []) bytes (after_body last))
ends_order place closes octets_read inside last is bytes =
    goes_order place (EndsBody ∷ []) bytes (after_body last)
    (λ later ok. inside.ends later (subst (λ (b : Bool). (if b then is_none later else in_order Between later) ≡ true) is (after_order last later ok)))

chunk_order : (place : Place) (closes : Bool) (octets_read : ℕ) → Inside place closes octets_read → (bytes : List ℕ) (room : ℕ) (also : Bool) → (also ≡ closes) × (octets_read + room ≡ HTTP_BODY_BYTES) → (at : ChunkEnd) → OrderOf place (chunk_prefix room also bytes at)
chunk_order place closes octets_read inside bytes room also allowed end.Whole = goes_order place [] (drop 2 bytes) (Size room also) (λ later ok. ok.0 place (inside.allows (Size room also) allowed))
chunk_order place closes octets_read inside bytes room also allowed end.Broken = refused_order place BadRequest bytes
chunk_order place closes octets_read inside bytes room also allowed end.Unfinished = waits_order place

following_order : (place : Place) (closes : Bool) (octets_read : ℕ) → Inside place closes octets_read → (after : Following) → BodyAllows closes octets_read after → (bytes : List ℕ) → OrderOf place (following after bytes)
following_order place closes octets_read inside (Close last) allowed bytes = ends_order place closes octets_read inside last allowed bytes
following_order place closes octets_read inside (Chunk room also) allowed bytes = chunk_order place closes octets_read inside bytes room also allowed (chunk_end bytes)

one_parsed : (octets_read count : ℕ) → (count == 0) ≡ false → octets_read + count ≡ (octets_read + 1) + (count - 1)
one_parsed octets_read count some = grind (arith, some)

byte_order : (place : Place) (closes : Bool) (octets_read count : ℕ) → Inside place closes octets_read → (after : Following) → BodyAllows closes (octets_read + count) after → (count == 0) ≡ false → (bytes : List ℕ) → OrderOf place (byte_of count after bytes)
byte_order place closes octets_read count inside after allowed some [] = waits_order place
byte_order place closes octets_read count inside after allowed some (byte ∷ bytes) =
    let more : Allows (Within closes (octets_read + 1)) (Body (count - 1) after) = subst (λ (n : ℕ). BodyAllows closes n after) (one_parsed octets_read count some) allowed in
    goes_order place (HasByte byte ∷ []) bytes (Body (count - 1) after) (λ later ok. inside.byte byte later (ok.0 (Within closes (octets_read + 1)) more))

none_left : (octets_read count : ℕ) → (count == 0) ≡ true → octets_read + count ≡ octets_read
none_left octets_read count none = grind (arith, none)

body_order : (place : Place) (count : ℕ) (after : Following) → At place (Body count after) → (bytes : List ℕ) → OrderOf place (if count == 0 then following after bytes else byte_of count after bytes)
body_order place count after at bytes =
    if_order place (count == 0) _ _
    (λ none. following_order place at.closes at.octets_read at.inside after (subst (λ (n : ℕ). BodyAllows at.closes n after) (none_left at.octets_read count none) at.allowed) bytes)
    (λ some. byte_order place at.closes at.octets_read count at.inside after at.allowed some bytes)

-- the line before a chunk

parsed_is : (octets_read room most : ℕ) → octets_read + room ≡ most → most - room ≡ octets_read
parsed_is octets_read room most is = omega (arith, is)

room_left : (octets_read size room most : ℕ) → nat_le size room ≡ true → octets_read + room ≡ most → (octets_read + size) + (room - size) ≡ most
room_left octets_read size room most fits is =
    let within : size ≤ room = grind (arith, fits) in
    omega (arith, within, is)

sized_order : (place : Place) (room : ℕ) (also : Bool) → At place (Size room also) → (size : Option ℕ) (bytes : List ℕ) → OrderOf place (sized size room also bytes)
sized_order place room also at None bytes = refused_order place BadRequest bytes
sized_order place room also at (Some size) bytes =
    let all : is_last also (HTTP_BODY_BYTES - room) ≡ is_last at.closes at.octets_read = ap (λ (b : Bool). is_last b (HTTP_BODY_BYTES - room)) at.allowed.0 ∙ ap (λ (n : ℕ). is_last at.closes n) (parsed_is at.octets_read room HTTP_BODY_BYTES at.allowed.1) in
    if_order place (size == 0) _ _
    (λ none. goes_order place [] bytes (Trailer (is_last also (HTTP_BODY_BYTES - room))) (λ later ok. ok.0 place (at.inside.allows (Trailer (is_last also (HTTP_BODY_BYTES - room))) all)))
    (λ some. if_order place (nat_le size room) _ _
    (λ fits. goes_order place [] bytes (Body size (Chunk (room - size) also)) (λ later ok. ok.0 place (at.inside.allows (Body size (Chunk (room - size) also)) (at.allowed.0, room_left at.octets_read size room HTTP_BODY_BYTES fits at.allowed.1))))
    (λ large. refused_order place ContentTooLarge bytes))

size_order : (place : Place) (bytes : List ℕ) (room : ℕ) (also : Bool) → At place (Size room also) → (line : FirstLine) (parsed : List HttpElement) (rest : List ℕ) (next : Awaited) → SizeIn bytes room also line (Goes parsed rest next) → (later : List HttpElement) → Later next later → in_order place (parsed ++ later) ≡ true
size_order place bytes room also at (Whole count) parsed rest next x later ok = sized_order place room also at x.0 (drop (count + 1) bytes) parsed rest next x.2 later ok
size_order place bytes room also at TooLong parsed rest next x later ok = refused_order place BadRequest bytes parsed rest next x later ok
size_order place bytes room also at Unfinished parsed rest next x later ok = waits_order place parsed rest next x later ok

trailer_order : (place : Place) (last : Bool) → At place (Trailer last) → (bytes : List ℕ) (line : FirstLine) → OrderOf place (trailer_prefix last bytes line)
trailer_order place last at bytes (Whole count) = ends_order place at.closes at.octets_read at.inside last at.allowed (drop count bytes)
trailer_order place last at bytes TooLong = refused_order place BadRequest bytes
trailer_order place last at bytes Unfinished = waits_order place

-- any prefix

head_place : (place : Place) → Allows place Head → place ≡ Between
head_place Between ok = refl
head_place (Headed closes) ok = absurd ok
head_place (Within closes octets_read) ok = absurd ok

invited_order : (place : Place) (framing : Framing) (also : Bool) → Allows place (Invitation framing also) → (bytes : List ℕ) → OrderOf place (Goes (Invites ∷ []) bytes (body_by framing also))
invited_order Between framing also ok bytes = absurd ok
invited_order (Headed closes) framing also ok bytes =
    goes_order (Headed closes) (Invites ∷ []) bytes (body_by framing also)
    (λ later after. after.0 (Within closes 0) (subst (λ (b : Bool). Allows (Within b 0) (body_by framing also)) ok (allows_body_by framing also).1))
invited_order (Within closes octets_read) framing also ok bytes = absurd ok

prefix_order : (place : Place) (awaited : Awaited) (bytes : List ℕ) (parsed : List HttpElement) (rest : List ℕ) (next : Awaited) → Allows place awaited → PrefixIs awaited bytes (Goes parsed rest next) → (later : List HttpElement) → Later next later → in_order place (parsed ++ later) ≡ true
prefix_order place Head bytes parsed rest next allowed x later ok =
    subst (λ p. in_order p (parsed ++ later) ≡ true) (sym (head_place place allowed)) (at_head_order bytes parsed rest next x later ok)
prefix_order place (Invitation framing closes) bytes parsed rest next allowed x later ok = invited_order place framing closes allowed bytes parsed rest next x later ok
prefix_order place (Body count after) bytes parsed rest next allowed x later ok = body_order place count after (at_body place count after allowed) bytes parsed rest next x later ok
prefix_order place (Size room closes) bytes parsed rest next allowed x later ok =
    size_order place bytes room closes (at_size place room closes allowed) (first_line_of HTTP_CHUNK_LINE_BYTES bytes) parsed rest next x later ok
prefix_order place (Trailer last) bytes parsed rest next allowed x later ok =
    trailer_order place last (at_trailer place last allowed) bytes (section_in HTTP_TRAILER_BYTES bytes) parsed rest next x later ok
prefix_order place Nothing bytes parsed rest next allowed x later ok = waits_order place parsed rest next x later ok

nothing_parsed : (steps : ℕ) (bytes : List ℕ) (parsed : List HttpElement) → ParsesIn steps Nothing bytes parsed → parsed ≡ []
nothing_parsed zero bytes parsed x = x.0
nothing_parsed (suc steps) bytes parsed x = absurd (let no : Goes x.0 x.1 x.2 ≡ Waits = x.4 in (cc))

none_order : (place : Place) → in_order place [] ≡ true
none_order Between = refl
none_order (Headed closes) = refl
none_order (Within closes octets_read) = refl

pub order_in : (steps : ℕ) (place : Place) (awaited : Awaited) (bytes : List ℕ) (parsed : List HttpElement) → Allows place awaited → ParsesIn steps awaited bytes parsed → in_order place parsed ≡ true
order_in zero place awaited bytes parsed allowed x = rw x.0 (none_order place)
order_in (suc steps) place awaited bytes parsed allowed x =
    let ok : Later x.2 x.3 = (λ p allowed. order_in steps p x.2 x.1 x.3 allowed x.6, λ over. nothing_parsed steps x.1 x.3 (subst (λ a. ParsesIn steps a x.1 x.3) over x.6)) in
    subst (λ s. in_order place s ≡ true) (sym x.5) (prefix_order place awaited bytes x.0 x.1 x.2 allowed x.4 x.3 ok)
