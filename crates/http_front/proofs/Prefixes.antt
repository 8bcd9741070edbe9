-- The result of one step of a reader, by the beginning of its bytes.
use Rattle.std.specs.Prelude.{ℕ, ◌≡◌, ◌+◌, ◌-◌, ◌<◌, ◌≤◌, ◌==◌, nat_le, Bool, true, false, List, [], ◌∷◌, ◌++◌, length, take, drop, Option, Some, None, Result, Ok, Err}
use Rattle.std.proofs.Common.{rules, arith, refl, subst, sym, ap}
use Rattle.std.proofs.lemmas.List.{length-drop}
use Rattle.std.proofs.lemmas.List.Quantifiers.{position-Some}
use Rattle.text.specs.FirstLine.{first_line_of}
use Rattle.text.specs.declared.line.FirstLine.TheVariants.{Whole, TooLong, Unfinished}
use Rattle.base_types.specs.declared.limits.TheConstants.Limits.{HTTP_HEAD_BYTES, HTTP_BODY_BYTES, HTTP_CHUNK_LINE_BYTES, HTTP_TRAILER_BYTES}
use Rattle.text.proofs.FirstLines.{whole_line}
use Rattle.http_front.specs.declared.refusal.HttpRejection.{HttpRejection}
use Rattle.http_front.specs.declared.refusal.HttpRejection.TheVariants.{BadRequest, ContentTooLarge, HeadTooLarge}
use Rattle.http_front.specs.declared.awaited.Request.{Request}
use Rattle.http_front.specs.declared.awaited.Framing.{Framing}
use Rattle.http_front.specs.declared.awaited.Framing.TheVariants.{Length, Chunked}
use Rattle.http_front.specs.declared.awaited.Awaited.{Awaited}
use Rattle.http_front.specs.declared.awaited.Awaited.TheVariants.{Head, Invitation, Body, Size, Trailer, Nothing}
use Rattle.http_front.specs.declared.awaited.Following.TheVariants.{Close, Chunk}
use Rattle.http_front.specs.declared.chunk.ChunkEnd.TheVariants as end
use Rattle.http_front.specs.declared.item.HttpItem.TheVariants as item
use Rattle.http_front.specs.declared.reader.Step.TheVariants as step
use Rattle.http_front.specs.Section.{section_in}
use Rattle.http_front.specs.Chunk.{IsSizeOf, chunk_end}
use Rattle.http_front.specs.Head.{Asks}
use Rattle.http_front.specs.Stream.{HttpElement, is_last, HasHead, Invites, EndsBody, IsRefused, Prefix, Goes, Waits, PrefixIs, AtHead, HeadIn, SizeIn, begun, body_by, after_head, after_body, begins_head, is_line_end, sized, chunk_prefix, trailer_prefix, HttpState, Advances, Steps, rank, work}
use Rattle.http_front.proofs.Steps.{advance}
use Rattle.http_front.proofs.Sections.{section_within, section_some}

-- the reader after this number of bytes
abbrev pub tail : HttpState → ℕ → Awaited → HttpState
tail old count next = record { part = []; rest = drop count old.rest; awaited = next }

goes : (old : HttpState) (awaited : Awaited) (parsed : List HttpElement) (count : ℕ) (next : Awaited) → old.awaited ≡ awaited → PrefixIs awaited old.rest (Goes parsed (drop count old.rest) next) → Advances old parsed (tail old count next)
goes old awaited parsed count next is prefix = advance old parsed (tail old count next) (subst (λ a. PrefixIs a old.rest (Goes parsed (drop count old.rest) next)) (sym is) prefix)

shorter : (bytes : List ℕ) (count : ℕ) → 0 < count → count ≤ length bytes → length (drop count bytes) < length bytes
shorter bytes count some within = omega (arith, some, within, length-drop count bytes)

-- a step that lowers only the rank
lower : (old : HttpState) (awaited : Awaited) (count : ℕ) (next : Awaited) → old.awaited ≡ awaited → rank next < rank awaited → work (tail old count next) < work old
lower old awaited count next is less =
    let was : rank old.awaited ≡ rank awaited = ap rank is in
    omega (arith, less, was, length-drop count old.rest)

-- a byte was read
lower_read : (old : HttpState) (count : ℕ) (next : Awaited) → 0 < count → count ≤ length old.rest → rank next < 4 → work (tail old count next) < work old
lower_read old count next some within less = omega (arith, some, within, less, length-drop count old.rest)

rank_small : (awaited : Awaited) → rank awaited < 4
rank_small Nothing = omega arith
rank_small Head = omega arith
rank_small (Body count next) = omega arith
rank_small (Size room closes) = omega arith
rank_small (Trailer closes) = omega arith
rank_small (Invitation framing closes) = omega arith

rank_body : (framing : Framing) (closes : Bool) → rank (body_by framing closes) < 3
rank_body (Length count) closes = omega arith
rank_body Chunked closes = omega arith

rank_after : (last : Bool) → rank (after_body last) < 2
rank_after true = omega arith
rank_after false = omega arith

pub rank_passed : (old new : HttpState) → length new.rest < length old.rest → work new < work old
rank_passed old new less = omega (arith, less, rank_small new.awaited)

waits : (old : HttpState) (awaited : Awaited) → old.awaited ≡ awaited → PrefixIs awaited old.rest Waits → Steps old step.Waits old
waits old awaited is prefix = (refl, subst (λ a. PrefixIs a old.rest Waits) (sym is) prefix)

-- a head

at_lines : (bytes : List ℕ) (prefix : Prefix) → begins_head bytes ≡ true → HeadIn bytes (section_in HTTP_HEAD_BYTES bytes) prefix → AtHead bytes prefix
at_lines [] prefix begins is = absurd (let no : false ≡ true = begins in (cc))
at_lines (byte ∷ bytes) prefix begins is =
    let plain : is_line_end byte ≡ false = grind (arith, begins) in
    rw plain is

blank_prefix : (bytes : List ℕ) → 0 < length bytes → begins_head bytes ≡ false → AtHead bytes (Goes [] (drop 1 bytes) Head)
blank_prefix [] some blank = absurd (omega (arith, some))
blank_prefix (byte ∷ bytes) some blank =
    let ends : is_line_end byte ≡ true = grind (arith, blank) in
    rw ends refl

pub passes_blank : (old : HttpState) → old.awaited ≡ Head → 0 < length old.rest → begins_head old.rest ≡ false → Steps old step.Passes (tail old 1 Head)
passes_blank old is some blank = (
  goes old Head [] 1 Head is (blank_prefix old.rest some blank),
  shorter old.rest 1 (omega arith) (omega (arith, some)),
)

pub waits_blank : (old : HttpState) → old.awaited ≡ Head → old.rest ≡ [] → Steps old step.Waits old
waits_blank old is none = waits old Head is (subst (λ bytes. AtHead bytes Waits) (sym none) refl)

pub waits_head : (old : HttpState) → old.awaited ≡ Head → begins_head old.rest ≡ true → section_in HTTP_HEAD_BYTES old.rest ≡ Unfinished → Steps old step.Waits old
waits_head old is begins lines = waits old Head is (at_lines old.rest Waits begins (subst (λ s. HeadIn old.rest s Waits) (sym lines) refl))

pub refuses_long : (old : HttpState) → old.awaited ≡ Head → begins_head old.rest ≡ true → section_in HTTP_HEAD_BYTES old.rest ≡ TooLong → Steps old (step.Gives (item.Refuse HeadTooLarge)) (tail old 0 Nothing)
refuses_long old is begins lines = (
  goes old Head (IsRefused HeadTooLarge ∷ []) 0 Nothing is
      (at_lines old.rest _ begins (subst (λ s. HeadIn old.rest s (Goes (IsRefused HeadTooLarge ∷ []) old.rest Nothing)) (sym lines) refl)),
  refl,
  lower old Head 0 Nothing is (omega arith),
)

head_whole : (bytes : List ℕ) (count : ℕ) (asked : Result Request HttpRejection) → begins_head bytes ≡ true → section_in HTTP_HEAD_BYTES bytes ≡ Whole count → Asks (take count bytes) asked → AtHead bytes (begun asked (drop count bytes))
head_whole bytes count asked begins lines asks =
    let head : HeadIn bytes (Whole count) (begun asked (drop count bytes)) = (asked, asks, refl) in
    at_lines bytes _ begins (subst (λ s. HeadIn bytes s (begun asked (drop count bytes))) (sym lines) head)

pub refuses_head : (old : HttpState) (count : ℕ) (refusal : HttpRejection) → old.awaited ≡ Head → begins_head old.rest ≡ true → section_in HTTP_HEAD_BYTES old.rest ≡ Whole count → Asks (take count old.rest) (Err refusal) → Steps old (step.Gives (item.Refuse refusal)) (tail old count Nothing)
refuses_head old count refusal is begins lines asks = (
  goes old Head (IsRefused refusal ∷ []) count Nothing is (head_whole old.rest count (Err refusal) begins lines asks),
  refl,
  lower old Head count Nothing is (omega arith),
)

pub takes_head : (old : HttpState) (count : ℕ) (request : Request) → old.awaited ≡ Head → begins_head old.rest ≡ true → section_in HTTP_HEAD_BYTES old.rest ≡ Whole count → Asks (take count old.rest) (Ok request) → Steps old (step.Gives (item.Head request.closes)) (tail old count (after_head request))
takes_head old count request is begins lines asks = (
  goes old Head (HasHead request.closes ∷ []) count (after_head request) is (head_whole old.rest count (Ok request) begins lines asks),
  tt,
  lower_read old count (after_head request) (section_some HTTP_HEAD_BYTES old.rest count lines) (section_within HTTP_HEAD_BYTES old.rest count lines) (rank_small (after_head request)),
)

-- the client is invited to go on (100 Continue)
pub invites : (old : HttpState) (framing : Framing) (closes : Bool) → old.awaited ≡ Invitation framing closes → Steps old (step.Gives item.Continue) (tail old 0 (body_by framing closes))
invites old framing closes is = (
  goes old (Invitation framing closes) (Invites ∷ []) 0 (body_by framing closes) is refl,
  tt,
  lower old (Invitation framing closes) 0 (body_by framing closes) is (rank_body framing closes),
)

-- the line before a chunk

pub size_within : (bytes : List ℕ) (count : ℕ) → first_line_of HTTP_CHUNK_LINE_BYTES bytes ≡ Whole count → count < length bytes
size_within bytes count line =
    let at = whole_line HTTP_CHUNK_LINE_BYTES bytes count line in
    search (rules, position-Some (λ byte. byte == 10) bytes count 0 at.0)

size_prefix : (bytes : List ℕ) (count room : ℕ) (closes : Bool) (size : Option ℕ) → first_line_of HTTP_CHUNK_LINE_BYTES bytes ≡ Whole count → IsSizeOf (take (count + 1) bytes) size → PrefixIs (Size room closes) bytes (sized size room closes (drop (count + 1) bytes))
size_prefix bytes count room closes size line tells =
    let whole : SizeIn bytes room closes (Whole count) (sized size room closes (drop (count + 1) bytes)) = (size, tells, refl) in
    subst (λ l. SizeIn bytes room closes l (sized size room closes (drop (count + 1) bytes))) (sym line) whole

pub waits_size : (old : HttpState) (room : ℕ) (closes : Bool) → old.awaited ≡ Size room closes → first_line_of HTTP_CHUNK_LINE_BYTES old.rest ≡ Unfinished → Steps old step.Waits old
waits_size old room closes is line = waits old (Size room closes) is (subst (λ l. SizeIn old.rest room closes l Waits) (sym line) refl)

pub refuses_long_size : (old : HttpState) (room : ℕ) (closes : Bool) → old.awaited ≡ Size room closes → first_line_of HTTP_CHUNK_LINE_BYTES old.rest ≡ TooLong → Steps old (step.Gives (item.Refuse BadRequest)) (tail old 0 Nothing)
refuses_long_size old room closes is line = (
  goes old (Size room closes) (IsRefused BadRequest ∷ []) 0 Nothing is
      (subst (λ l. SizeIn old.rest room closes l (Goes (IsRefused BadRequest ∷ []) old.rest Nothing)) (sym line) refl),
  refl,
  lower old (Size room closes) 0 Nothing is (omega arith),
)

-- which prefix a size makes
sized_as : (old : HttpState) (count room : ℕ) (closes : Bool) (size : Option ℕ) (parsed : List HttpElement) (next : Awaited) → old.awaited ≡ Size room closes → first_line_of HTTP_CHUNK_LINE_BYTES old.rest ≡ Whole count → IsSizeOf (take (count + 1) old.rest) size → ((rest : List ℕ) → sized size room closes rest ≡ Goes parsed rest next) → Advances old parsed (tail old (count + 1) next)
sized_as old count room closes size parsed next is line tells same =
    goes old (Size room closes) parsed (count + 1) next is
    (subst (λ prefix. PrefixIs (Size room closes) old.rest prefix) (same (drop (count + 1) old.rest)) (size_prefix old.rest count room closes size line tells))

pub refuses_size : (old : HttpState) (count room : ℕ) (closes : Bool) → old.awaited ≡ Size room closes → first_line_of HTTP_CHUNK_LINE_BYTES old.rest ≡ Whole count → IsSizeOf (take (count + 1) old.rest) None → Steps old (step.Gives (item.Refuse BadRequest)) (tail old (count + 1) Nothing)
refuses_size old count room closes is line tells = (
  sized_as old count room closes None _ Nothing is line tells (λ rest. refl),
  refl,
  lower old (Size room closes) (count + 1) Nothing is (omega arith),
)

pub last_size : (old : HttpState) (count room : ℕ) (closes : Bool) (size : ℕ) → old.awaited ≡ Size room closes → first_line_of HTTP_CHUNK_LINE_BYTES old.rest ≡ Whole count → IsSizeOf (take (count + 1) old.rest) (Some size) → size ≡ 0 → Steps old step.Passes (tail old (count + 1) (Trailer (is_last closes (HTTP_BODY_BYTES - room))))
last_size old count room closes size is line tells none =
    let test : (size == 0) ≡ true = rw none refl in (
      sized_as old count room closes (Some size) [] (Trailer (is_last closes (HTTP_BODY_BYTES - room))) is line tells (λ rest. rw test refl),
      shorter old.rest (count + 1) (omega arith) (omega (arith, size_within old.rest count line)),
    )

pub large_size : (old : HttpState) (count room : ℕ) (closes : Bool) (size : ℕ) → old.awaited ≡ Size room closes → first_line_of HTTP_CHUNK_LINE_BYTES old.rest ≡ Whole count → IsSizeOf (take (count + 1) old.rest) (Some size) → room < size → Steps old (step.Gives (item.Refuse ContentTooLarge)) (tail old (count + 1) Nothing)
large_size old count room closes size is line tells large =
    let test : (size == 0) ≡ false = grind (arith, large) in
    let over : nat_le size room ≡ false = grind (arith, large) in (
      sized_as old count room closes (Some size) _ Nothing is line tells (λ rest. rw (test, over) refl),
      refl,
      lower old (Size room closes) (count + 1) Nothing is (omega arith),
    )

pub some_size : (old : HttpState) (count room : ℕ) (closes : Bool) (size : ℕ) → old.awaited ≡ Size room closes → first_line_of HTTP_CHUNK_LINE_BYTES old.rest ≡ Whole count → IsSizeOf (take (count + 1) old.rest) (Some size) → 0 < size → size ≤ room → Steps old step.Passes (tail old (count + 1) (Body size (Chunk (room - size) closes)))
some_size old count room closes size is line tells some fits =
    let test : (size == 0) ≡ false = grind (arith, some) in
    let within : nat_le size room ≡ true = grind (arith, fits) in (
      sized_as old count room closes (Some size) [] (Body size (Chunk (room - size) closes)) is line tells (λ rest. rw (test, within) refl),
      shorter old.rest (count + 1) (omega arith) (omega (arith, size_within old.rest count line)),
    )

-- the end of a chunk

broken_one : (first : ℕ) (coming : List ℕ) → chunk_end (first ∷ []) ≡ end.Broken → chunk_end (first ∷ coming) ≡ end.Broken
broken_one first [] is = is
broken_one first (second ∷ coming) is = grind (arith, is)

pub broken_grown : (bytes coming : List ℕ) → chunk_end bytes ≡ end.Broken → chunk_end (bytes ++ coming) ≡ end.Broken
broken_grown [] coming is = absurd (let no : end.Unfinished ≡ end.Broken = is in (cc))
broken_grown (first ∷ []) coming is = broken_one first coming is
broken_grown (first ∷ second ∷ bytes) coming is = is

whole_one : (first : ℕ) → chunk_end (first ∷ []) ≡ end.Whole → ⊥
whole_one first is = grind (arith, is)

pub whole_grown : (bytes coming : List ℕ) → chunk_end bytes ≡ end.Whole → (chunk_end (bytes ++ coming) ≡ end.Whole) × (2 ≤ length bytes)
whole_grown [] coming is = absurd (let no : end.Unfinished ≡ end.Whole = is in (cc))
whole_grown (first ∷ []) coming is = absurd (whole_one first is)
whole_grown (first ∷ second ∷ bytes) coming is = (is, omega arith)

pub chunk_within : (bytes : List ℕ) → chunk_end bytes ≡ end.Whole → 2 ≤ length bytes
chunk_within bytes is = (whole_grown bytes [] is).1

pub waits_chunk : (old : HttpState) (room : ℕ) (closes : Bool) → old.awaited ≡ Body 0 (Chunk room closes) → chunk_end old.rest ≡ end.Unfinished → Steps old step.Waits old
waits_chunk old room closes is at = waits old (Body 0 (Chunk room closes)) is (ap (λ e. chunk_prefix room closes old.rest e) (sym at))

pub breaks_chunk : (old : HttpState) (room : ℕ) (closes : Bool) → old.awaited ≡ Body 0 (Chunk room closes) → chunk_end old.rest ≡ end.Broken → Steps old (step.Gives (item.Refuse BadRequest)) (tail old 0 Nothing)
breaks_chunk old room closes is at = (
  goes old (Body 0 (Chunk room closes)) (IsRefused BadRequest ∷ []) 0 Nothing is
      (ap (λ e. chunk_prefix room closes old.rest e) (sym at)),
  refl,
  lower old (Body 0 (Chunk room closes)) 0 Nothing is (omega arith),
)

pub ends_chunk : (old : HttpState) (room : ℕ) (closes : Bool) → old.awaited ≡ Body 0 (Chunk room closes) → chunk_end old.rest ≡ end.Whole → Steps old step.Passes (tail old 2 (Size room closes))
ends_chunk old room closes is at =
    let within = chunk_within old.rest at in (
      goes old (Body 0 (Chunk room closes)) [] 2 (Size room closes) is
          (ap (λ e. chunk_prefix room closes old.rest e) (sym at)),
      shorter old.rest 2 (omega arith) within,
    )

pub ends_body : (old : HttpState) (last : Bool) → old.awaited ≡ Body 0 (Close last) → Steps old (step.Gives item.BodyEnd) (tail old 0 (after_body last))
ends_body old last is = (
  goes old (Body 0 (Close last)) (EndsBody ∷ []) 0 (after_body last) is refl,
  tt,
  lower old (Body 0 (Close last)) 0 (after_body last) is (rank_after last),
)

-- the trailer section

pub waits_trailer : (old : HttpState) (last : Bool) → old.awaited ≡ Trailer last → section_in HTTP_TRAILER_BYTES old.rest ≡ Unfinished → Steps old step.Waits old
waits_trailer old last is lines = waits old (Trailer last) is (ap (λ s. trailer_prefix last old.rest s) (sym lines))

pub refuses_trailer : (old : HttpState) (last : Bool) → old.awaited ≡ Trailer last → section_in HTTP_TRAILER_BYTES old.rest ≡ TooLong → Steps old (step.Gives (item.Refuse BadRequest)) (tail old 0 Nothing)
refuses_trailer old last is lines = (
  goes old (Trailer last) (IsRefused BadRequest ∷ []) 0 Nothing is
      (ap (λ s. trailer_prefix last old.rest s) (sym lines)),
  refl,
  lower old (Trailer last) 0 Nothing is (omega arith),
)

pub ends_trailer : (old : HttpState) (last : Bool) (count : ℕ) → old.awaited ≡ Trailer last → section_in HTTP_TRAILER_BYTES old.rest ≡ Whole count → Steps old (step.Gives item.BodyEnd) (tail old count (after_body last))
ends_trailer old last count is lines = (
  goes old (Trailer last) (EndsBody ∷ []) count (after_body last) is
      (ap (λ s. trailer_prefix last old.rest s) (sym lines)),
  tt,
  lower old (Trailer last) count (after_body last) is (rank_after last),
)
