-- Every stream has its exchanges: a reader takes a step at each place, until bytes are missing for one.
use Rattle.std.specs.Prelude.{ℕ, suc, zero, ◌≡◌, ◌+◌, ◌-◌, ◌<◌, ◌≤◌, ◌==◌, nat_le, Bool, true, false, List, [], ◌∷◌, ◌++◌, length, map, take, drop, Option, Some, None, Result, Ok, Err}
use Rattle.std.proofs.Common.{arith, refl, subst, sym, ap, inl, inr}
use Rattle.std.proofs.lemmas.Bool.Decides.{nat_tests}
use Rattle.std.proofs.lemmas.List.{append_assoc, append-nil}
use Rattle.httparse.specs.Grammar.{RequestHead, ReadsRequest, ChunkLine, ReadsChunkLine, chunk_size}
use Rattle.httparse.specs.Spans.{name_and_value}
use Rattle.httparse.specs.Pieces.{Begins, Then, RequestStart, Section, Chunk}
use Rattle.httparse.proofs.GrammarLemmas.{request_tree, request_head, request_pieces, request_from_pieces, request_unique}
use Rattle.httparse.proofs.ChunkLemmas.{chunk_line, chunk_pieces, chunk_from_pieces, chunk_line_unique}
use Rattle.text.specs.FirstLine.{first_line_of}
use Rattle.text.specs.declared.line.FirstLine.{FirstLine}
use Rattle.text.specs.declared.line.FirstLine.TheVariants as line
use Rattle.base_types.specs.declared.limits.TheConstants.Limits.{HTTP_HEAD_BYTES, HTTP_FIELDS, HTTP_BODY_BYTES, HTTP_CHUNK_LINE_BYTES, HTTP_TRAILER_BYTES}
use Rattle.http_front.specs.declared.refusal.HttpRejection.{HttpRejection}
use Rattle.http_front.specs.declared.refusal.HttpRejection.TheVariants.{BadRequest, ContentTooLarge, HeadTooLarge}
use Rattle.http_front.specs.declared.awaited.Request.{Request}
use Rattle.http_front.specs.declared.awaited.Awaited.{Awaited}
use Rattle.http_front.specs.declared.awaited.Awaited.TheVariants.{Head, Invitation, Body, Size, Trailer, Nothing}
use Rattle.http_front.specs.declared.awaited.Following.{Following}
use Rattle.http_front.specs.declared.awaited.Following.TheVariants.{Close, Chunk as ChunkOf}
use Rattle.http_front.specs.declared.chunk.ChunkEnd.{ChunkEnd}
use Rattle.http_front.specs.declared.chunk.ChunkEnd.TheVariants as end
use Rattle.http_front.specs.declared.item.HttpItem.TheVariants as item
use Rattle.http_front.specs.declared.reader.Step.{Step}
use Rattle.http_front.specs.declared.reader.Step.TheVariants as step
use Rattle.http_front.specs.Section.{section_in}
use Rattle.http_front.specs.Chunk.{IsSizeOf, chunk_end}
use Rattle.http_front.specs.Head.{Asks, judged}
use Rattle.http_front.specs.Stream.{HttpElement, Waits, PrefixIs, body_prefix, body_by, after_head, after_body, begins_head, is_last, elements_of, Exchanges, HttpState, HasRead, Steps, work}
use Rattle.http_front.proofs.Prefixes.{tail, rank_passed, waits_blank, passes_blank, waits_head, refuses_long, refuses_head, takes_head, invites, waits_size, refuses_long_size, refuses_size, last_size, large_size, some_size, waits_chunk, breaks_chunk, ends_chunk, ends_body, waits_trailer, refuses_trailer, ends_trailer}
use Rattle.http_front.proofs.Steps.{tells_all, lends, lends_less}
use Rattle.http_front.proofs.HeadsAreDecided.{Decided, request_decides, chunk_decides}

-- ---- the request of a head

asks_in : (bytes : List ℕ) (head : RequestHead) → ReadsRequest bytes head [] → (few : Bool) → nat_le (length head.fields) HTTP_FIELDS ≡ few → (asked : Result Request HttpRejection) × Asks bytes asked
asks_in bytes head reads true few = (judged head.method head.minor (map name_and_value head.fields), inl (head, (reads, grind (arith, few)), refl))
asks_in bytes head reads false few = (
  Err BadRequest,
  inr (
    λ other is.
        let same : length head.fields ≡ length other.fields = ap (λ (h : RequestHead). length h.fields) (request_unique bytes head other [] [] reads is.0).0 in
        let many : HTTP_FIELDS < length head.fields = grind (arith, few) in
        omega (arith, same, many, is.1),
    refl,
  ),
)

asks_of : (bytes : List ℕ) (head : RequestHead) (rest : List ℕ) → ReadsRequest bytes head rest → (asked : Result Request HttpRejection) × Asks bytes asked
asks_of bytes head [] reads = asks_in bytes head reads (nat_le (length head.fields) HTTP_FIELDS) refl
asks_of bytes head (byte ∷ rest) reads = (
  Err BadRequest,
  inr (
    λ other is.
        let more : byte ∷ rest ≡ [] = (request_unique bytes head other (byte ∷ rest) [] reads is.0).1 in
        absurd (cc more),
    refl,
  ),
)

asks_by : (bytes : List ℕ) → Decided (Begins (Then RequestStart Section) bytes) → (asked : Result Request HttpRejection) × Asks bytes asked
asks_by bytes (inl x) = asks_of bytes (request_head x.0) x.1 (request_from_pieces bytes x.0 x.1 x.2)
asks_by bytes (inr none) = (Err BadRequest, inr (λ head is. none (request_tree head, [], request_pieces bytes head [] is.0), refl))

asks_some : (bytes : List ℕ) → (asked : Result Request HttpRejection) × Asks bytes asked
asks_some bytes = asks_by bytes (request_decides bytes)

-- ---- the size that a line tells

size_of : (bytes : List ℕ) (l : ChunkLine) (rest : List ℕ) → ReadsChunkLine bytes l rest → (size : Option ℕ) × IsSizeOf bytes size
size_of bytes l [] reads = (Some (chunk_size l), (l, reads, refl))
size_of bytes l (byte ∷ rest) reads = (
  None,
  λ other whole.
      let more : byte ∷ rest ≡ [] = (chunk_line_unique bytes l other (byte ∷ rest) [] reads whole).1 in
      absurd (cc more),
)

size_by : (bytes : List ℕ) → Decided (Begins Chunk bytes) → (size : Option ℕ) × IsSizeOf bytes size
size_by bytes (inl x) = size_of bytes (chunk_line x.0) x.1 (chunk_from_pieces bytes x.0 x.1 x.2)
size_by bytes (inr none) = (None, λ l whole. none ((l.digits, (l.pad, l.extension)), [], chunk_pieces bytes l [] whole))

size_some : (bytes : List ℕ) → (size : Option ℕ) × IsSizeOf bytes size
size_some bytes = size_by bytes (chunk_decides bytes)

-- ---- a step, in each state of a reader

-- a step is taken, if only to wait
abbrev StepsSo : HttpState → Type 0
StepsSo old = (answer : Step) × (new : HttpState) × Steps old answer new

head_asks : (old : HttpState) (count : ℕ) (asked : Result Request HttpRejection) → old.awaited ≡ Head → begins_head old.rest ≡ true → section_in HTTP_HEAD_BYTES old.rest ≡ line.Whole count → Asks (take count old.rest) asked → StepsSo old
head_asks old count (Ok request) is begins lines asks = (step.Gives (item.Head request.closes), tail old count (after_head request), takes_head old count request is begins lines asks)
head_asks old count (Err refusal) is begins lines asks = (step.Gives (item.Refuse refusal), tail old count Nothing, refuses_head old count refusal is begins lines asks)

head_lines : (old : HttpState) (lines : FirstLine) → old.awaited ≡ Head → begins_head old.rest ≡ true → section_in HTTP_HEAD_BYTES old.rest ≡ lines → StepsSo old
head_lines old (line.Whole count) is begins lines = let asks = asks_some (take count old.rest) in head_asks old count asks.0 is begins lines asks.1
head_lines old line.TooLong is begins lines = (step.Gives (item.Refuse HeadTooLarge), tail old 0 Nothing, refuses_long old is begins lines)
head_lines old line.Unfinished is begins lines = (step.Waits, old, waits_head old is begins lines)

head_begins : (old : HttpState) (begins : Bool) → old.awaited ≡ Head → 0 < length old.rest → begins_head old.rest ≡ begins → StepsSo old
head_begins old true is some begins = head_lines old (section_in HTTP_HEAD_BYTES old.rest) is begins refl
head_begins old false is some blank = (step.Passes, tail old 1 Head, passes_blank old is some blank)

at_head : (old : HttpState) (rest : List ℕ) → old.awaited ≡ Head → old.rest ≡ rest → StepsSo old
at_head old [] is none = (step.Waits, old, waits_blank old is none)
at_head old (byte ∷ rest) is some =
    let long : length old.rest ≡ length (byte ∷ rest) = ap (λ (b : List ℕ). length b) some in
    head_begins old (begins_head old.rest) is (omega (arith, long)) refl

chunk_ends : (old : HttpState) (room : ℕ) (closes : Bool) (at : ChunkEnd) → old.awaited ≡ Body 0 (ChunkOf room closes) → chunk_end old.rest ≡ at → StepsSo old
chunk_ends old room closes end.Whole is at = (step.Passes, tail old 2 (Size room closes), ends_chunk old room closes is at)
chunk_ends old room closes end.Broken is at = (step.Gives (item.Refuse BadRequest), tail old 0 Nothing, breaks_chunk old room closes is at)
chunk_ends old room closes end.Unfinished is at = (step.Waits, old, waits_chunk old room closes is at)

at_following : (old : HttpState) (next : Following) → old.awaited ≡ Body 0 next → StepsSo old
at_following old (Close last) is = (step.Gives item.BodyEnd, tail old 0 (after_body last), ends_body old last is)
at_following old (ChunkOf room closes) is = chunk_ends old room closes (chunk_end old.rest) is refl

body_waits : (count : ℕ) (next : Following) (bytes : List ℕ) → bytes ≡ [] → Waits ≡ body_prefix (suc count) next bytes
body_waits count next bytes none =
    let some : (suc count == 0) ≡ false = grind (arith, nat_tests) in
    rw (none, some) refl

-- one byte at a time
at_body : (old : HttpState) (count : ℕ) (next : Following) (rest : List ℕ) → old.awaited ≡ Body (suc count) next → old.rest ≡ rest → StepsSo old
at_body old count next [] is none = (step.Waits, old, (refl, subst (λ (a : Awaited). PrefixIs a old.rest Waits) (sym is) (body_waits count next old.rest none)))
at_body old count next (byte ∷ rest) is some =
    let long : length old.rest ≡ length (byte ∷ rest) = ap (λ (b : List ℕ). length b) some in
    let within : 1 ≤ length old.rest = omega (arith, long) in (
      step.Gives item.BodyPart,
      record { part = take 1 old.rest; rest = drop 1 old.rest; awaited = Body (suc count - 1) next },
      (lends old (suc count) next 1 is within (omega arith), tt, lends_less old (suc count) next 1 (omega arith) within),
    )

size_fits : (old : HttpState) (count room : ℕ) (closes : Bool) (size : ℕ) → old.awaited ≡ Size room closes → first_line_of HTTP_CHUNK_LINE_BYTES old.rest ≡ line.Whole count → IsSizeOf (take (count + 1) old.rest) (Some size) → 0 < size → (fits : Bool) → nat_le size room ≡ fits → StepsSo old
size_fits old count room closes size is line tells some true fits = (step.Passes, tail old (count + 1) (Body size (ChunkOf (room - size) closes)), some_size old count room closes size is line tells some (grind (arith, fits)))
size_fits old count room closes size is line tells some false large = (step.Gives (item.Refuse ContentTooLarge), tail old (count + 1) Nothing, large_size old count room closes size is line tells (grind (arith, large)))

size_tells : (old : HttpState) (count room : ℕ) (closes : Bool) (size : Option ℕ) → old.awaited ≡ Size room closes → first_line_of HTTP_CHUNK_LINE_BYTES old.rest ≡ line.Whole count → IsSizeOf (take (count + 1) old.rest) size → StepsSo old
size_tells old count room closes None is line tells = (step.Gives (item.Refuse BadRequest), tail old (count + 1) Nothing, refuses_size old count room closes is line tells)
size_tells old count room closes (Some zero) is line tells = (step.Passes, tail old (count + 1) (Trailer (is_last closes (HTTP_BODY_BYTES - room))), last_size old count room closes 0 is line tells refl)
size_tells old count room closes (Some (suc size)) is line tells = size_fits old count room closes (suc size) is line tells (omega arith) (nat_le (suc size) room) refl

at_size : (old : HttpState) (room : ℕ) (closes : Bool) (prefix : FirstLine) → old.awaited ≡ Size room closes → first_line_of HTTP_CHUNK_LINE_BYTES old.rest ≡ prefix → StepsSo old
at_size old room closes (line.Whole count) is prefix = let size = size_some (take (count + 1) old.rest) in size_tells old count room closes size.0 is prefix size.1
at_size old room closes line.TooLong is prefix = (step.Gives (item.Refuse BadRequest), tail old 0 Nothing, refuses_long_size old room closes is prefix)
at_size old room closes line.Unfinished is prefix = (step.Waits, old, waits_size old room closes is prefix)

at_trailer : (old : HttpState) (last : Bool) (lines : FirstLine) → old.awaited ≡ Trailer last → section_in HTTP_TRAILER_BYTES old.rest ≡ lines → StepsSo old
at_trailer old last (line.Whole count) is lines = (step.Gives item.BodyEnd, tail old count (after_body last), ends_trailer old last count is lines)
at_trailer old last line.TooLong is lines = (step.Gives (item.Refuse BadRequest), tail old 0 Nothing, refuses_trailer old last is lines)
at_trailer old last line.Unfinished is lines = (step.Waits, old, waits_trailer old last is lines)

step_by : (old : HttpState) (awaited : Awaited) → old.awaited ≡ awaited → StepsSo old
step_by old Head is = at_head old old.rest is refl
step_by old (Invitation framing closes) is = (step.Gives item.Continue, tail old 0 (body_by framing closes), invites old framing closes is)
step_by old (Body zero next) is = at_following old next is
step_by old (Body (suc count) next) is = at_body old count next old.rest is refl
step_by old (Size room closes) is = at_size old room closes (first_line_of HTTP_CHUNK_LINE_BYTES old.rest) is refl
step_by old (Trailer last) is = at_trailer old last (section_in HTTP_TRAILER_BYTES old.rest) is refl
step_by old Nothing is = (step.Waits, old, (refl, subst (λ (a : Awaited). PrefixIs a old.rest Waits) (sym is) refl))

-- ---- one step after another

abbrev HasMore : List ℕ → List HttpElement → Type 0
HasMore stream given = (later : List HttpElement) × Exchanges stream (given ++ later)

parses_after : (stream : List ℕ) (given parsed : List HttpElement) → HasMore stream (given ++ parsed) → HasMore stream given
parses_after stream given parsed on = (parsed ++ on.0, subst (λ (s : List HttpElement). Exchanges stream s) (append_assoc given parsed on.0) on.1)

by_step : (old : HttpState) (stream : List ℕ) (given : List HttpElement) → HasRead stream given old → ((new : HttpState) (parsed : List HttpElement) → work new < work old → HasRead stream (given ++ parsed) new → HasMore stream (given ++ parsed)) → (answer : Step) (new : HttpState) → Steps old answer new → HasMore stream given
by_step old stream given reaches again (step.Gives it) new went =
    let parsed = elements_of it new.part in
    parses_after stream given parsed (again new parsed went.2 (went.0 stream given reaches))
by_step old stream given reaches again step.Passes new went = parses_after stream given [] (again new [] (rank_passed old new went.1) (went.0 stream given reaches))
by_step old stream given reaches again step.Waits new went = ([], subst (λ (s : List HttpElement). Exchanges stream s) (sym (append-nil given)) (tells_all old went.1 stream given reaches))

parses_in : (bound : ℕ) (old : HttpState) → work old < bound → (stream : List ℕ) (given : List HttpElement) → HasRead stream given old → HasMore stream given
parses_in zero old less stream given reaches = absurd (omega (arith, less))
parses_in (suc bound) old less stream given reaches =
    let it = step_by old old.awaited refl in
    by_step old stream given reaches (λ new parsed lower on. parses_in bound new (omega (arith, less, lower)) stream (given ++ parsed) on) it.0 it.1 it.2

pub gives_prefix : (stream : List ℕ) (given : List HttpElement) (reader : HttpState) → HasRead stream given reader → (later : List HttpElement) × Exchanges stream (given ++ later)
gives_prefix stream given reader reaches = parses_in (work reader + 1) reader (omega arith) stream given reaches

pub parses_some : (stream : List ℕ) → (parsed : List HttpElement) × Exchanges stream parsed
parses_some stream = gives_prefix stream [] (record { part = []; rest = stream; awaited = Head }) (record { left = stream; leads = (zero, (refl, refl, refl)); kept = inr refl })
