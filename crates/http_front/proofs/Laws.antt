-- A stream has one reading, and its elements stay at the beginning if more bytes come.
use Rattle.std.specs.Prelude.{ℕ, suc, zero, ◌≡◌, ◌+◌, ◌==◌, ◌≤◌, nat_le, if◌then◌else◌, Bool, true, false, MatchBool, List, [], ◌∷◌, ◌++◌, length, map, take, drop, Option, Some, None, Result, Ok, Err}
use Rattle.std.proofs.Common.{arith, refl, subst, sym, ap, ◌∙◌, inl, inr}
use Rattle.std.proofs.lemmas.List.{append_assoc, length-append, take-append-le, drop-append-le}
use Rattle.httparse.specs.Grammar.{RequestHead, ChunkLine, chunk_size}
use Rattle.httparse.specs.Spans.{name_and_value}
use Rattle.httparse.proofs.GrammarLemmas.{request_unique}
use Rattle.httparse.proofs.ChunkLemmas.{chunk_line_unique}
use Rattle.text.specs.FirstLine.{first_line_of}
use Rattle.text.specs.declared.line.FirstLine.{FirstLine}
use Rattle.text.specs.declared.line.FirstLine.TheVariants.{Whole, TooLong, Unfinished}
use Rattle.base_types.specs.declared.limits.TheConstants.Limits.{HTTP_HEAD_BYTES, HTTP_CHUNK_LINE_BYTES, HTTP_TRAILER_BYTES}
use Rattle.text.proofs.FirstLines.{line_grown, too_long_grown}
use Rattle.http_front.specs.declared.refusal.HttpRejection.{HttpRejection}
use Rattle.http_front.specs.declared.awaited.Request.{Request}
use Rattle.http_front.specs.declared.awaited.Awaited.{Awaited}
use Rattle.http_front.specs.declared.awaited.Awaited.TheVariants.{Head, Invitation, Body, Size, Trailer, Nothing}
use Rattle.http_front.specs.declared.awaited.Following.{Following}
use Rattle.http_front.specs.declared.awaited.Following.TheVariants.{Close, Chunk}
use Rattle.http_front.specs.declared.chunk.ChunkEnd.{ChunkEnd}
use Rattle.http_front.specs.declared.chunk.ChunkEnd.TheVariants as end
use Rattle.http_front.specs.Section.{section_in}
use Rattle.http_front.specs.Chunk.{IsSizeOf, chunk_end}
use Rattle.http_front.specs.Head.{judged, Asks}
use Rattle.http_front.specs.Stream.{HttpElement, EndsBody, after_body, Prefix, Goes, Waits, PrefixIs, HeadIn, SizeIn, begun, sized, chunk_prefix, following, byte_of, trailer_prefix, is_line_end, ParsesIn, LeadsIn}
use Rattle.http_front.proofs.Sections.{section_whole, section_within, section_long}
use Rattle.http_front.proofs.Prefixes.{size_within, broken_grown, whole_grown}

-- one prefix

asks_one : (bytes : List ℕ) (x y : Result Request HttpRejection) → Asks bytes x → Asks bytes y → x ≡ y
asks_one bytes x y (inl a) (inl b) =
    let same = (request_unique bytes a.0 b.0 [] [] a.1.0 b.1.0).0 in
    a.2 ∙ ap (λ (h : RequestHead). judged h.method h.minor (map name_and_value h.fields)) same ∙ sym b.2
asks_one bytes x y (inl a) (inr b) = absurd (b.0 a.0 a.1)
asks_one bytes x y (inr a) (inl b) = absurd (a.0 b.0 b.1)
asks_one bytes x y (inr a) (inr b) = a.1 ∙ sym b.1

head_one : (bytes : List ℕ) (line : FirstLine) (a b : Prefix) → HeadIn bytes line a → HeadIn bytes line b → a ≡ b
head_one bytes (Whole count) a b x y = x.2 ∙ ap (λ asked. begun asked (drop count bytes)) (asks_one (take count bytes) x.0 y.0 x.1 y.1) ∙ sym y.2
head_one bytes TooLong a b x y = x ∙ sym y
head_one bytes Unfinished a b x y = x ∙ sym y

size_same : (bytes : List ℕ) (x y : Option ℕ) → IsSizeOf bytes x → IsSizeOf bytes y → x ≡ y
size_same bytes (Some m) (Some n) x y =
    let same = (chunk_line_unique bytes x.0 y.0 [] [] x.1 y.1).0 in
    ap (λ n. Some n) (x.2 ∙ ap (λ (l : ChunkLine). chunk_size l) same ∙ sym y.2)
size_same bytes (Some m) None x y = absurd (y x.0 x.1)
size_same bytes None (Some n) x y = absurd (x y.0 y.1)
size_same bytes None None x y = refl

size_one : (bytes : List ℕ) (room : ℕ) (closes : Bool) (line : FirstLine) (a b : Prefix) → SizeIn bytes room closes line a → SizeIn bytes room closes line b → a ≡ b
size_one bytes room closes (Whole count) a b x y = x.2 ∙ ap (λ size. sized size room closes (drop (count + 1) bytes)) (size_same (take (count + 1) bytes) x.0 y.0 x.1 y.1) ∙ sym y.2
size_one bytes room closes TooLong a b x y = x ∙ sym y
size_one bytes room closes Unfinished a b x y = x ∙ sym y

by_bool : (t : Bool) (P Q : Prefix → Type 0) → ((a b : Prefix) → P a → P b → a ≡ b) → ((a b : Prefix) → Q a → Q b → a ≡ b) → (a b : Prefix) → MatchBool t (P a) (Q a) → MatchBool t (P b) (Q b) → a ≡ b
by_bool true P Q p q a b x y = p a b x y
by_bool false P Q p q a b x y = q a b x y

prefix_one : (awaited : Awaited) (bytes : List ℕ) (a b : Prefix) → PrefixIs awaited bytes a → PrefixIs awaited bytes b → a ≡ b
prefix_one Head [] a b x y = x ∙ sym y
prefix_one Head (byte ∷ bytes) a b x y =
    by_bool (is_line_end byte) (λ f. f ≡ Goes [] bytes Head) (λ f. HeadIn (byte ∷ bytes) (section_in HTTP_HEAD_BYTES (byte ∷ bytes)) f)
    (λ a b x y. x ∙ sym y) (λ a b x y. head_one (byte ∷ bytes) (section_in HTTP_HEAD_BYTES (byte ∷ bytes)) a b x y) a b x y
prefix_one (Invitation framing closes) bytes a b x y = x ∙ sym y
prefix_one (Body count next) bytes a b x y = x ∙ sym y
prefix_one (Size room closes) bytes a b x y = size_one bytes room closes (first_line_of HTTP_CHUNK_LINE_BYTES bytes) a b x y
prefix_one (Trailer closes) bytes a b x y = x ∙ sym y
prefix_one Nothing bytes a b x y = x ∙ sym y

-- the prefix stays where more comes

pub goes_is : (parsed reparsed : List HttpElement) (rest left : List ℕ) (next after : Awaited) → Goes parsed rest next ≡ Goes reparsed left after → (parsed ≡ reparsed) × (rest ≡ left) × (next ≡ after)
goes_is parsed reparsed rest left next after same = ((cc), (cc), (cc))

abbrev MoreOf : List ℕ → Prefix → Prefix → Type 0
MoreOf more prefix grown = (parsed : List HttpElement) (rest : List ℕ) (next : Awaited) → Goes parsed rest next ≡ prefix → Goes parsed (rest ++ more) next ≡ grown

goes_more : (more : List ℕ) (reparsed : List HttpElement) (left : List ℕ) (after : Awaited) → MoreOf more (Goes reparsed left after) (Goes reparsed (left ++ more) after)
goes_more more reparsed left after parsed rest next is =
    let parts = goes_is parsed reparsed rest left next after is in
    rw (parts.0, parts.1, parts.2) refl

waits_more : (more : List ℕ) (grown : Prefix) → MoreOf more Waits grown
waits_more more grown parsed rest next is = absurd (let no : Goes parsed rest next ≡ Waits = is in (cc))

if_more : (more : List ℕ) (t : Bool) (f g grown late : Prefix) → MoreOf more f grown → MoreOf more g late → MoreOf more (if t then f else g) (if t then grown else late)
if_more more true f g grown late first second = first
if_more more false f g grown late first second = second

as_more : (more : List ℕ) (prefix grown same : Prefix) → MoreOf more prefix grown → grown ≡ same → MoreOf more prefix same
as_more more prefix grown same first is parsed rest next goes = first parsed rest next goes ∙ is

begun_more : (asked : Result Request HttpRejection) (bytes more : List ℕ) → MoreOf more (begun asked bytes) (begun asked (bytes ++ more))
begun_more (Ok request) bytes more = goes_more more _ bytes _
begun_more (Err refusal) bytes more = goes_more more _ bytes _

head_more : (bytes more : List ℕ) (line : FirstLine) (parsed : List HttpElement) (rest : List ℕ) (next : Awaited) → section_in HTTP_HEAD_BYTES bytes ≡ line → HeadIn bytes line (Goes parsed rest next) → HeadIn (bytes ++ more) (section_in HTTP_HEAD_BYTES (bytes ++ more)) (Goes parsed (rest ++ more) next)
head_more bytes more (Whole count) parsed rest next lines x =
    let within = section_within HTTP_HEAD_BYTES bytes count lines in
    let first : take count (bytes ++ more) ≡ take count bytes = take-append-le count bytes more within in
    let later : drop count (bytes ++ more) ≡ drop count bytes ++ more = drop-append-le count bytes more within in
    let head : HeadIn (bytes ++ more) (Whole count) (Goes parsed (rest ++ more) next) = (x.0, subst (λ b. Asks b x.0) (sym first) x.1, begun_more x.0 (drop count bytes) more parsed rest next x.2 ∙ ap (λ r. begun x.0 r) (sym later)) in
    subst (λ s. HeadIn (bytes ++ more) s (Goes parsed (rest ++ more) next)) (sym (section_whole HTTP_HEAD_BYTES bytes more count lines)) head
head_more bytes more TooLong parsed rest next lines x =
    subst (λ s. HeadIn (bytes ++ more) s (Goes parsed (rest ++ more) next)) (sym (section_long HTTP_HEAD_BYTES bytes more lines)) (goes_more more _ bytes _ parsed rest next x)
head_more bytes more Unfinished parsed rest next lines x = absurd (let no : Goes parsed rest next ≡ Waits = x in (cc))

sized_more : (size : Option ℕ) (room : ℕ) (closes : Bool) (bytes more : List ℕ) → MoreOf more (sized size room closes bytes) (sized size room closes (bytes ++ more))
sized_more None room closes bytes more = goes_more more _ bytes _
sized_more (Some size) room closes bytes more =
    if_more more (size == 0) _ _ _ _ (goes_more more _ bytes _) (if_more more (nat_le size room) _ _ _ _ (goes_more more _ bytes _) (goes_more more _ bytes _))

size_more : (bytes more : List ℕ) (room : ℕ) (closes : Bool) (line : FirstLine) (parsed : List HttpElement) (rest : List ℕ) (next : Awaited) → first_line_of HTTP_CHUNK_LINE_BYTES bytes ≡ line → SizeIn bytes room closes line (Goes parsed rest next) → SizeIn (bytes ++ more) room closes (first_line_of HTTP_CHUNK_LINE_BYTES (bytes ++ more)) (Goes parsed (rest ++ more) next)
size_more bytes more room closes (Whole count) parsed rest next line x =
    let inside = size_within bytes count line in
    let within : count + 1 ≤ length bytes = omega (arith, inside) in
    let first : take (count + 1) (bytes ++ more) ≡ take (count + 1) bytes = take-append-le (count + 1) bytes more within in
    let later : drop (count + 1) (bytes ++ more) ≡ drop (count + 1) bytes ++ more = drop-append-le (count + 1) bytes more within in
    let whole : SizeIn (bytes ++ more) room closes (Whole count) (Goes parsed (rest ++ more) next) = (x.0, subst (λ b. IsSizeOf b x.0) (sym first) x.1, sized_more x.0 room closes (drop (count + 1) bytes) more parsed rest next x.2 ∙ ap (λ r. sized x.0 room closes r) (sym later)) in
    subst (λ l. SizeIn (bytes ++ more) room closes l (Goes parsed (rest ++ more) next)) (sym (line_grown HTTP_CHUNK_LINE_BYTES bytes more count line)) whole
size_more bytes more room closes TooLong parsed rest next line x =
    subst (λ l. SizeIn (bytes ++ more) room closes l (Goes parsed (rest ++ more) next)) (sym (too_long_grown HTTP_CHUNK_LINE_BYTES bytes more line)) (goes_more more _ bytes _ parsed rest next x)
size_more bytes more room closes Unfinished parsed rest next line x = absurd (let no : Goes parsed rest next ≡ Waits = x in (cc))

chunk_more : (bytes more : List ℕ) (room : ℕ) (closes : Bool) (at : ChunkEnd) → chunk_end bytes ≡ at → MoreOf more (chunk_prefix room closes bytes at) (chunk_prefix room closes (bytes ++ more) (chunk_end (bytes ++ more)))
chunk_more bytes more room closes end.Whole is =
    let grown = whole_grown bytes more is in
    let later : drop 2 bytes ++ more ≡ drop 2 (bytes ++ more) = sym (drop-append-le 2 bytes more grown.1) in
    as_more more _ (Goes [] (drop 2 bytes ++ more) (Size room closes)) _ (goes_more more [] (drop 2 bytes) (Size room closes))
    (ap (λ r. Goes [] r (Size room closes)) later ∙ ap (λ e. chunk_prefix room closes (bytes ++ more) e) (sym grown.0))
chunk_more bytes more room closes end.Broken is =
    as_more more _ (chunk_prefix room closes (bytes ++ more) end.Broken) _ (goes_more more _ bytes _) (ap (λ e. chunk_prefix room closes (bytes ++ more) e) (sym (broken_grown bytes more is)))
chunk_more bytes more room closes end.Unfinished is = waits_more more _

following_more : (next : Following) (bytes more : List ℕ) → MoreOf more (following next bytes) (following next (bytes ++ more))
following_more (Close closes) bytes more = goes_more more _ bytes _
following_more (Chunk room closes) bytes more = chunk_more bytes more room closes (chunk_end bytes) refl

byte_more : (count : ℕ) (next : Following) (bytes more : List ℕ) → MoreOf more (byte_of count next bytes) (byte_of count next (bytes ++ more))
byte_more count next [] more = waits_more more _
byte_more count next (byte ∷ bytes) more = goes_more more _ bytes _

trailer_more : (bytes more : List ℕ) (closes : Bool) (line : FirstLine) → section_in HTTP_TRAILER_BYTES bytes ≡ line → MoreOf more (trailer_prefix closes bytes line) (trailer_prefix closes (bytes ++ more) (section_in HTTP_TRAILER_BYTES (bytes ++ more)))
trailer_more bytes more closes (Whole count) lines =
    let later : drop count bytes ++ more ≡ drop count (bytes ++ more) = sym (drop-append-le count bytes more (section_within HTTP_TRAILER_BYTES bytes count lines)) in
    as_more more _ (trailer_prefix closes (bytes ++ more) (Whole count)) _
    (as_more more _ _ _ (goes_more more (EndsBody ∷ []) (drop count bytes) (after_body closes)) (ap (λ r. Goes (EndsBody ∷ []) r (after_body closes)) later))
    (ap (λ s. trailer_prefix closes (bytes ++ more) s) (sym (section_whole HTTP_TRAILER_BYTES bytes more count lines)))
trailer_more bytes more closes TooLong lines =
    as_more more _ (trailer_prefix closes (bytes ++ more) TooLong) _ (goes_more more _ bytes _) (ap (λ s. trailer_prefix closes (bytes ++ more) s) (sym (section_long HTTP_TRAILER_BYTES bytes more lines)))
trailer_more bytes more closes Unfinished lines = waits_more more _

by_case : (t : Bool) (P Q P' Q' : Type 0) → (P → P') → (Q → Q') → MatchBool t P Q → MatchBool t P' Q'
by_case true P Q P' Q' p q x = p x
by_case false P Q P' Q' p q x = q x

prefix_more : (awaited : Awaited) (bytes more : List ℕ) (parsed : List HttpElement) (rest : List ℕ) (next : Awaited) → PrefixIs awaited bytes (Goes parsed rest next) → PrefixIs awaited (bytes ++ more) (Goes parsed (rest ++ more) next)
prefix_more Head [] more parsed rest next x = absurd (let no : Goes parsed rest next ≡ Waits = x in (cc))
prefix_more Head (byte ∷ bytes) more parsed rest next x =
    by_case (is_line_end byte) _ _ _ _ (goes_more more [] bytes Head parsed rest next) (head_more (byte ∷ bytes) more (section_in HTTP_HEAD_BYTES (byte ∷ bytes)) parsed rest next refl) x
prefix_more (Invitation framing closes) bytes more parsed rest next x = goes_more more _ bytes _ parsed rest next x
prefix_more (Body count after) bytes more parsed rest next x = if_more more (count == 0) _ _ _ _ (following_more after bytes more) (byte_more count after bytes more) parsed rest next x
prefix_more (Size room closes) bytes more parsed rest next x = size_more bytes more room closes (first_line_of HTTP_CHUNK_LINE_BYTES bytes) parsed rest next refl x
prefix_more (Trailer closes) bytes more parsed rest next x = trailer_more bytes more closes (section_in HTTP_TRAILER_BYTES bytes) refl parsed rest next x
prefix_more Nothing bytes more parsed rest next x = absurd (let no : Goes parsed rest next ≡ Waits = x in (cc))

-- whole streams

pub stays_in : (n m : ℕ) (awaited : Awaited) (bytes more : List ℕ) (given : List HttpElement) (next : Awaited) (left : List ℕ) (parsed : List HttpElement) → LeadsIn n awaited bytes given next left → ParsesIn m awaited (bytes ++ more) parsed → (later : List HttpElement) × (parsed ≡ given ++ later)
stays_in zero m awaited bytes more given next left parsed x y = (parsed, rw x.0 refl)
stays_in (suc n) zero awaited bytes more given next left parsed x y = absurd (
    let no : Goes x.0 (x.1 ++ more) x.2 ≡ Waits = prefix_one awaited (bytes ++ more) _ _ (prefix_more awaited bytes more x.0 x.1 x.2 x.4) y.1 in
    (cc)
    )
stays_in (suc n) (suc m) awaited bytes more given next left parsed x y =
    let same = goes_is _ _ _ _ _ _ (prefix_one awaited (bytes ++ more) (Goes x.0 (x.1 ++ more) x.2) (Goes y.0 y.1 y.2) (prefix_more awaited bytes more x.0 x.1 x.2 x.4) y.4) in
    let tail : ParsesIn m x.2 (x.1 ++ more) y.3 = subst (λ a. ParsesIn m a (x.1 ++ more) y.3) (sym same.2) (subst (λ b. ParsesIn m y.2 b y.3) (sym same.1) y.6) in
    let later = stays_in n m x.2 x.1 more x.3 next left y.3 x.6 tail in
    (later.0, y.5 ∙ ap (λ s. s ++ y.3) (sym same.0) ∙ ap (λ s. x.0 ++ s) later.1 ∙ sym (append_assoc x.0 x.3 later.0) ∙ ap (λ s. s ++ later.0) (sym x.5))

-- the elements of all of the bytes are parsed first
pub parsed_first : (n : ℕ) (awaited : Awaited) (bytes : List ℕ) (parsed : List HttpElement) → ParsesIn n awaited bytes parsed → (next : Awaited) × (left : List ℕ) × LeadsIn n awaited bytes parsed next left
parsed_first zero awaited bytes parsed x = (awaited, bytes, (x.0, refl, refl))
parsed_first (suc n) awaited bytes parsed x =
    let tail = parsed_first n x.2 x.1 x.3 x.6 in
    (tail.0, tail.1, (x.0, x.1, x.2, x.3, x.4, x.5, tail.2))

pub leads_more : (n : ℕ) (awaited : Awaited) (bytes more : List ℕ) (parsed : List HttpElement) (next : Awaited) (left : List ℕ) → LeadsIn n awaited bytes parsed next left → LeadsIn n awaited (bytes ++ more) parsed next (left ++ more)
leads_more zero awaited bytes more parsed next left x = (x.0, x.1, ap (λ l. l ++ more) x.2)
leads_more (suc n) awaited bytes more parsed next left x =
    (x.0, x.1 ++ more, x.2, x.3, prefix_more awaited bytes more x.0 x.1 x.2 x.4, x.5, leads_more n x.2 x.1 more x.3 next left x.6)

pub parses_one : (n m : ℕ) (awaited : Awaited) (bytes : List ℕ) (given parsed : List HttpElement) → ParsesIn n awaited bytes given → ParsesIn m awaited bytes parsed → given ≡ parsed
parses_one zero zero awaited bytes given parsed x y = x.0 ∙ sym y.0
parses_one zero (suc m) awaited bytes given parsed x y = absurd (let no : Goes y.0 y.1 y.2 ≡ Waits = prefix_one awaited bytes _ _ y.4 x.1 in (cc))
parses_one (suc n) zero awaited bytes given parsed x y = absurd (let no : Goes x.0 x.1 x.2 ≡ Waits = prefix_one awaited bytes _ _ x.4 y.1 in (cc))
parses_one (suc n) (suc m) awaited bytes given parsed x y =
    let same = goes_is _ _ _ _ _ _ (prefix_one awaited bytes (Goes x.0 x.1 x.2) (Goes y.0 y.1 y.2) x.4 y.4) in
    let tail : ParsesIn m x.2 x.1 y.3 = subst (λ a. ParsesIn m a x.1 y.3) (sym same.2) (subst (λ b. ParsesIn m y.2 b y.3) (sym same.1) y.6) in
    x.5 ∙ ap (λ s. s ++ x.3) same.0 ∙ ap (λ s. y.0 ++ s) (parses_one n m x.2 x.1 x.3 y.3 x.6 tail) ∙ sym y.5

none_of : (parsed : List HttpElement) → length parsed ≡ 0 → parsed ≡ []
none_of [] same = refl
none_of (one ∷ more) same = absurd (omega (arith, same))

-- of one length bytes say one thing first
pub leads_one : (n m : ℕ) (awaited : Awaited) (bytes : List ℕ) (one other : List HttpElement) (next : Awaited) (left : List ℕ) (after : Awaited) (remainder : List ℕ) → LeadsIn n awaited bytes one next left → LeadsIn m awaited bytes other after remainder → length one ≡ length other → one ≡ other
leads_one zero m awaited bytes one other next left after remainder x y same = x.0 ∙ sym (none_of other (sym same ∙ ap (λ (s : List HttpElement). length s) x.0))
leads_one (suc n) zero awaited bytes one other next left after remainder x y same = none_of one (same ∙ ap (λ (s : List HttpElement). length s) y.0) ∙ sym y.0
leads_one (suc n) (suc m) awaited bytes one other next left after remainder x y same =
    let prefix = goes_is _ _ _ _ _ _ (prefix_one awaited bytes (Goes x.0 x.1 x.2) (Goes y.0 y.1 y.2) x.4 y.4) in
    let tail : LeadsIn m x.2 x.1 y.3 after remainder = subst (λ a. LeadsIn m a x.1 y.3 after remainder) (sym prefix.2) (subst (λ b. LeadsIn m y.2 b y.3 after remainder) (sym prefix.1) y.6) in
    let is : one ≡ y.0 ++ x.3 = x.5 ∙ ap (λ s. s ++ x.3) prefix.0 in
    let long : length one ≡ length y.0 + length x.3 = ap (λ (s : List HttpElement). length s) is ∙ length-append y.0 x.3 in
    let long' : length other ≡ length y.0 + length y.3 = ap (λ (s : List HttpElement). length s) y.5 ∙ length-append y.0 y.3 in
    let later : length x.3 ≡ length y.3 = omega (arith, long, long', same) in
    is ∙ ap (λ s. y.0 ++ s) (leads_one n m x.2 x.1 x.3 y.3 next left after remainder x.6 tail later) ∙ sym y.5
