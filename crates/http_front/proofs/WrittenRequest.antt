-- The elements of a request, from its written form.
use Rattle.std.proofs.Common.{◌≡◌, ◌<◌, ◌≤◌, ◌+◌, ◌-◌, arith, ℕ, zero, suc, Bool, true, false, List, [], ◌∷◌, ◌++◌, length, take, drop, refl, sym, ◌∙◌, ap, subst, append_assoc, length-append, Option, Some, None, Ok}
use Rattle.std.specs.Prelude.{◌==◌, ◌&&◌, not, nat_lt, nat_le, cond, if◌then◌else◌, map, position, MatchBool}
use Rattle.std.specs.List.{flat_map, prefix_len}
use Rattle.std.proofs.lemmas.Bool.Decides.{nat_tests}
use Rattle.base_types.specs.declared.limits.TheConstants.Limits.{HTTP_HEAD_BYTES, HTTP_BODY_BYTES, HTTP_CHUNK_LINE_BYTES, HTTP_TRAILER_BYTES}
use Rattle.text.specs.FirstLine.{line_of, first_line_of}
use Rattle.text.specs.declared.line.FirstLine.{FirstLine}
use Rattle.text.specs.declared.line.FirstLine.TheVariants.{Whole, TooLong, Unfinished}
use Rattle.http_front.specs.declared.refusal.HttpRejection.TheVariants.{ContentTooLarge}
use Rattle.http_front.specs.declared.awaited.Request.{Request}
use Rattle.http_front.specs.declared.awaited.Framing.{Framing}
use Rattle.http_front.specs.declared.awaited.Following.{Following}
use Rattle.http_front.specs.declared.awaited.Following.TheVariants.{Close, Chunk}
use Rattle.http_front.specs.declared.awaited.Awaited.{Awaited}
use Rattle.http_front.specs.declared.awaited.Awaited.TheVariants.{Head, Invitation, Body, Size, Trailer}
use Rattle.http_front.specs.Chunk.{IsSizeOf}
use Rattle.http_front.specs.Head.{Asks}
use Rattle.http_front.specs.Section.{empty_line, empty_line_end, section_of, section_in}
use Rattle.http_front.specs.Stream.{HttpElement, HasHead, Invites, HasByte, EndsBody, Prefix, Goes, refused, is_last, body_by, after_head, after_body, HeadIn, is_line_end, following, byte_of, sized, SizeIn, trailer_prefix, PrefixIs, Parses}
use Rattle.http_front.specs.Written.{IsHead, IsSizeLine, WrittenChunk, chunk_bytes, AreChunks, octets_of, IsTrailer, LengthParses, ChunksParse}

-- one step
parses_step : (awaited : Awaited) (bytes : List ℕ) (first : List HttpElement) (rest : List ℕ) (next : Awaited) (later : List HttpElement) → PrefixIs awaited bytes (Goes first rest next) → Parses next rest later → Parses awaited bytes (first ++ later)
parses_step awaited bytes first rest next later prefix (steps, it) = (suc steps, (first, rest, next, later, prefix, refl, it))

-- ---- sections and lines stay where more comes

more_than_none : (t : Bool) → t ≡ true → t ≡ false → ⊥
more_than_none true p q = cc
more_than_none false p q = cc

-- an empty line at the beginning stays one
empty_more : (xs ys : List ℕ) → nat_lt 0 (empty_line xs) ≡ true → empty_line (xs ++ ys) ≡ empty_line xs
empty_more [] ys is = cc
empty_more (first ∷ []) [] is = refl
empty_more (first ∷ []) (second ∷ ys) is = by (first == 10) refl is
  where
    single : ℕ
    single = 1

    by : (t : Bool) → (first == 10) ≡ t → nat_lt 0 (if t then 1 else 0) ≡ true → empty_line (first ∷ second ∷ ys) ≡ empty_line (first ∷ [])
    by true same more = ap (λ (t : Bool). if t then single else if (first == 13) && (second == 10) then 2 else 0) same ∙ sym (ap (λ (t : Bool). if t then single else 0) same)
    by false same more = cc
empty_more (first ∷ second ∷ xs) ys is = refl

-- an empty line ends at the same place if more bytes follow
end_more : (begins : Bool) (place : ℕ) (xs ys : List ℕ) (end : ℕ) → empty_line_end begins place xs ≡ Some end → empty_line_end begins place (xs ++ ys) ≡ Some end
end_more begins place [] ys end is = cc
end_more begins place (byte ∷ xs) ys end is = by (begins && nat_lt 0 (empty_line (byte ∷ xs))) refl (λ later. end_more (byte == 10) (place + 1) xs ys end later) is
  where
    Later : Type 0
    Later = empty_line_end (byte == 10) (place + 1) xs ≡ Some end → empty_line_end (byte == 10) (place + 1) (xs ++ ys) ≡ Some end

    both : (s t : Bool) → s && t ≡ true → t ≡ true
    both true t p = p
    both false t p = cc

    -- the case of an empty line
    found : begins && nat_lt 0 (empty_line (byte ∷ xs)) ≡ true → Some (place + empty_line (byte ∷ xs)) ≡ Some end → empty_line_end begins place (byte ∷ (xs ++ ys)) ≡ Some end
    found same it =
        let more : empty_line (byte ∷ (xs ++ ys)) ≡ empty_line (byte ∷ xs) = empty_more (byte ∷ xs) ys (both begins (nat_lt 0 (empty_line (byte ∷ xs))) same) in
        ap (λ (n : ℕ). if begins && nat_lt 0 n then Some (place + n) else empty_line_end (byte == 10) (place + 1) (xs ++ ys)) more
        ∙ (ap (λ (t : Bool). if t then Some (place + empty_line (byte ∷ xs)) else empty_line_end (byte == 10) (place + 1) (xs ++ ys)) same ∙ it)

    -- the case of a line that isn't empty, with more bytes after it
    none : (zs : List ℕ) → xs ≡ zs → Later → begins && nat_lt 0 (empty_line (byte ∷ xs)) ≡ false → empty_line_end (byte == 10) (place + 1) xs ≡ Some end → empty_line_end begins place (byte ∷ (xs ++ ys)) ≡ Some end
    none [] same more out it = absurd (nothing (empty_line_end (byte == 10) (place + 1) xs) (ap (empty_line_end (byte == 10) (place + 1)) same) it)
      where
        nothing : (o : Option ℕ) → o ≡ None → o ≡ Some end → ⊥
        nothing o p q = cc
    none (next ∷ zs) same more out it =
        let still : empty_line (byte ∷ (xs ++ ys)) ≡ empty_line (byte ∷ xs) = ap (λ (ws : List ℕ). empty_line (byte ∷ (ws ++ ys))) same ∙ sym (ap (λ (ws : List ℕ). empty_line (byte ∷ ws)) same) in
        ap (λ (n : ℕ). if begins && nat_lt 0 n then Some (place + n) else empty_line_end (byte == 10) (place + 1) (xs ++ ys)) still
        ∙ (ap (λ (t : Bool). if t then Some (place + empty_line (byte ∷ xs)) else empty_line_end (byte == 10) (place + 1) (xs ++ ys)) out ∙ more it)

    by : (t : Bool) → begins && nat_lt 0 (empty_line (byte ∷ xs)) ≡ t → Later → (if t then Some (place + empty_line (byte ∷ xs)) else empty_line_end (byte == 10) (place + 1) xs) ≡ Some end → empty_line_end begins place (byte ∷ (xs ++ ys)) ≡ Some end
    by true same more it = found same it
    by false same more it = none xs refl more same it

take_more : (n : ℕ) (xs ys : List ℕ) → (zs : List ℕ) × (take n (xs ++ ys) ≡ take n xs ++ zs)
take_more zero xs ys = ([], refl)
take_more (suc n) [] ys = (take (suc n) ys, refl)
take_more (suc n) (x ∷ xs) ys = let it = take_more n xs ys in (it.0, ap (λ (ws : List ℕ). x ∷ ws) it.1)

section_ends : (most count place : ℕ) (o : Option ℕ) → section_of most count o ≡ Whole place → o ≡ Some place
section_ends most count place (Some end) is = cc
section_ends most count place None is = by (nat_lt count most) is
  where
    by : (t : Bool) → (if t then Unfinished else TooLong) ≡ Whole place → None ≡ Some place
    by true it = cc
    by false it = cc

section_more : (most place : ℕ) (xs ys : List ℕ) → section_in most xs ≡ Whole place → section_in most (xs ++ ys) ≡ Whole place
section_more most place xs ys is =
    let end = section_ends most (length xs) place (empty_line_end true 0 (take most xs)) is in
    let more = take_more most xs ys in
    ap (section_of most (length (xs ++ ys))) (ap (empty_line_end true 0) more.1 ∙ end_more true 0 (take most xs) more.0 place end)

take_all : (xs ys : List ℕ) → take (length xs) (xs ++ ys) ≡ xs
take_all [] ys = refl
take_all (x ∷ xs) ys = ap (λ (zs : List ℕ). x ∷ zs) (take_all xs ys)

drop_all : (xs ys : List ℕ) → drop (length xs) (xs ++ ys) ≡ ys
drop_all [] ys = refl
drop_all (x ∷ xs) ys = drop_all xs ys

-- ---- a head

at_head : (head more : List ℕ) (request : Request) → IsHead head request → PrefixIs Head (head ++ more) (Goes (HasHead request.closes ∷ []) more (after_head request))
at_head [] more request is = absurd (more_than_none false is.begins refl)
at_head (byte ∷ head) more request is =
    subst (λ (t : Bool). MatchBool t (Goes (HasHead request.closes ∷ []) more (after_head request) ≡ Goes [] (head ++ more) Head) (HeadIn (byte ∷ (head ++ more)) (section_in HTTP_HEAD_BYTES (byte ∷ (head ++ more))) (Goes (HasHead request.closes ∷ []) more (after_head request)))) (sym (negated (is_line_end byte) is.begins))
    (subst (λ (line : FirstLine). HeadIn (byte ∷ (head ++ more)) line (Goes (HasHead request.closes ∷ []) more (after_head request))) (sym (section_more HTTP_HEAD_BYTES (length (byte ∷ head)) (byte ∷ head) more is.whole))
    (Ok request, subst (λ (bytes : List ℕ). Asks bytes (Ok request)) (sym (take_all (byte ∷ head) more)) is.asks, ap (λ (bytes : List ℕ). Goes (HasHead request.closes ∷ []) bytes (after_head request)) (sym (drop_all (byte ∷ head) more))))
  where
    negated : (t : Bool) → not t ≡ true → t ≡ false
    negated true p = cc
    negated false p = refl

-- a head, the invitation that it waits for, and then its body
parses_head : (head more : List ℕ) (request : Request) (later : List HttpElement) → IsHead head request → Parses (body_by request.framing request.closes) more later → Parses Head (head ++ more) (HasHead request.closes ∷ ((if request.invites then Invites ∷ [] else []) ++ later))
parses_head head more request later is it = parses_step Head (head ++ more) (HasHead request.closes ∷ []) more (after_head request) ((if request.invites then Invites ∷ [] else []) ++ later) (at_head head more request is) (by request.invites)
  where
    by : (t : Bool) → Parses (if t then Invitation request.framing request.closes else body_by request.framing request.closes) more ((if t then Invites ∷ [] else []) ++ later)
    by true = parses_step (Invitation request.framing request.closes) more (Invites ∷ []) more (body_by request.framing request.closes) later refl it
    by false = it

-- ---- bytes of a body

one_less : (n : ℕ) → suc n - 1 ≡ n
one_less n = omega arith

not_zero : (n : ℕ) → (suc n == 0) ≡ false
not_zero n = grind (arith, nat_tests)

parses_bytes : (body rest : List ℕ) (next : Following) (later : List HttpElement) → Parses (Body 0 next) rest later → Parses (Body (length body) next) (body ++ rest) (map HasByte body ++ later)
parses_bytes [] rest next later it = it
parses_bytes (byte ∷ body) rest next later it =
    parses_step (Body (suc (length body)) next) (byte ∷ (body ++ rest)) (HasByte byte ∷ []) (body ++ rest) (Body (length body) next) (map HasByte body ++ later)
    (ap (λ (n : ℕ). Goes (HasByte byte ∷ []) (body ++ rest) (Body n next)) (sym (one_less (length body))) ∙ sym (ap (λ (t : Bool). if t then following next (byte ∷ (body ++ rest)) else byte_of (suc (length body)) next (byte ∷ (body ++ rest))) (not_zero (length body))))
    (parses_bytes body rest next later it)

parses_end : (last : Bool) (more : List ℕ) (later : List HttpElement) → Parses (after_body last) more later → Parses (Body 0 (Close last)) more (EndsBody ∷ later)
parses_end last more later it = parses_step (Body 0 (Close last)) more (EndsBody ∷ []) more (after_body last) later refl it

joined : (invites : Bool) (closes : Bool) (body : List ℕ) (later : List HttpElement)
    → HasHead closes ∷ ((if invites then Invites ∷ [] else []) ++ (map HasByte body ++ EndsBody ∷ later)) ≡ (HasHead closes ∷ ((if invites then Invites ∷ [] else []) ++ (map HasByte body ++ EndsBody ∷ []))) ++ later
joined invites closes body later =
    ap (λ (parsed : List HttpElement). HasHead closes ∷ parsed)
    (ap (λ (parsed : List HttpElement). (if invites then Invites ∷ [] else []) ++ parsed) (sym (append_assoc (map HasByte body) (EndsBody ∷ []) later)) ∙ sym (append_assoc (if invites then Invites ∷ [] else []) (map HasByte body ++ EndsBody ∷ []) later))

pub length_parses : LengthParses
length_parses head body more request later is framing it =
    let body_parses : Parses (body_by request.framing request.closes) (body ++ more) (map HasByte body ++ EndsBody ∷ later) =
    subst (λ (f : Framing). Parses (body_by f request.closes) (body ++ more) (map HasByte body ++ EndsBody ∷ later)) (sym framing)
    (parses_bytes body more (Close (is_last request.closes (length body))) (EndsBody ∷ later) (parses_end (is_last request.closes (length body)) more later it)) in
    subst (λ (parsed : List HttpElement). Parses Head (head ++ (body ++ more)) parsed) (joined request.invites request.closes body later) (parses_head head (body ++ more) request (map HasByte body ++ EndsBody ∷ later) is body_parses)

-- ---- chunks

prefix_more : (f : ℕ → Bool) (xs ys : List ℕ) → prefix_len f xs < length xs → prefix_len f (xs ++ ys) ≡ prefix_len f xs
prefix_more f [] ys less = absurd (omega (arith, less))
prefix_more f (x ∷ xs) ys less = by (f x) refl (λ rest. prefix_more f xs ys rest)
  where
    by : (t : Bool) → f x ≡ t → (prefix_len f xs < length xs → prefix_len f (xs ++ ys) ≡ prefix_len f xs) → prefix_len f (x ∷ (xs ++ ys)) ≡ prefix_len f (x ∷ xs)
    by true same more =
        let inside : 1 + prefix_len f xs < suc (length xs) = subst (λ (t : Bool). cond t (1 + prefix_len f xs) 0 < suc (length xs)) same less in
        let rest : prefix_len f xs < length xs = omega (arith, inside) in
        ap (λ (n : ℕ). cond (f x) (1 + n) 0) (more rest)
    by false same more = ap (λ (t : Bool). cond t (1 + prefix_len f (xs ++ ys)) 0) same ∙ sym (ap (λ (t : Bool). cond t (1 + prefix_len f xs) 0) same)

position_at : (f : ℕ → Bool) (xs : List ℕ) (place : ℕ) → position f xs ≡ Some place → (prefix_len (λ x. not (f x)) xs < length xs) × (prefix_len (λ x. not (f x)) xs ≡ place)
position_at f xs place is = by (nat_lt (prefix_len (λ x. not (f x)) xs) (length xs)) refl is
  where
    by : (t : Bool) → nat_lt (prefix_len (λ x. not (f x)) xs) (length xs) ≡ t → (if t then Some (prefix_len (λ x. not (f x)) xs) else None) ≡ Some place → (prefix_len (λ x. not (f x)) xs < length xs) × (prefix_len (λ x. not (f x)) xs ≡ place)
    by true less it = (grind (arith, nat_tests, less), cc)
    by false less it = cc

position_more : (f : ℕ → Bool) (xs ys : List ℕ) (place : ℕ) → position f xs ≡ Some place → position f (xs ++ ys) ≡ Some place
position_more f xs ys place is =
    let it = position_at f xs place is in
    let same : prefix_len (λ x. not (f x)) (xs ++ ys) ≡ place = prefix_more (λ x. not (f x)) xs ys it.0 ∙ it.1 in
    let inside : nat_lt (prefix_len (λ x. not (f x)) (xs ++ ys)) (length (xs ++ ys)) ≡ true = grind (arith, nat_tests, same, it.0, it.1, length-append xs ys) in
    ap (λ (t : Bool). if t then Some (prefix_len (λ x. not (f x)) (xs ++ ys)) else None) inside ∙ ap Some same

line_place : (most count place : ℕ) (o : Option ℕ) → line_of most count o ≡ Whole place → (o ≡ Some place) × (nat_lt place most ≡ true)
line_place most count place (Some at) is = by (nat_lt at most) refl is
  where
    by : (t : Bool) → nat_lt at most ≡ t → (if t then Whole at else TooLong) ≡ Whole place → (Some at ≡ Some place) × (nat_lt place most ≡ true)
    by true less same = let one : at ≡ place = cc in (ap Some one, ap (λ (n : ℕ). nat_lt n most) (sym one) ∙ less)
    by false less same = cc
line_place most count place None is = by (nat_lt count most) is
  where
    by : (t : Bool) → (if t then Unfinished else TooLong) ≡ Whole place → (None ≡ Some place) × (nat_lt place most ≡ true)
    by true same = cc
    by false same = cc

line_more : (most place : ℕ) (xs ys : List ℕ) → first_line_of most xs ≡ Whole place → first_line_of most (xs ++ ys) ≡ Whole place
line_more most place xs ys is =
    let it = line_place most (length xs) place (position (λ byte. byte == 10) xs) is in
    ap (line_of most (length (xs ++ ys))) (position_more (λ byte. byte == 10) xs ys place it.0) ∙ ap (λ (t : Bool). if t then Whole place else TooLong) it.1

take_line : (line more : List ℕ) (place : ℕ) → length line ≡ place + 1 → take (place + 1) (line ++ more) ≡ line
take_line line more place ends = ap (λ (n : ℕ). take n (line ++ more)) (sym ends) ∙ take_all line more

drop_line : (line more : List ℕ) (place : ℕ) → length line ≡ place + 1 → drop (place + 1) (line ++ more) ≡ more
drop_line line more place ends = ap (λ (n : ℕ). drop n (line ++ more)) (sym ends) ∙ drop_all line more

at_size : (line more : List ℕ) (size room : ℕ) (closes : Bool) → IsSizeLine line size → PrefixIs (Size room closes) (line ++ more) (sized (Some size) room closes more)
at_size line more size room closes is =
    subst (λ (l : FirstLine). SizeIn (line ++ more) room closes l (sized (Some size) room closes more)) (sym (line_more HTTP_CHUNK_LINE_BYTES is.place line more is.whole))
    (Some size, subst (λ (bytes : List ℕ). IsSizeOf bytes (Some size)) (sym (take_line line more is.place is.ends)) is.is, ap (sized (Some size) room closes) (sym (drop_line line more is.place is.ends)))

-- the size line of a chunk leads to a body of its size
at_chunk : (size room : ℕ) (closes : Bool) (more : List ℕ) → 0 < size → size ≤ room → sized (Some size) room closes more ≡ Goes [] more (Body size (Chunk (room - size) closes))
at_chunk size room closes more some fits =
    ap (λ (t : Bool). if t then Goes [] more (Trailer (is_last closes (HTTP_BODY_BYTES - room))) else if nat_le size room then Goes [] more (Body size (Chunk (room - size) closes)) else refused ContentTooLarge more) (is_some size some)
    ∙ ap (λ (t : Bool). if t then Goes [] more (Body size (Chunk (room - size) closes)) else refused ContentTooLarge more) (is_within size room fits)
  where
    is_some : (n : ℕ) → 0 < n → (n == 0) ≡ false
    is_some n less = grind (arith, nat_tests, less)

    is_within : (n m : ℕ) → n ≤ m → nat_le n m ≡ true
    is_within n m less = grind (arith, nat_tests, less)

-- a chunk with its size line and the end of its chunk
parses_chunk : (line octets more : List ℕ) (room : ℕ) (closes : Bool) (later : List HttpElement) → IsSizeLine line (length octets) → 0 < length octets → length octets ≤ room → Parses (Size (room - length octets) closes) more later
    → Parses (Size room closes) (line ++ (octets ++ 13 ∷ 10 ∷ more)) (map HasByte octets ++ later)
parses_chunk line octets more room closes later is some fits it =
    parses_step (Size room closes) (line ++ (octets ++ 13 ∷ 10 ∷ more)) [] (octets ++ 13 ∷ 10 ∷ more) (Body (length octets) (Chunk (room - length octets) closes)) (map HasByte octets ++ later)
    (subst (λ (prefix : Prefix). PrefixIs (Size room closes) (line ++ (octets ++ 13 ∷ 10 ∷ more)) prefix) (at_chunk (length octets) room closes (octets ++ 13 ∷ 10 ∷ more) some fits) (at_size line (octets ++ 13 ∷ 10 ∷ more) (length octets) room closes is))
    (parses_bytes octets (13 ∷ 10 ∷ more) (Chunk (room - length octets) closes) later (parses_step (Body 0 (Chunk (room - length octets) closes)) (13 ∷ 10 ∷ more) [] more (Size (room - length octets) closes) later refl it))

chunk_joined : (chunk : WrittenChunk) (rest : List ℕ) → chunk_bytes chunk ++ rest ≡ chunk.line ++ (chunk.octets ++ 13 ∷ 10 ∷ rest)
chunk_joined chunk rest = append_assoc chunk.line (chunk.octets ++ 13 ∷ 10 ∷ []) rest ∙ ap (λ (bytes : List ℕ). chunk.line ++ bytes) (append_assoc chunk.octets (13 ∷ 10 ∷ []) rest)

-- all chunks, and then the part that is awaited with the room that is left
parses_chunks : (chunks : List WrittenChunk) (rest : List ℕ) (room : ℕ) (closes : Bool) (later : List HttpElement) → AreChunks room chunks → Parses (Size (room - length (octets_of chunks)) closes) rest later → Parses (Size room closes) (flat_map chunk_bytes chunks ++ rest) (map HasByte (octets_of chunks) ++ later)
parses_chunks [] rest room closes later are it = subst (λ (n : ℕ). Parses (Size n closes) rest later) (none room) it
  where
    none : (n : ℕ) → n - 0 ≡ n
    none n = omega arith
parses_chunks (chunk ∷ chunks) rest room closes later (line, some, fits, are) it =
    let left : room - length (octets_of (chunk ∷ chunks)) ≡ room - length chunk.octets - length (octets_of chunks) = less room (length chunk.octets) (length (octets_of chunks)) (length (octets_of (chunk ∷ chunks))) (length-append chunk.octets (octets_of chunks)) in
    let more = parses_chunks chunks rest (room - length chunk.octets) closes later are (subst (λ (n : ℕ). Parses (Size n closes) rest later) left it) in
    subst (λ (bytes : List ℕ). Parses (Size room closes) bytes (map HasByte (octets_of (chunk ∷ chunks)) ++ later)) (sym (append_assoc (chunk_bytes chunk) (flat_map chunk_bytes chunks) rest ∙ chunk_joined chunk (flat_map chunk_bytes chunks ++ rest)))
    (subst (λ (parsed : List HttpElement). Parses (Size room closes) (chunk.line ++ (chunk.octets ++ 13 ∷ 10 ∷ (flat_map chunk_bytes chunks ++ rest))) parsed) (both chunk.octets (octets_of chunks))
    (parses_chunk chunk.line chunk.octets (flat_map chunk_bytes chunks ++ rest) room closes (map HasByte (octets_of chunks) ++ later) line some fits more))
  where
    less : (n m k all : ℕ) → all ≡ m + k → n - all ≡ n - m - k
    less n m k all is = omega (arith, is)

    both : (xs ys : List ℕ) → map HasByte xs ++ (map HasByte ys ++ later) ≡ map HasByte (xs ++ ys) ++ later
    both [] ys = refl
    both (x ∷ xs) ys = ap (λ (parsed : List HttpElement). HasByte x ∷ parsed) (both xs ys)

-- the last chunk, and the trailer
parses_last : (last trailer more : List ℕ) (room : ℕ) (closes : Bool) (later : List HttpElement) → IsSizeLine last 0 → IsTrailer trailer → Parses (after_body (is_last closes (HTTP_BODY_BYTES - room))) more later → Parses (Size room closes) (last ++ (trailer ++ more)) (EndsBody ∷ later)
parses_last last trailer more room closes later is whole it =
    parses_step (Size room closes) (last ++ (trailer ++ more)) [] (trailer ++ more) (Trailer (is_last closes (HTTP_BODY_BYTES - room))) (EndsBody ∷ later) (at_size last (trailer ++ more) 0 room closes is)
    (parses_step (Trailer (is_last closes (HTTP_BODY_BYTES - room))) (trailer ++ more) (EndsBody ∷ []) more (after_body (is_last closes (HTTP_BODY_BYTES - room))) later
    (subst (λ (line : FirstLine). Goes (EndsBody ∷ []) more (after_body (is_last closes (HTTP_BODY_BYTES - room))) ≡ trailer_prefix (is_last closes (HTTP_BODY_BYTES - room)) (trailer ++ more) line) (sym (section_more HTTP_TRAILER_BYTES (length trailer) trailer more whole))
    (ap (λ (bytes : List ℕ). Goes (EndsBody ∷ []) bytes (after_body (is_last closes (HTTP_BODY_BYTES - room)))) (sym (drop_all trailer more)))) it)

-- chunks have no more bytes than there is room
all_fit : (room : ℕ) (chunks : List WrittenChunk) → AreChunks room chunks → length (octets_of chunks) ≤ room
all_fit room [] are = omega arith
all_fit room (chunk ∷ chunks) (line, some, fits, are) = omega (arith, fits, all_fit (room - length chunk.octets) chunks are, length-append chunk.octets (octets_of chunks))

left_over : (most n : ℕ) → n ≤ most → most - (most - n) ≡ n
left_over most n fits = omega (arith, fits)

pub chunks_say : ChunksParse
chunks_say head chunks last trailer more request later is framing are ends whole it =
    let count : HTTP_BODY_BYTES - (HTTP_BODY_BYTES - length (octets_of chunks)) ≡ length (octets_of chunks) = left_over HTTP_BODY_BYTES (length (octets_of chunks)) (all_fit HTTP_BODY_BYTES chunks are) in
    let end = parses_last last trailer more (HTTP_BODY_BYTES - length (octets_of chunks)) request.closes later ends whole (subst (λ (n : ℕ). Parses (after_body (is_last request.closes n)) more later) (sym count) it) in
    let body_parses : Parses (body_by request.framing request.closes) (flat_map chunk_bytes chunks ++ (last ++ (trailer ++ more))) (map HasByte (octets_of chunks) ++ EndsBody ∷ later) =
    subst (λ (f : Framing). Parses (body_by f request.closes) (flat_map chunk_bytes chunks ++ (last ++ (trailer ++ more))) (map HasByte (octets_of chunks) ++ EndsBody ∷ later)) (sym framing)
    (parses_chunks chunks (last ++ (trailer ++ more)) HTTP_BODY_BYTES request.closes (EndsBody ∷ later) are end) in
    subst (λ (parsed : List HttpElement). Parses Head (head ++ (flat_map chunk_bytes chunks ++ (last ++ (trailer ++ more)))) parsed) (joined request.invites request.closes (octets_of chunks) later)
    (parses_head head (flat_map chunk_bytes chunks ++ (last ++ (trailer ++ more))) request (map HasByte (octets_of chunks) ++ EndsBody ∷ later) is body_parses)
