-- The place of a reader in its stream after a segment, and the elements that it will give.
use Rattle.std.specs.Prelude.{ℕ, suc, zero, ◌≡◌, ◌⊎◌, ◌≤◌, ◌-◌, List, [], ◌∷◌, ◌++◌, length, map, take, drop}
use Rattle.std.proofs.Common.{arith, refl, subst, sym, ap, ◌∙◌, inl, inr}
use Rattle.http_front.specs.declared.awaited.Awaited.{Awaited}
use Rattle.http_front.specs.declared.awaited.Following.{Following}
use Rattle.http_front.specs.declared.awaited.Awaited.TheVariants.{Head, Invitation, Body, Size, Trailer, Nothing}
use Rattle.http_front.specs.Stream.{HttpElement, HasByte, Goes, Waits, ParsesIn, Parses, Exchanges, ParsesFirst, HttpState, IsOver, HasRead, HasLeft, AwaitsBody, past_body}
use Rattle.std.proofs.Math.Seq.{drop-length}
use Rattle.std.proofs.lemmas.List.{drop-append-le}
use Rattle.http_front.proofs.Steps.{parses_then, lends}
use Rattle.http_front.proofs.Laws.{stays_in, parsed_first, leads_more}

kept_fed : (reader : HttpState) (left segment : List ℕ) → (IsOver reader ⊎ (left ≡ reader.rest)) → IsOver reader ⊎ (left ++ segment ≡ reader.rest ++ segment)
kept_fed reader left segment (inl over) = inl over
kept_fed reader left segment (inr same) = inr (ap (λ l. l ++ segment) same)

-- a segment of which nothing is read yet
pub reaches_fed : (stream : List ℕ) (given : List HttpElement) (segment : List ℕ) (reader : HttpState) → HasRead stream given reader → HasRead (stream ++ segment) given (record { part = []; rest = reader.rest ++ segment; awaited = reader.awaited })
reaches_fed stream given segment reader reaches = record {
  left = reaches.left ++ segment;
  leads = (reaches.leads.0, leads_more reaches.leads.0 Head stream segment given reader.awaited reaches.left reaches.leads.1);
  kept = kept_fed reader reaches.left segment reaches.kept;
}

-- a reader that awaits nothing
pub reaches_still : (stream : List ℕ) (given : List HttpElement) (segment : List ℕ) (reader : HttpState) → IsOver reader → HasRead stream given reader → HasRead (stream ++ segment) given reader
reaches_still stream given segment reader over reaches = record {
  left = reaches.left ++ segment;
  leads = (reaches.leads.0, leads_more reaches.leads.0 Head stream segment given reader.awaited reaches.left reaches.leads.1);
  kept = inl over;
}

-- a reader with a segment after the bytes that weren't read
pub fed_as : (old new : HttpState) (segment : List ℕ) → new ≡ record { part = []; rest = old.rest ++ segment; awaited = old.awaited } → (stream : List ℕ) (given : List HttpElement) → HasRead stream given old → HasRead (stream ++ segment) given new
fed_as old new segment is stream given reaches = subst (λ n. HasRead (stream ++ segment) given n) (sym is) (reaches_fed stream given segment old reaches)

abbrev pub reads_next : List ℕ → Awaited → HttpState
reads_next rest awaited = record { part = []; rest = rest; awaited = awaited }

-- the segment stands after the bytes that weren't read
pub fed_after : (old : HttpState) (lent : ℕ) (unread segment fed : List ℕ) (awaited : Awaited) → record { part = take lent unread; rest = drop lent unread; awaited = awaited } ≡ old → lent ≤ length unread → fed ≡ drop lent (unread ++ segment) → reads_next fed awaited ≡ reads_next (old.rest ++ segment) old.awaited
fed_after old lent unread segment fed awaited is within fed_is = subst (λ (r : HttpState). reads_next fed awaited ≡ reads_next (r.rest ++ segment) r.awaited) is (ap (λ bytes. reads_next bytes awaited) (fed_is ∙ drop-append-le lent unread segment within))

-- all bytes were read, and the segment stands alone
pub fed_alone : (old : HttpState) (spare bytes passed segment fed : List ℕ) (awaited : Awaited) → awaited ≡ old.awaited → old.rest ≡ [] → bytes ≡ spare → passed ≡ drop (length bytes) spare → fed ≡ passed ++ segment → reads_next fed awaited ≡ reads_next (old.rest ++ segment) old.awaited
fed_alone old spare bytes passed segment fed awaited same none spared passed_is fed_is =
    let empty : passed ≡ old.rest = passed_is ∙ ap (λ bs. drop (length bs) spare) spared ∙ drop-length spare ∙ sym none in
    rw (fed_is, empty, same) refl

-- laws of the elements that were given

nothing_in : (steps : ℕ) (bytes other : List ℕ) (parsed : List HttpElement) → ParsesIn steps Nothing bytes parsed → ParsesIn steps Nothing other parsed
nothing_in zero bytes other parsed parses = parses
nothing_in (suc steps) bytes other parsed parses = absurd (let no : Goes parses.0 parses.1 parses.2 ≡ Waits = parses.4 in (cc))

parses_of : (reader : HttpState) (left coming : List ℕ) (parsed : List HttpElement) → (IsOver reader ⊎ (left ≡ reader.rest)) → (steps : ℕ) → ParsesIn steps reader.awaited (reader.rest ++ coming) parsed → ParsesIn steps reader.awaited (left ++ coming) parsed
parses_of reader left coming parsed (inl over) steps parses =
    let here : ParsesIn steps Nothing (reader.rest ++ coming) parsed = subst (λ (a : Awaited). ParsesIn steps a (reader.rest ++ coming) parsed) over parses in
    subst (λ (a : Awaited). ParsesIn steps a (left ++ coming) parsed) (sym over) (nothing_in steps (reader.rest ++ coming) (left ++ coming) parsed here)
parses_of reader left coming parsed (inr same) steps parses = subst (λ (l : List ℕ). ParsesIn steps reader.awaited (l ++ coming) parsed) (sym same) parses

pub has_read_rest : (stream coming : List ℕ) (given parsed : List HttpElement) (reader : HttpState) → HasRead stream given reader → Parses reader.awaited (reader.rest ++ coming) parsed → Exchanges (stream ++ coming) (given ++ parsed)
has_read_rest stream coming given parsed reader reaches parses =
    let first = leads_more reaches.leads.0 Head stream coming given reader.awaited reaches.left reaches.leads.1 in
    parses_then reaches.leads.0 parses.0 Head (stream ++ coming) given reader.awaited (reaches.left ++ coming) parsed first (parses_of reader reaches.left coming parsed reaches.kept parses.0 parses.1)

pub first_stays : (stream more : List ℕ) (first parsed : List HttpElement) → ParsesFirst stream first → Exchanges (stream ++ more) parsed → (later : List HttpElement) × (parsed ≡ first ++ later)
first_stays stream more first parsed x y = stays_in x.leads.0 y.0 Head stream more first x.next x.left parsed x.leads.1 y.1

pub all_stays : (stream more : List ℕ) (given parsed : List HttpElement) → Exchanges stream given → Exchanges (stream ++ more) parsed → (later : List HttpElement) × (parsed ≡ given ++ later)
all_stays stream more given parsed x y =
    let first = parsed_first x.0 Head stream given x.1 in
    stays_in x.0 y.0 Head stream more given first.0 first.1 parsed first.2 y.1

-- ---- bytes of a body that the caller has

take_whole : (xs : List ℕ) → take (length xs) xs ≡ xs
take_whole [] = refl
take_whole (x ∷ xs) = ap (λ (ys : List ℕ). x ∷ ys) (take_whole xs)

drop_whole : (xs : List ℕ) → drop (length xs) xs ≡ []
drop_whole [] = refl
drop_whole (x ∷ xs) = drop_whole xs

part_fed : (old : HttpState) (left : ℕ) (next : Following) (stream : List ℕ) (given : List HttpElement) (segment : List ℕ) → old.awaited ≡ Body left next → old.rest ≡ [] → length segment ≤ left → HasRead stream given old → HasRead (stream ++ segment) (given ++ map HasByte segment) (record { part = []; rest = []; awaited = Body (left - length segment) next })
part_fed old left next stream given segment is none fits reaches =
    let fed : HasRead (stream ++ segment) given (record { part = []; rest = old.rest ++ segment; awaited = old.awaited }) = reaches_fed stream given segment old reaches in
    let here : HasRead (stream ++ segment) given (record { part = []; rest = segment; awaited = Body left next }) =
    subst (λ (a : Awaited). HasRead (stream ++ segment) given (record { part = []; rest = segment; awaited = a })) is
    (subst (λ (r : List ℕ). HasRead (stream ++ segment) given (record { part = []; rest = r ++ segment; awaited = old.awaited })) none fed) in
    let lent : HasRead (stream ++ segment) (given ++ map HasByte (take (length segment) segment)) (record { part = take (length segment) segment; rest = drop (length segment) segment; awaited = Body (left - length segment) next }) =
    lends (record { part = []; rest = segment; awaited = Body left next }) left next (length segment) refl (omega arith) fits (stream ++ segment) given here in
    let parsed : HasRead (stream ++ segment) (given ++ map HasByte segment) (record { part = take (length segment) segment; rest = drop (length segment) segment; awaited = Body (left - length segment) next }) =
    subst (λ (p : List ℕ). HasRead (stream ++ segment) (given ++ map HasByte p) (record { part = take (length segment) segment; rest = drop (length segment) segment; awaited = Body (left - length segment) next })) (take_whole segment) lent in
    let ended : HasRead (stream ++ segment) (given ++ map HasByte segment) (record { part = take (length segment) segment; rest = []; awaited = Body (left - length segment) next }) =
    subst (λ (r : List ℕ). HasRead (stream ++ segment) (given ++ map HasByte segment) (record { part = take (length segment) segment; rest = r; awaited = Body (left - length segment) next })) (drop_whole segment) parsed in
    record { left = ended.left; leads = ended.leads; kept = ended.kept }

has_read_fed : (old : HttpState) (awaited : Awaited) (stream : List ℕ) (given : List HttpElement) (segment : List ℕ) → old.awaited ≡ awaited → old.rest ≡ [] → HasLeft (length segment) awaited → HasRead stream given old → HasRead (stream ++ segment) (given ++ map HasByte segment) (record { part = []; rest = []; awaited = past_body (length segment) awaited })
has_read_fed old (Body left next) stream given segment is none fits reaches = part_fed old left next stream given segment is none fits reaches
has_read_fed old Head stream given segment is none fits reaches = absurd fits
has_read_fed old (Invitation framing closes) stream given segment is none fits reaches = absurd fits
has_read_fed old (Size room closes) stream given segment is none fits reaches = absurd fits
has_read_fed old (Trailer last) stream given segment is none fits reaches = absurd fits
has_read_fed old Nothing stream given segment is none fits reaches = absurd fits

-- so many bytes of a body were given as they came
pub body_fed : (old new : HttpState) (count : ℕ) (stream : List ℕ) (given : List HttpElement) (segment : List ℕ) → AwaitsBody count old → new ≡ record { part = []; rest = []; awaited = past_body count old.awaited } → length segment ≡ count → HasRead stream given old → HasRead (stream ++ segment) (given ++ map HasByte segment) new
body_fed old new count stream given segment awaits is long reaches =
    let fits : HasLeft (length segment) old.awaited = subst (λ (n : ℕ). HasLeft n old.awaited) (sym long) awaits.1 in
    let has_read : HasRead (stream ++ segment) (given ++ map HasByte segment) (record { part = []; rest = []; awaited = past_body (length segment) old.awaited }) = has_read_fed old old.awaited stream given segment refl awaits.0 fits reaches in
    subst (λ (n : HttpState). HasRead (stream ++ segment) (given ++ map HasByte segment) n) (sym is)
    (subst (λ (n : ℕ). HasRead (stream ++ segment) (given ++ map HasByte segment) (record { part = []; rest = []; awaited = past_body n old.awaited })) long has_read)
