-- A head that comes in segments: the state of the decoder for the bytes so far, and the state after a further segment.
use Rattle.std.proofs.Common.{◌≡◌, ◌≢◌, ℕ, zero, suc, ◌+◌, ◌-◌, ◌<◌, ◌≤◌, List, [], ◌∷◌, ◌++◌, length, take, drop, max, Option, Some, None, Ok, refl, sym, ap, subst, ◌∙◌, append_assoc, arith, inl, inr, get_or, Bool, true, false, leb, eqb, cond}
use Rattle.std.proofs.lemmas.List.{append-nil, length-append, length-take, length-drop, take-append-drop, take-take, take_all, take_at, drop_at, drop-append-le, take-append-le, drop-drop, drop_all, take_rest}
use Rattle.std.proofs.lemmas.List.Concat.{flat_map-append}
use Rattle.std.proofs.lemmas.Bool.{cases_lt, leb-true, leb-false, eqb-true, eqb-false}
use Rattle.base_types.specs.declared.limits.TheConstants.Limits.{IPP_HEAD_BYTES}
use Rattle.ipp_codec.specs.declared.fault.CodecFault.{CodecFault}
use Rattle.ipp_codec.specs.declared.fault.CodecFault.TheVariants.{Short, BadTag, BadLength, BadValue, LooseValue, BadCollection, TooDeep, TooLarge}
use Rattle.ipp_codec.specs.declared.place.Place.{Place}
use Rattle.ipp_codec.specs.declared.place.Place.TheVariants.{Outside}
use Rattle.ipp_codec.specs.declared.place.Walk.{Walk}
use Rattle.ipp_codec.specs.Message.{IppMessage}
use Rattle.ipp_codec.specs.Spelling.{Element, bytes_of, element_bytes, spelling}
use Rattle.ipp_codec.specs.Grammar.{Spells}
use Rattle.ipp_codec.specs.Place.{depth, place_from, Follows}
use Rattle.ipp_codec.specs.FirstFault.{First, FirstFault, HeadFault}
use Rattle.ipp_codec.specs.Reading.{EndsAt, Walks, WalksFrom}
use Rattle.ipp_codec.specs.Decoding.{Lengths, fault_within}
use Rattle.ipp_codec.specs.declared.stage.Stage.{Stage}
use Rattle.ipp_codec.specs.declared.stage.Stage.TheVariants.{Awaiting, Whole, Faulty}
use Rattle.ipp_codec.specs.Decoder.{DecoderState, IsBytes, Leads, IsAtStage, HasDecoded, TakesIn, MayCome, with_header, stage_of, stage_at, ended, kept_of, advanced, Feeds, answer_at, reached_of, returned}
use Rattle.ipp_codec.proofs.Fields.{IsBytes-drop}
use Rattle.ipp_codec.proofs.GroupsHaveSpelling.{Follows-append, place_from-append}
use Rattle.ipp_codec.proofs.Heads.{lengths, failed}
use Rattle.ipp_codec.proofs.FaultStays.{bytes_stay}
use Rattle.ipp_codec.proofs.ViewedMessage.{long_head}
use Rattle.ipp_codec.proofs.Once.{not_end}
use Rattle.ipp_codec.proofs.Unique.{first_stops}

-- ---- a walk that goes on

pub Leads-append : (bytes more : List ℕ) (place : Place) (rest : List ℕ) → Leads bytes place rest → Leads (bytes ++ more) place (rest ++ more)
Leads-append bytes more place rest leads = (
  leads.0,
  leads.1,
  ap (λ (l : List ℕ). l ++ more) leads.2 ∙ append_assoc (bytes_of leads.0) rest more,
  leads.3,
)

-- a walk over the bytes that are left leads on
pub Leads-walk : (bytes : List ℕ) (place : Place) (rest : List ℕ) (walk : Walk) → Leads bytes place rest → WalksFrom place rest walk → Leads bytes walk.place (drop walk.length rest)
Leads-walk bytes place rest walk leads walks =
    let es = leads.0 in
    let fs = walks.es in
    let part_is : drop walk.length rest ≡ walks.part = ap (λ (l : List ℕ). drop walk.length l) walks.joined ∙ drop_at (bytes_of fs) walks.part walk.length (sym walks.length) in (
      es ++ fs,
      Follows-append Outside es fs leads.1 (subst (λ (p : Place). Follows p fs) leads.3 walks.follows),
      leads.2 ∙ ap (λ (l : List ℕ). bytes_of es ++ l) (walks.joined ∙ ap (λ (l : List ℕ). bytes_of fs ++ l) (sym part_is))
          ∙ sym (append_assoc (bytes_of es) (bytes_of fs) (drop walk.length rest))
          ∙ ap (λ (l : List ℕ). l ++ drop walk.length rest) (sym (flat_map-append element_bytes es fs)),
      walks.reached ∙ ap (λ (p : Place). place_from p fs) leads.3 ∙ sym (place_from-append Outside es fs),
    )

-- the bytes after a walk
pub walk_ends : (place : Place) (rest : List ℕ) (walk : Walk) → WalksFrom place rest walk → EndsAt walk.fault walk.place (drop walk.length rest)
walk_ends place rest walk walks =
    let part_is : drop walk.length rest ≡ walks.part = ap (λ (l : List ℕ). drop walk.length l) walks.joined ∙ drop_at (bytes_of walks.es) walks.part walk.length (sym walks.length) in
    subst (λ (l : List ℕ). EndsAt walk.fault walk.place l) (sym part_is) walks.ends

-- a walk goes no further than the bytes
pub walk_within : (place : Place) (rest : List ℕ) (walk : Walk) → WalksFrom place rest walk → walk.length ≤ length rest
walk_within place rest walk walks = omega (arith, walks.length, ap length walks.joined, length-append (bytes_of walks.es) walks.part)

-- nor as far where the end byte follows
pub end_within : (place : Place) (rest : List ℕ) (walk : Walk) → WalksFrom place rest walk → walk.fault ≡ None → walk.length + 1 ≤ length rest
end_within place rest walk walks is =
    let ends : EndsAt None walk.place (drop walk.length rest) = subst (λ (f : Option CodecFault). EndsAt f walk.place (drop walk.length rest)) is (walk_ends place rest walk walks) in
    omega (arith, ap length ends.1.1, length-drop walk.length rest)

-- an element that lacks bytes is passed before the end byte
passed_by : (place : Place) (pending chunk : List ℕ) (es : List Element) (part tail : List ℕ) → First place pending Short → Follows place es → pending ++ chunk ≡ bytes_of es ++ part → depth (place_from place es) ≡ 0 → part ≡ 3 ∷ tail → length pending ≤ length (bytes_of es) + 1
passed_by place [] chunk es part tail first follows joined deep ends = omega arith
passed_by place (b ∷ pending) chunk [] part tail first follows joined deep ends =
    let end : b ≡ 3 = ap (λ (l : List ℕ). get_or l 0 0) (joined ∙ ends) in
    absurd (not_end place (b ∷ pending) Short pending deep first (ap (λ (n : ℕ). n ∷ pending) end))
passed_by place (b ∷ pending) chunk (e ∷ es) part tail first follows joined deep ends =
    let all = b ∷ pending in
    let bytes = element_bytes e in
    elim (cases_lt (length all) (length bytes)) [
      | inl lt ↦ omega (arith, lt, length-append bytes (bytes_of es))
      | inr le ↦
          let prefix : take (length bytes) all ≡ bytes =
          sym (take-append-le (length bytes) all chunk le) ∙ ap (λ (l : List ℕ). take (length bytes) l) (joined ∙ append_assoc bytes (bytes_of es) part) ∙ take_at bytes (bytes_of es ++ part) (length bytes) refl in
          absurd (first_stops place all Short first e (drop (length bytes) all) follows.0 (sym (take-append-drop (length bytes) all) ∙ ap (λ (l : List ℕ). l ++ drop (length bytes) all) prefix))
    ]

pub pending_passed : (place : Place) (pending chunk : List ℕ) (walk : Walk) → First place pending Short → WalksFrom place (pending ++ chunk) walk → walk.fault ≡ None → length pending ≤ walk.length + 1
pending_passed place pending chunk walk first walks is =
    let ends : EndsAt None walk.place walks.part = subst (λ (f : Option CodecFault). EndsAt f walk.place walks.part) is walks.ends in
    omega (arith, walks.length, passed_by place pending chunk walks.es walks.part ends.1.0 first walks.follows walks.joined (ap depth (sym walks.reached) ∙ ends.0) ends.1.1)

-- ---- the end of a walk

-- this number of bytes of a head are read, and lead to the place
abbrev pub ReadTo : List ℕ → ℕ → Place → Type 0
ReadTo bytes count place = (8 ≤ count) × (count ≤ length bytes) × Leads (drop 8 bytes) place (drop count bytes)

pub fault_there : (bytes : List ℕ) (count : ℕ) (place : Place) (f : CodecFault) → IsBytes bytes → ReadTo bytes count place → First place (drop count bytes) f → FirstFault bytes f
fault_there bytes count place f fits read first =
    let leads = read.2 in
    failed bytes f fits (omega (arith, read.0, read.1))
    (leads.0, drop count bytes, leads.1, leads.2, subst (λ (p : Place). First p (drop count bytes) f) leads.3 first)

pub head_there : (bytes : List ℕ) (count : ℕ) (place : Place) → IsBytes bytes → ReadTo bytes count place → EndsAt None place (drop count bytes) → (m : IppMessage) × Spells (take (count + 1) bytes) m
head_there bytes count place fits read ends =
    let leads = read.2 in
    let es = leads.0 in
    let long : 8 ≤ length bytes = omega (arith, read.0, read.1) in
    let walks : Walks (drop 8 bytes) (Ok (length (bytes_of es))) = (es, ends.1.0, leads.1, leads.2 ∙ ap (λ (l : List ℕ). bytes_of es ++ l) ends.1.1, refl, ap depth (sym leads.3) ∙ ends.0) in
    let found : Lengths bytes (Ok (8 + length (bytes_of es) + 1)) = lengths bytes (length (bytes_of es)) fits long walks in
    let count_is : count + 1 ≡ 8 + length (bytes_of es) + 1 = omega (arith, read.0, read.1, ap length leads.2, length-append (bytes_of es) (drop count bytes), length-drop 8 bytes, length-drop count bytes) in
    (found.0, (found.2, ap (λ (l : List ℕ). take (count + 1) l) found.3 ∙ take_at (spelling found.0) found.1 (count + 1) (sym found.4 ∙ sym count_is)))

-- ---- the kept bytes

-- the kept bytes are the prefix, and their header that of all
pub record IsPrefix (fed head : List ℕ) : Type 0 where
  pub prefix : (rest : List ℕ) × (fed ≡ head ++ rest)
  pub header : take 8 head ≡ take 8 fed

prefix_of : (fed head : List ℕ) (many : ℕ) → head ≡ take many fed → 8 ≤ many → IsPrefix fed head
prefix_of fed head many is long = record {
  prefix = (drop many fed, sym (take-append-drop many fed) ∙ ap (λ (l : List ℕ). l ++ drop many fed) (sym is));
  header = ap (λ (l : List ℕ). take 8 l) is ∙ take-take 8 many fed long;
}

reaches_of : (fed : List ℕ) (d : DecoderState) → IsBytes fed → IsPrefix fed d.head → IsAtStage d.stage fed d → HasDecoded fed d
reaches_of fed d bytes prefix known = record { bytes = bytes; prefix = prefix.prefix; header = prefix.header; known = known }

-- Bytes after a header are read so far, and a walk goes on over those after; this much of them is kept.
pub record Goes (bytes : List ℕ) (count : ℕ) (place : Place) (walk : Walk) (kept : List ℕ) (before : ℕ) : Type 0 where
  pub fits : IsBytes bytes
  pub read : ReadTo bytes count place
  pub room : length bytes ≤ IPP_HEAD_BYTES
  pub walks : WalksFrom place (drop count bytes) walk
  pub many : ℕ
  pub kept_is : kept ≡ take many bytes
  pub header : 8 ≤ many
  pub whole : walk.fault ≡ None → (count + walk.length + 1 ≤ many) × (before ≤ count + walk.length + 1)
  pub short : walk.fault ≡ Some Short → length bytes ≤ many

-- the state after the walk, where its end is so
abbrev state_by : Option CodecFault → ℕ → Walk → List ℕ → ℕ → DecoderState
state_by fault count walk kept before = record {
  head = ended fault before (count + walk.length) kept;
  walked = count + walk.length;
  place = walk.place;
  stage = stage_at fault (length kept);
}

read_on : (bytes : List ℕ) (count : ℕ) (place : Place) (walk : Walk) (kept : List ℕ) (before : ℕ) → Goes bytes count place walk kept before → ReadTo bytes (count + walk.length) walk.place
read_on bytes count place walk kept before goes =
    let leads = Leads-walk (drop 8 bytes) place (drop count bytes) walk goes.read.2 goes.walks in (
      omega (arith, goes.read.0),
      omega (arith, goes.read.1, walk_within place (drop count bytes) walk goes.walks, length-drop count bytes),
      subst (λ (l : List ℕ). Leads (drop 8 bytes) walk.place l) (drop-drop walk.length count bytes) leads,
    )

-- a fault within a head that has room
faulty : (bytes : List ℕ) (count : ℕ) (place : Place) (walk : Walk) (kept : List ℕ) (before : ℕ) (f : CodecFault) → Goes bytes count place walk kept before → First walk.place (drop (count + walk.length) bytes) f → FirstFault (take IPP_HEAD_BYTES bytes) f
faulty bytes count place walk kept before f goes first =
    subst (λ (l : List ℕ). FirstFault l f) (sym (take_all IPP_HEAD_BYTES bytes goes.room))
    (fault_there bytes (count + walk.length) walk.place f goes.fits (read_on bytes count place walk kept before goes) first)

kept_long : (bytes : List ℕ) (count : ℕ) (place : Place) (walk : Walk) (kept : List ℕ) (before : ℕ) → Goes bytes count place walk kept before → 8 ≤ length kept
kept_long bytes count place walk kept before goes = omega (arith, ap length goes.kept_is, length-take goes.many bytes, goes.header, goes.read.0, goes.read.1)

reaches_whole : (bytes : List ℕ) (count : ℕ) (place : Place) (walk : Walk) (kept : List ℕ) (before : ℕ) → Goes bytes count place walk kept before → walk.fault ≡ None → EndsAt None walk.place (drop (count + walk.length) bytes) → HasDecoded bytes (state_by None count walk kept before)
reaches_whole bytes count place walk kept before goes is ends =
    let so_many = count + walk.length + 1 in
    let most : max before so_many ≡ so_many = omega (arith, (goes.whole is).1) in
    let head_is : take (max before so_many) kept ≡ take so_many bytes = ap (λ (n : ℕ). take n kept) most ∙ ap (λ (l : List ℕ). take so_many l) goes.kept_is ∙ take-take so_many goes.many bytes (goes.whole is).0 in
    let found = head_there bytes (count + walk.length) walk.place goes.fits (read_on bytes count place walk kept before goes) ends in
    reaches_of bytes (state_by None count walk kept before) goes.fits
    (prefix_of bytes (take (max before so_many) kept) so_many head_is (omega (arith, goes.read.0)))
    (omega (arith, ap length head_is, length-take so_many bytes, goes.room), (found.0, subst (λ (l : List ℕ). Spells l found.0) (sym head_is) found.1))

-- the state, where bytes are missing, and whether there is room for more
reaches_short : (bytes : List ℕ) (count : ℕ) (place : Place) (walk : Walk) (kept : List ℕ) (before : ℕ) (full : Bool) → Goes bytes count place walk kept before → kept ≡ bytes → full ≡ leb IPP_HEAD_BYTES (length kept) → First walk.place (drop (count + walk.length) bytes) Short
    → HasDecoded bytes (record { head = kept; walked = count + walk.length; place = walk.place; stage = stage_of (fault_within Short full) })
reaches_short bytes count place walk kept before true goes all is first =
    reaches_of bytes (record { head = kept; walked = count + walk.length; place = walk.place; stage = Faulty TooLarge }) goes.fits
    (prefix_of bytes kept goes.many goes.kept_is goes.header)
    ((λ h. cc), (omega (arith, leb-true _ _ (sym is), ap length all), faulty bytes count place walk kept before Short goes first), kept_long bytes count place walk kept before goes)
reaches_short bytes count place walk kept before false goes all is first =
    let read = read_on bytes count place walk kept before goes in
    let low : length bytes < IPP_HEAD_BYTES = omega (arith, leb-false _ _ (sym is), ap length all) in
    reaches_of bytes (record { head = kept; walked = count + walk.length; place = walk.place; stage = Awaiting }) goes.fits
    (prefix_of bytes kept goes.many goes.kept_is goes.header) (
      all,
      (low, fault_there bytes (count + walk.length) walk.place Short goes.fits read first),
      ((λ h. absurd (omega (arith, h, read.0))), λ h. (subst (λ (l : List ℕ). Leads (drop 8 l) walk.place (drop (count + walk.length) l)) (sym all) read.2, subst (λ (l : List ℕ). First walk.place (drop (count + walk.length) l) Short) (sym all) first)),
    )

-- the state after a fault that no byte takes away
reaches_faulty : (bytes : List ℕ) (count : ℕ) (place : Place) (walk : Walk) (kept : List ℕ) (before : ℕ) (f : CodecFault) → Goes bytes count place walk kept before → f ≢ Short → HeadFault bytes f
    → HasDecoded bytes (record { head = kept; walked = count + walk.length; place = walk.place; stage = Faulty f })
reaches_faulty bytes count place walk kept before f goes other fault =
    reaches_of bytes (record { head = kept; walked = count + walk.length; place = walk.place; stage = Faulty f }) goes.fits
    (prefix_of bytes kept goes.many goes.kept_is goes.header)
    (other, fault, kept_long bytes count place walk kept before goes)

reaches_by : (bytes : List ℕ) (count : ℕ) (place : Place) (walk : Walk) (kept : List ℕ) (before : ℕ) (fault : Option CodecFault) → Goes bytes count place walk kept before → walk.fault ≡ fault → EndsAt fault walk.place (drop (count + walk.length) bytes) → HasDecoded bytes (state_by fault count walk kept before)
reaches_by bytes count place walk kept before None goes is ends = reaches_whole bytes count place walk kept before goes is ends
reaches_by bytes count place walk kept before (Some Short) goes is ends = reaches_short bytes count place walk kept before (leb IPP_HEAD_BYTES (length kept)) goes (goes.kept_is ∙ take_all goes.many bytes (goes.short is)) refl ends
reaches_by bytes count place walk kept before (Some TooLarge) goes is ends = absurd ends
reaches_by bytes count place walk kept before (Some BadTag) goes is ends = reaches_faulty bytes count place walk kept before BadTag goes (λ h. cc) (faulty bytes count place walk kept before BadTag goes ends)
reaches_by bytes count place walk kept before (Some BadLength) goes is ends = reaches_faulty bytes count place walk kept before BadLength goes (λ h. cc) (faulty bytes count place walk kept before BadLength goes ends)
reaches_by bytes count place walk kept before (Some BadValue) goes is ends = reaches_faulty bytes count place walk kept before BadValue goes (λ h. cc) (faulty bytes count place walk kept before BadValue goes ends)
reaches_by bytes count place walk kept before (Some LooseValue) goes is ends = reaches_faulty bytes count place walk kept before LooseValue goes (λ h. cc) (faulty bytes count place walk kept before LooseValue goes ends)
reaches_by bytes count place walk kept before (Some BadCollection) goes is ends = reaches_faulty bytes count place walk kept before BadCollection goes (λ h. cc) (faulty bytes count place walk kept before BadCollection goes ends)
reaches_by bytes count place walk kept before (Some TooDeep) goes is ends = reaches_faulty bytes count place walk kept before TooDeep goes (λ h. cc) (faulty bytes count place walk kept before TooDeep goes ends)

pub reaches_after : (bytes : List ℕ) (d : DecoderState) (walk : Walk) (before : ℕ) → Goes bytes d.walked d.place walk d.head before → HasDecoded bytes (advanced d walk before)
reaches_after bytes d walk before goes =
    reaches_by bytes d.walked d.place walk d.head before walk.fault goes refl
    (subst (λ (l : List ℕ). EndsAt walk.fault walk.place l) (drop-drop walk.length d.walked bytes) (walk_ends d.place (drop d.walked bytes) walk goes.walks))

-- ---- the parts that stay

pub IsBytes-append : (bytes more : List ℕ) → IsBytes bytes → IsBytes more → IsBytes (bytes ++ more)
IsBytes-append [] more a b i = b i
IsBytes-append (x ∷ bytes) more a b zero = a 0
IsBytes-append (x ∷ bytes) more a b (suc i) = IsBytes-append bytes more (λ k. a (suc k)) b i

take_over : (bytes more : List ℕ) (n : ℕ) → length bytes ≤ n → take n (bytes ++ more) ≡ bytes ++ take (n - length bytes) more
take_over [] more n le = let same : n ≡ n - 0 = omega arith in ap (λ (k : ℕ). take k more) same
take_over (x ∷ bytes) more zero le = absurd (omega (arith, le))
take_over (x ∷ bytes) more (suc n) le =
    let same : suc n - suc (length bytes) ≡ n - length bytes = omega arith in
    ap (λ (l : List ℕ). x ∷ l) (take_over bytes more n (omega (arith, le)) ∙ ap (λ (k : ℕ). bytes ++ take k more) (sym same))

-- the first bytes of a longer text begin as before
limit_more : (bytes more : List ℕ) → (later : List ℕ) × (take IPP_HEAD_BYTES (bytes ++ more) ≡ take IPP_HEAD_BYTES bytes ++ later)
limit_more bytes more = elim (cases_lt (length bytes) IPP_HEAD_BYTES) [
  | inl lt ↦ (take (IPP_HEAD_BYTES - length bytes) more, take_over bytes more IPP_HEAD_BYTES (omega arith) ∙ ap (λ (l : List ℕ). l ++ take (IPP_HEAD_BYTES - length bytes) more) (sym (take_all IPP_HEAD_BYTES bytes (omega arith))))
  | inr le ↦ ([], take-append-le IPP_HEAD_BYTES bytes more le ∙ sym (append-nil (take IPP_HEAD_BYTES bytes)))
]

first_stays : (bytes more : List ℕ) (f : CodecFault) → f ≢ Short → FirstFault (take IPP_HEAD_BYTES bytes) f → FirstFault (take IPP_HEAD_BYTES (bytes ++ more)) f
first_stays bytes more f other fault =
    let later = limit_more bytes more in
    subst (λ (l : List ℕ). FirstFault l f) (sym later.1) (bytes_stay (take IPP_HEAD_BYTES bytes) later.0 f other fault)

pub head_fault_stays : (bytes more : List ℕ) (f : CodecFault) → f ≢ Short → HeadFault bytes f → HeadFault (bytes ++ more) f
head_fault_stays bytes more Short other fault = absurd (other refl)
head_fault_stays bytes more TooLarge other fault = (omega (arith, fault.0, length-append bytes more), subst (λ (l : List ℕ). FirstFault l Short) (sym (take-append-le IPP_HEAD_BYTES bytes more fault.0)) fault.1)
head_fault_stays bytes more BadTag other fault = first_stays bytes more BadTag other fault
head_fault_stays bytes more BadLength other fault = first_stays bytes more BadLength other fault
head_fault_stays bytes more BadValue other fault = first_stays bytes more BadValue other fault
head_fault_stays bytes more LooseValue other fault = first_stays bytes more LooseValue other fault
head_fault_stays bytes more BadCollection other fault = first_stays bytes more BadCollection other fault
head_fault_stays bytes more TooDeep other fault = first_stays bytes more TooDeep other fault

-- the kept bytes are no longer than the fed bytes
head_long : (fed : List ℕ) (d : DecoderState) → HasDecoded fed d → 8 ≤ length d.head → 8 ≤ length fed
head_long fed d reaches long = omega (arith, long, ap length reaches.prefix.1, length-append d.head reaches.prefix.0)

long_spelling : (bytes : List ℕ) (m : IppMessage) → Spells bytes m → 8 ≤ length bytes
long_spelling bytes m spells = omega (arith, long_head bytes m spells)

-- bytes that come when nothing more is awaited
stays_at : (fed more : List ℕ) (d : DecoderState) (stage : Stage) → d.stage ≡ stage → HasDecoded fed d → IsAtStage stage fed d → ¬ (MayCome d) → (8 ≤ length fed) × IsAtStage stage (fed ++ more) d
stays_at fed more d Awaiting is reaches known none = absurd (none (is, omega (arith, known.1.0, ap length known.0)))
stays_at fed more d Whole is reaches known none = (head_long fed d reaches (long_spelling d.head known.1.0 known.1.1), known)
stays_at fed more d (Faulty fault) is reaches known none = (head_long fed d reaches known.2, (known.0, head_fault_stays fed more fault known.0 known.1, known.2))

pub stays : (fed more : List ℕ) (d : DecoderState) → IsBytes more → HasDecoded fed d → ¬ (MayCome d) → HasDecoded (fed ++ more) d
stays fed more d fits reaches none =
    let known = stays_at fed more d d.stage refl reaches reaches.known none in
    record {
      bytes = IsBytes-append fed more reaches.bytes fits;
      prefix = (reaches.prefix.0 ++ more, ap (λ (l : List ℕ). l ++ more) reaches.prefix.1 ∙ append_assoc d.head reaches.prefix.0 more);
      header = reaches.header ∙ sym (take-append-le 8 fed more known.0);
      known = known.1;
    }

-- ---- one step of a decoder

awaiting : (fed : List ℕ) (d : DecoderState) → MayCome d → HasDecoded fed d → IsAtStage Awaiting fed d
awaiting fed d may reaches = subst (λ (s : Stage). IsAtStage s fed d) may.0 reaches.known

take_after : (bytes more : List ℕ) (n : ℕ) → take (length bytes + n) (bytes ++ more) ≡ bytes ++ take n more
take_after bytes more n =
    let same : (length bytes + n) - length bytes ≡ n = omega arith in
    take_over bytes more (length bytes + n) (omega arith) ∙ ap (λ (k : ℕ). bytes ++ take k more) same

-- a walk over the unread bytes and a chunk after them, of which this prefix is kept
pub goes_taken : (d : DecoderState) (chunk prefix : List ℕ) (many : ℕ) (walk : Walk) → IsBytes chunk → MayCome d → 8 ≤ d.walked → d.walked ≤ length d.head
    → length d.head + length chunk ≤ IPP_HEAD_BYTES → WalksFrom d.place (drop d.walked (d.head ++ chunk)) walk → prefix ≡ take many chunk
    → (walk.fault ≡ None → d.walked + walk.length + 1 ≤ length d.head + many) → (walk.fault ≡ Some Short → length chunk ≤ many)
    → TakesIn d chunk (advanced (record d { head = d.head ++ prefix }) walk (length d.head))
goes_taken d chunk prefix many walk fits may read within room walks prefix_is whole short fed reaches =
    let known = awaiting fed d may reaches in
    let bytes = d.head ++ chunk in
    let header : drop 8 bytes ≡ drop 8 d.head ++ chunk = drop-append-le 8 d.head chunk (omega (arith, read, within)) in
    let unread : drop d.walked bytes ≡ drop d.walked d.head ++ chunk = drop-append-le d.walked d.head chunk within in
    let leads : Leads (drop 8 d.head) d.place (drop d.walked d.head) = (known.2.1 read).0 in
    let pending : First d.place (drop d.walked d.head) Short = (known.2.1 read).1 in
    let over : WalksFrom d.place (drop d.walked d.head ++ chunk) walk = subst (λ (l : List ℕ). WalksFrom d.place l walk) unread walks in
    let further : Leads (drop 8 bytes) d.place (drop d.walked bytes) =
    subst (λ (l : List ℕ). Leads l d.place (drop d.walked bytes)) (sym header)
    (subst (λ (l : List ℕ). Leads (drop 8 d.head ++ chunk) d.place l) (sym unread) (Leads-append (drop 8 d.head) chunk d.place (drop d.walked d.head) leads)) in
    let goes : Goes bytes d.walked d.place walk (d.head ++ prefix) (length d.head) = record {
      fits = subst (λ (l : List ℕ). IsBytes (l ++ chunk)) (sym known.0) (IsBytes-append fed chunk reaches.bytes fits);
      read = (read, omega (arith, within, length-append d.head chunk), further);
      room = omega (arith, room, length-append d.head chunk);
      walks = walks;
      many = length d.head + many;
      kept_is = ap (λ (l : List ℕ). d.head ++ l) prefix_is ∙ sym (take_after d.head chunk many);
      header = omega (arith, read, within);
      whole = λ h. (whole h, omega (arith, within, length-drop d.walked d.head, pending_passed d.place (drop d.walked d.head) chunk walk pending over h));
      short = λ h. omega (arith, short h, length-append d.head chunk);
    } in
    subst (λ (l : List ℕ). HasDecoded (l ++ chunk) (advanced (record d { head = d.head ++ prefix }) walk (length d.head))) known.0
    (reaches_after bytes (record d { head = d.head ++ prefix }) walk (length d.head) goes)

-- the same by steps: bytes are kept, and the walk goes over the unread bytes
pub lacking_taken : (old mid new : DecoderState) (chunk unread : List ℕ) (place : Place) (walk : Walk) (kept : ℕ) → IsBytes chunk → MayCome old → 8 ≤ old.walked → old.walked < length old.head → length old.head + length chunk ≤ IPP_HEAD_BYTES
    → mid ≡ record old { head = old.head ++ chunk } → place ≡ mid.place → unread ≡ drop mid.walked mid.head → WalksFrom place unread walk → kept ≡ length old.head → new ≡ advanced mid walk kept → TakesIn old chunk new
lacking_taken old mid new chunk unread place walk kept fits may read begun room mid_is place_is unread_is walks kept_is new_is =
    let over : WalksFrom old.place (drop old.walked (old.head ++ chunk)) walk =
    subst (λ (p : Place). WalksFrom p (drop old.walked (old.head ++ chunk)) walk) (place_is ∙ ap (λ (d : DecoderState). d.place) mid_is)
    (subst (λ (l : List ℕ). WalksFrom place l walk) (unread_is ∙ ap (λ (d : DecoderState). drop d.walked d.head) mid_is) walks) in
    let same : new ≡ advanced (record old { head = old.head ++ chunk }) walk (length old.head) = new_is ∙ ap (λ (d : DecoderState). advanced d walk kept) mid_is ∙ ap (λ (n : ℕ). advanced (record old { head = old.head ++ chunk }) walk n) kept_is in
    subst (λ (d : DecoderState). TakesIn old chunk d) (sym same)
    (goes_taken old chunk chunk (length chunk) walk fits may read (omega (arith, begun)) room over (sym (take_all (length chunk) chunk (omega arith)))
    (λ h. omega (arith, begun, end_within old.place (drop old.walked (old.head ++ chunk)) walk over h, length-drop old.walked (old.head ++ chunk), length-append old.head chunk)) (λ h. omega arith))

-- a walk over a chunk where nothing is unread
pub elements_taken : (old mid new : DecoderState) (chunk prefix : List ℕ) (place : Place) (walk : Walk) (kept many : ℕ) → IsBytes chunk → MayCome old → 8 ≤ old.walked → old.walked ≡ length old.head → length old.head + length chunk ≤ IPP_HEAD_BYTES
    → place ≡ old.place → WalksFrom place chunk walk → many ≡ kept_of walk.fault walk.length (length chunk) → prefix ≡ take many chunk → mid ≡ record old { head = old.head ++ prefix } → kept ≡ length old.head → new ≡ advanced mid walk kept → TakesIn old chunk new
elements_taken old mid new chunk prefix place walk kept many fits may read between room place_is walks many_is prefix_is mid_is kept_is new_is =
    let bare : drop old.walked (old.head ++ chunk) ≡ chunk = drop_at old.head chunk old.walked (sym between) in
    let over : WalksFrom old.place (drop old.walked (old.head ++ chunk)) walk =
    subst (λ (l : List ℕ). WalksFrom old.place l walk) (sym bare) (subst (λ (p : Place). WalksFrom p chunk walk) place_is walks) in
    let same : new ≡ advanced (record old { head = old.head ++ prefix }) walk (length old.head) = new_is ∙ ap (λ (d : DecoderState). advanced d walk kept) mid_is ∙ ap (λ (n : ℕ). advanced (record old { head = old.head ++ prefix }) walk n) kept_is in
    subst (λ (d : DecoderState). TakesIn old chunk d) (sym same)
    (goes_taken old chunk prefix many walk fits may read (omega (arith, between)) room over prefix_is
    (λ h. let some : many ≡ walk.length + 1 = many_is ∙ ap (λ (f : Option CodecFault). kept_of f walk.length (length chunk)) h in omega (arith, some, between))
    (λ h. let all : many ≡ length chunk = many_is ∙ ap (λ (f : Option CodecFault). kept_of f walk.length (length chunk)) h in omega (arith, all)))

-- a walk over the unread bytes goes no further than the kept bytes
pub unread_within : (d : DecoderState) (place : Place) (unread : List ℕ) (walk : Walk) → WalksFrom place unread walk → unread ≡ drop d.walked d.head → d.walked ≤ length d.head → d.walked + walk.length ≤ length d.head
unread_within d place unread walk walks is within = omega (arith, within, walk_within place unread walk walks, ap length is, length-drop d.walked d.head)

-- the kept bytes stay first
pub advanced_grows : (old mid new : DecoderState) (prefix : List ℕ) (walk : Walk) (fault : Option CodecFault) (kept : ℕ) → mid ≡ record old { head = old.head ++ prefix } → kept ≡ length old.head → walk.fault ≡ fault → new ≡ advanced mid walk kept → take (length old.head) new.head ≡ old.head
advanced_grows old mid new prefix walk None kept mid_is kept_is is new_is =
    let n = max kept (mid.walked + walk.length + 1) in
    let head : new.head ≡ take n (old.head ++ prefix) = ap (λ (d : DecoderState). d.head) new_is ∙ ap (λ (f : Option CodecFault). ended f kept (mid.walked + walk.length) mid.head) is ∙ ap (λ (d : DecoderState). take n d.head) mid_is in
    ap (λ (l : List ℕ). take (length old.head) l) head ∙ take-take (length old.head) n (old.head ++ prefix) (omega (arith, kept_is)) ∙ take_at old.head prefix (length old.head) refl
advanced_grows old mid new prefix walk (Some f) kept mid_is kept_is is new_is =
    let head : new.head ≡ old.head ++ prefix = ap (λ (d : DecoderState). d.head) new_is ∙ ap (λ (f : Option CodecFault). ended f kept (mid.walked + walk.length) mid.head) is ∙ ap (λ (d : DecoderState). d.head) mid_is in
    ap (λ (l : List ℕ). take (length old.head) l) head ∙ take_at old.head prefix (length old.head) refl

-- the bytes of the header, where it is whole or not
header_by : (bytes : List ℕ) (d : DecoderState) (is_whole : Bool) → IsBytes bytes → d.place ≡ Outside → d.walked < 8 → length bytes ≤ 8 → is_whole ≡ eqb (length bytes) 8
    → HasDecoded bytes (record { head = bytes; walked = cond is_whole 8 d.walked; place = d.place; stage = Awaiting })
header_by bytes d true fits outside low short is =
    let long : length bytes ≡ 8 = eqb-true _ _ (sym is) in
    let none : drop 8 bytes ≡ [] = drop_all 8 bytes (omega (arith, long)) in
    let read : ReadTo bytes 8 Outside = (omega arith, omega (arith, long), ([], tt, refl, refl)) in
    record {
      bytes = fits;
      prefix = ([], sym (append-nil bytes));
      header = refl;
      known = (
        refl,
        (omega (arith, long), fault_there bytes 8 Outside Short fits read (inl none)),
        ((λ h. absurd (omega (arith, h))), λ h. (([], tt, refl, outside), inl none)),
      );
    }
header_by bytes d false fits outside low short is =
    let other : length bytes ≢ 8 = eqb-false _ _ (sym is) in
    let less : length bytes < 8 = omega (arith, short, other) in
    record {
      bytes = fits;
      prefix = ([], sym (append-nil bytes));
      header = refl;
      known = (refl, (omega (arith, less), inl (less, refl)), ((λ h. outside), λ h. absurd (omega (arith, h, low))));
    }

pub header_taken : (d : DecoderState) (prefix : List ℕ) → IsBytes prefix → MayCome d → d.walked < 8 → length d.head + length prefix ≤ 8 → TakesIn d prefix (with_header d prefix)
header_taken d prefix fits may low short fed reaches =
    let known = awaiting fed d may reaches in
    let bytes = d.head ++ prefix in
    let all : IsBytes bytes = subst (λ (l : List ℕ). IsBytes (l ++ prefix)) (sym known.0) (IsBytes-append fed prefix reaches.bytes fits) in
    let made = header_by bytes d (eqb (length bytes) 8) all (known.2.0 low) low (omega (arith, short, length-append d.head prefix)) refl in
    subst (λ (l : List ℕ). HasDecoded (l ++ prefix) (with_header d prefix)) known.0
    (subst (λ (s : Stage). HasDecoded bytes (record { head = bytes; walked = cond (eqb (length bytes) 8) 8 d.walked; place = d.place; stage = s })) (sym may.0) made)

-- ---- a segment

pub fed_by : (old new : DecoderState) (segment : List ℕ) (stage : Stage) → new.stage ≡ stage → TakesIn old segment new → length old.head ≤ length new.head → length new.head ≤ length old.head + length segment
    → Feeds old segment (answer_at stage (length new.head - length old.head)) new
fed_by old new segment Awaiting is takes grows bounded = (takes, is)
fed_by old new segment Whole is takes grows bounded = (takes, is, omega (arith, grows), omega (arith, bounded))
fed_by old new segment (Faulty fault) is takes grows bounded = (takes, is)

-- bytes that begin with other bytes are no shorter than these
pub begins_long : (bytes prefix : List ℕ) → take (length prefix) bytes ≡ prefix → length prefix ≤ length bytes
begins_long bytes prefix is = omega (arith, ap length is, length-take (length prefix) bytes)

pub back : (old new : DecoderState) → take (length old.head) new.head ≡ old.head → returned new (reached_of old) ≡ old
back old new is = ap (λ (l : List ℕ). let made : DecoderState = record { head = l; walked = old.walked; place = old.place; stage = old.stage } in made) is

-- The part of a segment that a decoder has taken, and the part that is left.
abbrev pub Taken : DecoderState → List ℕ → List ℕ → DecoderState → Type 0
Taken start segment rest now =
    (taken : List ℕ) × (segment ≡ taken ++ rest) × TakesIn start taken now
    × (take (length start.head) now.head ≡ start.head) × (length now.head ≤ length start.head + length taken)

pub more_taken : (start now new : DecoderState) (segment rest : List ℕ) (count : ℕ) → Taken start segment rest now → count ≤ length rest → TakesIn now (take count rest) new → take (length now.head) new.head ≡ now.head → length new.head ≤ length now.head + count
    → Taken start segment (take (length rest - count) (drop count rest)) new
more_taken start now new segment rest count so_far within takes grows bounded =
    let taken = so_far.0 in
    let chunk = take count rest in
    let long : length chunk ≡ count = omega (arith, within, length-take count rest) in
    let split : rest ≡ chunk ++ take (length rest - count) (drop count rest) = sym (take-append-drop count rest) ∙ ap (λ (l : List ℕ). chunk ++ l) (sym (take_rest rest count)) in (
      taken ++ chunk,
      so_far.1 ∙ ap (λ (l : List ℕ). taken ++ l) split ∙ sym (append_assoc taken chunk (take (length rest - count) (drop count rest))),
      λ fed reaches. subst (λ (l : List ℕ). HasDecoded l new) (append_assoc fed taken chunk) (takes (fed ++ taken) (so_far.2 fed reaches)),
      sym (take-take (length start.head) (length now.head) new.head (begins_long now.head start.head so_far.3)) ∙ ap (λ (l : List ℕ). take (length start.head) l) grows ∙ so_far.3,
      omega (arith, bounded, so_far.4, long, length-append taken chunk),
    )

pub over_taken : (start now : DecoderState) (segment rest : List ℕ) → IsBytes segment → Taken start segment rest now → ¬ (MayCome now) → TakesIn start segment now
over_taken start now segment rest fits so_far over fed reaches =
    let taken = so_far.0 in
    let left : drop (length taken) segment ≡ rest = ap (λ (l : List ℕ). drop (length taken) l) so_far.1 ∙ drop_at taken rest (length taken) refl in
    let rest_fits : IsBytes rest = subst IsBytes left (IsBytes-drop (length taken) segment fits) in
    subst (λ (l : List ℕ). HasDecoded l now) (append_assoc fed taken rest ∙ ap (λ (l : List ℕ). fed ++ l) (sym so_far.1)) (stays (fed ++ taken) rest now rest_fits (so_far.2 fed reaches) over)
