-- A byte list spells at most one message, no spelling begins another, and a fault excludes both.
use Rattle.std.proofs.Common.{◌≡◌, ℕ, ◌+◌, ◌<◌, ◌≤◌, List, [], ◌∷◌, ◌++◌, length, take, drop, Result, Ok, Err, refl, sym, ap, subst, ◌∙◌, append_assoc, arith, inl, inr, get_or, min, Bool, true, false, leb}
use Rattle.std.specs.Prelude.{IsOkAnd}
use Rattle.std.specs.List.{AllByRecursion}
use Rattle.std.specs.Int.{w16, w32, from_be_bytes}
use Rattle.std.proofs.lemmas.Nat.{from_be_bytes-to_be_bytes_2, from_be_bytes-to_be_bytes_4}
use Rattle.std.proofs.lemmas.List.{length-append, take-append-drop, take-take, take_all, take_at, length-take}
use Rattle.std.proofs.lemmas.Bool.{cases_lt, leb-true, leb-false}
use Rattle.base_types.specs.declared.limits.TheConstants.Limits.{IPP_HEAD_BYTES}
use Rattle.ipp_codec.specs.declared.fault.CodecFault.{CodecFault}
use Rattle.ipp_codec.specs.declared.fault.CodecFault.TheVariants.{Short, BadTag, BadLength, BadValue, LooseValue, BadCollection, TooDeep, TooLarge}
use Rattle.ipp_codec.specs.declared.place.Place.{Place}
use Rattle.ipp_codec.specs.declared.place.Place.TheVariants.{Outside}
use Rattle.ipp_codec.specs.Message.{IppMessage, IppGroup}
use Rattle.ipp_codec.specs.Spelling.{Element, bytes_of, elements, header, spelling}
use Rattle.ipp_codec.specs.Grammar.{IsGroup, IsMessage, Spells}
use Rattle.ipp_codec.specs.Place.{depth, place_from, Follows}
use Rattle.ipp_codec.specs.FirstFault.{First, FirstFault, HeadFault, AtPart, AtField, AtValue, IsCut, IsTooLong}
use Rattle.ipp_codec.specs.Shown.{Level, levels_of, top}
use Rattle.ipp_codec.specs.Decoding.{Lengths, fault_within}
use Rattle.ipp_codec.proofs.Tree.{Closed, read_groups, groups_follow, groups_closed}
use Rattle.ipp_codec.proofs.GroupsHaveSpelling.{Follows-prefix}
use Rattle.ipp_codec.proofs.Unique.{unique, end_stops, first_stops}
use Rattle.ipp_codec.proofs.OneFault.{one_first}

-- the parts of a head
record Same (m k : IppMessage) (x y : List ℕ) : Type 0 where
  pub major : m.major ≡ k.major
  pub minor : m.minor ≡ k.minor
  pub code : m.code ≡ k.code
  pub request_id : m.request_id ≡ k.request_id
  pub rest : x ≡ y

one_header : (m k : IppMessage) (x y : List ℕ) → IsMessage m → IsMessage k → header m ++ x ≡ header k ++ y → Same m k x y
one_header m k x y p q is = record {
  major = ap (λ (l : List ℕ). get_or l 0 0) is;
  minor = ap (λ (l : List ℕ). get_or l 1 0) is;
  code = sym (from_be_bytes-to_be_bytes_2 m.code p.code) ∙ ap (λ (l : List ℕ). from_be_bytes w16 (take 2 (drop 2 l))) is ∙ from_be_bytes-to_be_bytes_2 k.code q.code;
  request_id = sym (from_be_bytes-to_be_bytes_4 m.request_id p.request_id) ∙ ap (λ (l : List ℕ). from_be_bytes w32 (take 4 (drop 4 l))) is ∙ from_be_bytes-to_be_bytes_4 k.request_id q.request_id;
  rest = ap (λ (l : List ℕ). drop 8 l) is;
}

same_groups : (gs hs : List IppGroup) → AllByRecursion IsGroup gs → AllByRecursion IsGroup hs → elements gs ≡ elements hs → gs ≡ hs
same_groups gs hs p q is =
    ap (λ (l : Level). l.groups) (sym (read_groups gs p)) ∙ ap (λ (es : List Element). (top (levels_of es)).groups) is ∙ ap (λ (l : Level). l.groups) (read_groups hs q)

regroup : (m : IppMessage) (x : List ℕ) → spelling m ++ x ≡ header m ++ (bytes_of (elements m.groups) ++ 3 ∷ x)
regroup m x = append_assoc (header m) (bytes_of (elements m.groups) ++ 3 ∷ []) x ∙ ap (λ (l : List ℕ). header m ++ l) (append_assoc (bytes_of (elements m.groups)) (3 ∷ []) x)

one_message : (m k : IppMessage) → m.major ≡ k.major → m.minor ≡ k.minor → m.code ≡ k.code → m.request_id ≡ k.request_id → m.groups ≡ k.groups → m ≡ k
one_message m k a b c d e =
    let made : ℕ → ℕ → ℕ → ℕ → List IppGroup → IppMessage = λ a b c d e. record { major = a; minor = b; code = c; request_id = d; groups = e } in
    ap (λ (x : ℕ). made x m.minor m.code m.request_id m.groups) a
    ∙ ap (λ (x : ℕ). made k.major x m.code m.request_id m.groups) b
    ∙ ap (λ (x : ℕ). made k.major k.minor x m.request_id m.groups) c
    ∙ ap (λ (x : ℕ). made k.major k.minor k.code x m.groups) d
    ∙ ap (λ (x : List IppGroup). made k.major k.minor k.code k.request_id x) e

pub one_spelling : (m k : IppMessage) (x y : List ℕ) → IsMessage m → IsMessage k → spelling m ++ x ≡ spelling k ++ y → (m ≡ k) × (x ≡ y)
one_spelling m k x y p q is =
    let same = one_header m k _ _ p q (sym (regroup m x) ∙ is ∙ regroup k y) in
    let es = groups_follow m.groups Outside refl p.groups in
    let fs = groups_follow k.groups Outside refl q.groups in
    let body = unique Outside (elements m.groups) (elements k.groups) (3 ∷ x) (3 ∷ y) es fs same.rest (end_stops _ x) (end_stops _ y) in
    let groups = same_groups m.groups k.groups p.groups q.groups body.0 in
    (one_message m k same.major same.minor same.code same.request_id groups, ap (λ (l : List ℕ). drop 1 l) body.1)

-- ---- a fault is no end

starts : (part : List ℕ) (tag : ℕ) (rest y : List ℕ) → part ≡ tag ∷ rest → part ≡ 3 ∷ y → tag ≡ 3
starts part tag rest y p q = ap (λ (l : List ℕ). get_or l 0 0) (sym p ∙ q)

no_field : (place : Place) (part : List ℕ) (P : List ℕ → Type 0) (y : List ℕ) → AtField place part P → part ≡ 3 ∷ y → ⊥
no_field place part P y at is =
    elim at.tail [
      | inl h ↦ omega (arith, starts part at.tag _ y h is, at.admitted.0)
      | inr h ↦ omega (arith, starts part at.tag _ y h.2 is, at.admitted.0)
    ]

no_value_there : (place : Place) (part : List ℕ) (f : CodecFault) (y : List ℕ) → AtValue place part f → part ≡ 3 ∷ y → ⊥
no_value_there place part f y at is = omega (arith, starts part at.tag _ y at.whole.joined is, at.whole.admitted.0)

pub not_end : (place : Place) (part : List ℕ) (f : CodecFault) (y : List ℕ) → depth place ≡ 0 → First place part f → part ≡ 3 ∷ y → ⊥
not_end place part Short y d (inl none) is = let h = sym none ∙ is in absurd cc
not_end place part Short y d (inr at) is = no_field place part IsCut y at is
not_end place part BadLength y d at is = no_field place part IsTooLong y at is
not_end place part BadTag y d at is =
    let same = starts part at.0 at.1 y at.2 is in
    elim at.3 [ inl z ↦ omega (arith, z, same) | inr s ↦ omega (arith, s.0, same) ]
not_end place part BadCollection y d (inl at) is = omega (arith, d, at.3.2)
not_end place part BadCollection y d (inr at) is = no_value_there place part BadCollection y at is
not_end place part LooseValue y d at is = no_value_there place part LooseValue y at is
not_end place part BadValue y d at is = no_value_there place part BadValue y at is
not_end place part TooDeep y d at is = no_value_there place part TooDeep y at is
not_end place part TooLarge y d at is = at

-- the elements before a fault may follow one another
before_follows : (bytes : List ℕ) (f : CodecFault) → (at : AtPart bytes f) → Follows Outside at.before
before_follows bytes f at = Follows-prefix Outside at.before at.tail (subst (λ (es : List Element). Follows Outside es) at.split (groups_follow at.message.groups Outside refl at.is_message.groups))

pub fault_excludes : (bytes : List ℕ) (f : CodecFault) (m : IppMessage) (y : List ℕ) → FirstFault bytes f → IsMessage m → bytes ≡ spelling m ++ y → ⊥
fault_excludes bytes f m y (inl short) p is = omega (arith, short.0, ap length is, length-append (bytes_of (elements m.groups) ++ 3 ∷ []) y)
fault_excludes bytes f m y (inr at) p is =
    let same = one_header at.message m _ _ at.is_message p (sym at.joined ∙ is ∙ regroup m y) in
    let body = unique Outside at.before (elements m.groups) at.part (3 ∷ y) (before_follows bytes f at) (groups_follow m.groups Outside refl p.groups) same.rest (first_stops _ at.part f at.first) (end_stops _ y) in
    let closed : Closed Outside at.before = subst (λ (es : List Element). Closed Outside es) (sym body.0) (groups_closed m.groups Outside refl) in
    not_end _ at.part f y closed at.first body.1

lengths_only : (bytes : List ℕ) (r : Result ℕ CodecFault) → Lengths bytes r → (n : ℕ) (m : IppMessage) → Spells (take n bytes) m → IsOkAnd r (λ x. x ≡ length (spelling m))
lengths_only bytes (Ok x) at n m spells =
    let whole : bytes ≡ spelling m ++ drop n bytes = sym (take-append-drop n bytes) ∙ ap (λ (l : List ℕ). l ++ drop n bytes) spells.1 in
    let one = one_spelling at.0 m at.1 (drop n bytes) at.2 spells.0 (sym at.3 ∙ whole) in
    at.4 ∙ ap (λ (k : IppMessage). length (spelling k)) one.0
lengths_only bytes (Err f) at n m spells =
    let whole : bytes ≡ spelling m ++ drop n bytes = sym (take-append-drop n bytes) ∙ ap (λ (l : List ℕ). l ++ drop n bytes) spells.1 in
    absurd (fault_excludes bytes f m (drop n bytes) at spells.0 whole)

-- ---- the limit

within : (bytes : List ℕ) (k : ℕ) → k ≡ min (length bytes) IPP_HEAD_BYTES → take k bytes ≡ take IPP_HEAD_BYTES bytes
within bytes k is = elim (cases_lt (length bytes) IPP_HEAD_BYTES) [
  | inl lt ↦ take_all k bytes (omega (arith, is)) ∙ sym (take_all IPP_HEAD_BYTES bytes (omega arith))
  | inr le ↦ let same : k ≡ IPP_HEAD_BYTES = omega (arith, is) in ap (λ (n : ℕ). take n bytes) same
]

pub limited_only : (bytes : List ℕ) (k : ℕ) (r : Result ℕ CodecFault) → k ≡ min (length bytes) IPP_HEAD_BYTES → Lengths (take k bytes) r → (n : ℕ) (m : IppMessage) → n ≤ IPP_HEAD_BYTES → Spells (take n bytes) m → IsOkAnd r (λ x. x ≡ length (spelling m))
limited_only bytes k r is at n m le spells =
    let same : take n (take k bytes) ≡ take n bytes = ap (λ (l : List ℕ). take n l) (within bytes k is) ∙ take-take n IPP_HEAD_BYTES bytes le in
    lengths_only (take k bytes) r at n m (subst (λ (l : List ℕ). Spells l m) (sym same) spells)

omega_len : (bytes : List ℕ) (k n t : ℕ) → k ≡ min (length bytes) IPP_HEAD_BYTES → n + t ≡ length (take k bytes) → (n ≤ IPP_HEAD_BYTES) × (n ≤ length bytes) × (n ≤ k)
omega_len bytes k n t is len = (omega (arith, is, len, length-take k bytes), omega (arith, is, len, length-take k bytes), omega (arith, is, len, length-take k bytes))

pub limited_found : (bytes : List ℕ) (k n : ℕ) → k ≡ min (length bytes) IPP_HEAD_BYTES → Lengths (take k bytes) (Ok n) → (n ≤ IPP_HEAD_BYTES) × (n ≤ length bytes) × ((m : IppMessage) × Spells (take n bytes) m)
limited_found bytes k n is at =
    let len : n + length at.1 ≡ length (take k bytes) = sym (ap length at.3 ∙ omega (arith, length-append (spelling at.0) at.1, at.4)) in
    let short = omega_len bytes k n (length at.1) is len in
    (short.0, short.1, (at.0, (at.2, sym (take-take n k bytes short.2) ∙ ap (λ (l : List ℕ). take n l) at.3 ∙ take_at (spelling at.0) at.1 n (sym at.4))))

no_large : (bytes : List ℕ) → FirstFault bytes TooLarge → ⊥
no_large bytes (inl h) = let e = h.1 in cc
no_large bytes (inr at) = at.first

pub limited_fault : (bytes : List ℕ) (k : ℕ) (f : CodecFault) (is_long : Bool) → k ≡ min (length bytes) IPP_HEAD_BYTES → is_long ≡ leb IPP_HEAD_BYTES (length bytes) → FirstFault (take k bytes) f → HeadFault bytes (fault_within f is_long)
limited_fault bytes k Short true is long fault = (leb-true _ _ (sym long), subst (λ (l : List ℕ). FirstFault l Short) (within bytes k is) fault)
limited_fault bytes k Short false is long fault =
    let lt = leb-false _ _ (sym long) in
    (lt, subst (λ (l : List ℕ). FirstFault l Short) (take_all k bytes (omega (arith, is))) fault)
limited_fault bytes k TooLarge _ is long fault = absurd (no_large (take k bytes) fault)
limited_fault bytes k BadTag _ is long fault = subst (λ (l : List ℕ). FirstFault l BadTag) (within bytes k is) fault
limited_fault bytes k BadLength _ is long fault = subst (λ (l : List ℕ). FirstFault l BadLength) (within bytes k is) fault
limited_fault bytes k BadValue _ is long fault = subst (λ (l : List ℕ). FirstFault l BadValue) (within bytes k is) fault
limited_fault bytes k LooseValue _ is long fault = subst (λ (l : List ℕ). FirstFault l LooseValue) (within bytes k is) fault
limited_fault bytes k BadCollection _ is long fault = subst (λ (l : List ℕ). FirstFault l BadCollection) (within bytes k is) fault
limited_fault bytes k TooDeep _ is long fault = subst (λ (l : List ℕ). FirstFault l TooDeep) (within bytes k is) fault

-- ---- one fault at most

long_header : (m : IppMessage) (x : List ℕ) → 8 ≤ length (header m ++ x)
long_header m x = omega arith

no_short : (bytes : List ℕ) (f : CodecFault) → AtPart bytes f → length bytes < 8 → ⊥
no_short bytes f at short = omega (arith, short, ap length at.joined, long_header at.message (bytes_of at.before ++ at.part))

both_faults : (bytes : List ℕ) (f g : CodecFault) → AtPart bytes f → AtPart bytes g → f ≡ g
both_faults bytes f g a b =
    let same = one_header a.message b.message _ _ a.is_message b.is_message (sym a.joined ∙ b.joined) in
    let body = unique Outside a.before b.before a.part b.part (before_follows bytes f a) (before_follows bytes g b) same.rest (first_stops _ a.part f a.first) (first_stops _ b.part g b.first) in
    let moved : First (place_from Outside a.before) a.part g = subst (λ (es : List Element). First (place_from Outside es) a.part g) (sym body.0) (subst (λ (l : List ℕ). First (place_from Outside b.before) l g) (sym body.1) b.first) in
    one_first _ a.part f g a.first moved

pub one_fault : (bytes : List ℕ) (f g : CodecFault) → FirstFault bytes f → FirstFault bytes g → f ≡ g
one_fault bytes f g (inl a) (inl b) = a.1 ∙ sym b.1
one_fault bytes f g (inl a) (inr b) = absurd (no_short bytes g b a.0)
one_fault bytes f g (inr a) (inl b) = absurd (no_short bytes f a b.0)
one_fault bytes f g (inr a) (inr b) = both_faults bytes f g a b
