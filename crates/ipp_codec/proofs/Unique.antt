-- Bytes spell one list of elements at most, and a fault excludes a further element.
use Rattle.std.proofs.Common.{◌≡◌, ◌≢◌, ℕ, ◌+◌, ◌*◌, ◌<◌, ◌≤◌, List, [], ◌∷◌, ◌++◌, length, get_or, Option, Some, None, Result, Ok, Err, refl, sym, ap, subst, ◌∙◌, append_assoc, arith, ltb, leb, true, false, eqb, inl, inr, ◌⊎◌}
use Rattle.std.proofs.lemmas.Bool.{lt-leb, lt-ltb, le-ltb, le-leb, ne_eqb}
use Rattle.std.proofs.lemmas.List.{length-append}
use Rattle.ipp_codec.specs.declared.fault.CodecFault.{CodecFault}
use Rattle.ipp_codec.specs.declared.fault.CodecFault.TheVariants.{Short, BadTag, BadLength, BadValue, LooseValue, BadCollection, TooDeep, TooLarge}
use Rattle.ipp_codec.specs.declared.place.Place.{Place}
use Rattle.ipp_codec.specs.declared.place.Place.TheVariants.{Outside, Opened, Valued, Begun, Naming, Within}
use Rattle.ipp_codec.specs.Spelling.{Element, opening, plainly, begin, named, finish, counted, element_bytes, bytes_of}
use Rattle.ipp_codec.specs.Grammar.{IsGroupTag}
use Rattle.ipp_codec.specs.Place.{depth, after, place_from, Takes, IsSpellable, IsAllowed, Follows}
use Rattle.ipp_codec.specs.Kind.{kind_of}
use Rattle.ipp_codec.specs.FirstFault.{First, Admits, AtField, IsCut, IsTooLong, IsWhole, Breaks, Exceeds, IsLoose, AtValue, AtTag, IsBadTag, IsUnclosed}
use Rattle.ipp_codec.specs.Reading.{counted_at, fields_at, element_from, element_at}
use Rattle.ipp_codec.proofs.Fields.{counted_again}
use Rattle.ipp_codec.proofs.Parts.{Fields, fields_again, element_again, some_long, is_begin, is_named, is_finish, is_plain, kind_is, from_some}

-- No element that is allowed at the place is at the beginning.
abbrev pub Stops : Place → List ℕ → Type 0
Stops place part = (e : Element) (rest : List ℕ) → IsAllowed place e → part ≡ element_bytes e ++ rest → ⊥

-- the element that is read at the beginning
prefix : (place : Place) (part : List ℕ) (e : Element) (rest : List ℕ) → IsAllowed place e → part ≡ element_bytes e ++ rest → element_at part ≡ Some (e, rest)
prefix place part e rest allowed is = ap element_at is ∙ element_again (depth place) e rest allowed.1

-- two readings are of one element
same_read : (r : Option (Element × List ℕ)) (e f : Element) (x y : List ℕ) → r ≡ Some (e, x) → r ≡ Some (f, y) → (e ≡ f) × (x ≡ y)
same_read r e f x y p q =
    let both : (e, x) ≡ (f, y) = cc in
    (ap (λ (z : Element × List ℕ). z.0) both, ap (λ (z : Element × List ℕ). z.1) both)

pub end_stops : (place : Place) (tail : List ℕ) → Stops place (3 ∷ tail)
unfolding element_at
end_stops place tail e rest allowed is = let h = prefix place (3 ∷ tail) e rest allowed is in absurd cc

-- ---- faults of fields

pub cut_short : (field : List ℕ) → IsCut field → counted_at field ≡ Err Short
unfolding counted_at
cut_short [] cut = refl
cut_short (b ∷ []) cut = refl
cut_short (high ∷ low ∷ bytes) cut =
    let a : leb 128 high ≡ false = lt-leb _ _ cut.0 in
    let b : ltb (length bytes) (256 * high + low) ≡ true = lt-ltb _ _ cut.1 in
    rw (a, b) refl

pub too_long : (field : List ℕ) → IsTooLong field → counted_at field ≡ Err BadLength
unfolding counted_at
too_long [] long = absurd long
too_long (b ∷ []) long = absurd long
too_long (high ∷ low ∷ bytes) long = let a : leb 128 high ≡ true = le-leb _ _ long in rw a refl

-- the fields of a value, at its tag
pub record Unread (place : Place) (part : List ℕ) (fault : CodecFault) : Type 0 where
  pub tag : ℕ
  pub bytes : List ℕ
  pub admitted : Admits place tag
  pub joined : part ≡ tag ∷ bytes
  pub fails : fields_at bytes ≡ Err fault

first_fails : (field : List ℕ) (f : CodecFault) → counted_at field ≡ Err f → fields_at field ≡ Err f
unfolding fields_at
first_fails field f bad = rw bad refl

second_fails : (name field : List ℕ) (f : CodecFault) → length name < 0x8000 → counted_at field ≡ Err f → fields_at (counted name ++ field) ≡ Err f
unfolding fields_at
second_fails name field f short bad = rw (counted_again name field short, bad) refl

-- a fault of a field is the value's
pub field_faults : (place : Place) (part : List ℕ) (P : List ℕ → Type 0) (f : CodecFault) → AtField place part P → ((field : List ℕ) → P field → counted_at field ≡ Err f) → Unread place part f
field_faults place part P f at reads =
    let bad = reads at.field at.so in
    elim at.tail [
      | inl h ↦ record { tag = at.tag; bytes = at.field; admitted = at.admitted; joined = h; fails = first_fails at.field f bad }
      | inr h ↦ record { tag = at.tag; bytes = counted h.0 ++ at.field; admitted = at.admitted; joined = h.2; fails = second_fails h.0 at.field f h.1 bad }
    ]

read_from : (tag : ℕ) (bytes : List ℕ) (r : Result Fields CodecFault) → 16 ≤ tag → fields_at bytes ≡ r → element_at (tag ∷ bytes) ≡ element_from tag r
unfolding element_at
read_from tag bytes r low is =
    let a : eqb tag 0 ≡ false = ne_eqb _ _ (omega (arith, low)) in
    let b : eqb tag 3 ≡ false = ne_eqb _ _ (omega (arith, low)) in
    let d : ltb tag 16 ≡ false = le-ltb _ _ low in
    rw (a, b, d, is) refl

unread_stops : (place : Place) (part : List ℕ) (f : CodecFault) → Unread place part f → Stops place part
unread_stops place part f u e rest allowed is =
    let read = prefix place part e rest allowed is in
    let none : element_at part ≡ None = ap element_at u.joined ∙ read_from u.tag u.bytes (Err f) u.admitted.0 u.fails in
    absurd cc

-- bytes that begin with a whole value are read as this value
pub whole_fields : (place : Place) (part : List ℕ) (tag : ℕ) (name bytes : List ℕ) → (w : IsWhole place part tag name bytes) → fields_at ((counted name ++ counted bytes) ++ w.rest) ≡ Ok (name, bytes, w.rest)
whole_fields place part tag name bytes w = fields_again name bytes w.rest w.name_length w.length

abbrev fine : Fields → Result Fields CodecFault
fine x = Ok x

same_kind : (tag : ℕ) (x y : Fields) (e : Element) → fine x ≡ fine y → kind_of tag y.0 y.1 ≡ Some e → kind_of tag x.0 x.1 ≡ Some e
same_kind tag x y e p q = let same : y ≡ x = cc in subst (λ (z : Fields). kind_of tag z.0 z.1 ≡ Some e) same q

from_is : (tag : ℕ) (x : Fields) (e : Element) (rest : List ℕ) → element_from tag (Ok x) ≡ Some (e, rest) → kind_of tag x.0 x.1 ≡ Some e
from_is tag x e rest is = let k = from_some tag (Ok x) e rest is in same_kind tag x k.0 e k.1 k.2

whole_kind : (place : Place) (part : List ℕ) (tag : ℕ) (name bytes : List ℕ) (e : Element) (rest : List ℕ) → IsWhole place part tag name bytes → IsAllowed place e → part ≡ element_bytes e ++ rest → kind_of tag name bytes ≡ Some e
whole_kind place part tag name bytes e rest w allowed is =
    let read : element_from tag (Ok (name, bytes, w.rest)) ≡ Some (e, rest) =
    sym (ap element_at w.joined ∙ read_from tag ((counted name ++ counted bytes) ++ w.rest) (Ok (name, bytes, w.rest)) w.admitted.0 (whole_fields place part tag name bytes w)) ∙ prefix place part e rest allowed is in
    from_is tag (name, bytes, w.rest) e rest read

-- a loose value is no element that may be there
pub loose_not : (place : Place) (tag : ℕ) (name bytes : List ℕ) (e : Element) → IsLoose place name → kind_of tag name bytes ≡ Some e → ¬ (Takes place e)
loose_not place tag name bytes e loose is takes =
    let t : Takes Opened e = subst (λ (p : Place). Takes p e) loose.0 takes in
    elim (kind_is tag name bytes e is) [
      | is_begin a b k ↦ let h : Takes Opened (begin name) = subst (λ (x : Element). Takes Opened x) (sym k) t in h loose.1
      | is_named a n b k ↦ let h : Takes Opened (named bytes) = subst (λ (x : Element). Takes Opened x) (sym k) t in h
      | is_finish a n b k ↦ let h : Takes Opened finish = subst (λ (x : Element). Takes Opened x) (sym k) t in h
      | is_plain p k ↦ let h : Takes Opened (plainly tag name bytes) = subst (λ (x : Element). Takes Opened x) (sym k) t in h loose.1
    ]

exceeds_not : (place : Place) (e : Element) (f : CodecFault) → Exceeds place e f → ¬ (IsSpellable (depth place) e)
exceeds_not place (begin name) TooDeep deep s = omega (arith, deep, s.1)
exceeds_not place (begin name) _ deep s = deep
exceeds_not place (plainly tag name bytes) BadValue bad s = bad s.1.shape
exceeds_not place (plainly tag name bytes) _ bad s = bad
exceeds_not place (opening tag) f bad s = bad
exceeds_not place (named name) f bad s = bad
exceeds_not place finish f bad s = bad

some_same : (o : Option Element) (e d : Element) → o ≡ Some e → o ≡ Some d → e ≡ d
some_same o e d p q = cc

broken_not : (place : Place) (tag : ℕ) (name bytes : List ℕ) (e d : Element) (f : CodecFault) → kind_of tag name bytes ≡ Some d → Exceeds place d f → kind_of tag name bytes ≡ Some e → ¬ (IsAllowed place e)
broken_not place tag name bytes e d f p bad q allowed =
    exceeds_not place e f (subst (λ (x : Element). Exceeds place x f) (some_same (kind_of tag name bytes) d e p q) bad) allowed.1

pub breaks_not : (place : Place) (tag : ℕ) (name bytes : List ℕ) (f : CodecFault) (e : Element) → Breaks place tag name bytes f → kind_of tag name bytes ≡ Some e → ¬ (IsAllowed place e)
breaks_not place tag name bytes LooseValue e breaks is allowed = loose_not place tag name bytes e breaks is allowed.0
breaks_not place tag name bytes BadCollection e breaks is allowed = breaks.1 e is allowed.0
breaks_not place tag name bytes Short e breaks is allowed = broken_not place tag name bytes e breaks.1.0 Short breaks.1.1 breaks.1.3 is allowed
breaks_not place tag name bytes BadTag e breaks is allowed = broken_not place tag name bytes e breaks.1.0 BadTag breaks.1.1 breaks.1.3 is allowed
breaks_not place tag name bytes BadLength e breaks is allowed = broken_not place tag name bytes e breaks.1.0 BadLength breaks.1.1 breaks.1.3 is allowed
breaks_not place tag name bytes BadValue e breaks is allowed = broken_not place tag name bytes e breaks.1.0 BadValue breaks.1.1 breaks.1.3 is allowed
breaks_not place tag name bytes TooDeep e breaks is allowed = broken_not place tag name bytes e breaks.1.0 TooDeep breaks.1.1 breaks.1.3 is allowed
breaks_not place tag name bytes TooLarge e breaks is allowed = broken_not place tag name bytes e breaks.1.0 TooLarge breaks.1.1 breaks.1.3 is allowed

value_stops : (place : Place) (part : List ℕ) (f : CodecFault) → AtValue place part f → Stops place part
value_stops place part f at e rest allowed is =
    breaks_not place at.tag at.name at.bytes f e at.breaks (whole_kind place part at.tag at.name at.bytes e rest at.whole allowed is) allowed

-- the first byte of an element
abbrev head_tag : List ℕ → ℕ
head_tag bytes = get_or bytes 0 0

data Tag (place : Place) (e : Element) (rest : List ℕ) : Type 0 where
  of_group : depth place ≡ 0 → IsGroupTag (head_tag (element_bytes e ++ rest)) → Tag place e rest
  of_value : 16 ≤ head_tag (element_bytes e ++ rest) → place ≢ Outside → Tag place e rest

taken : (place : Place) (e : Element) → Takes place e → (depth place ≡ 0) ⊎ (place ≢ Outside)
taken Outside (opening tag) takes = inl refl
taken Outside (plainly tag name bytes) takes = absurd takes
taken Outside (begin name) takes = absurd takes
taken Outside (named name) takes = absurd takes
taken Outside finish takes = absurd takes
taken Opened e takes = inr (λ h. absurd cc)
taken Valued e takes = inr (λ h. absurd cc)
taken (Begun d) e takes = inr (λ h. absurd cc)
taken (Naming d) e takes = inr (λ h. absurd cc)
taken (Within d) e takes = inr (λ h. absurd cc)

value_inside : (place : Place) (name : List ℕ) → Takes place (begin name) → place ≢ Outside
value_inside Outside name takes h = takes
value_inside Opened name takes h = absurd cc
value_inside Valued name takes h = absurd cc
value_inside (Begun d) name takes h = absurd cc
value_inside (Naming d) name takes h = absurd cc
value_inside (Within d) name takes h = absurd cc

member_inside : (place : Place) → Takes place finish → place ≢ Outside
member_inside Outside takes h = takes
member_inside Opened takes h = absurd cc
member_inside Valued takes h = absurd cc
member_inside (Begun d) takes h = absurd cc
member_inside (Naming d) takes h = absurd cc
member_inside (Within d) takes h = absurd cc

tag_is : (place : Place) (e : Element) (rest : List ℕ) → IsAllowed place e → Tag place e rest
tag_is place (opening tag) rest allowed = of_group allowed.0 allowed.1
tag_is place (plainly tag name bytes) rest allowed = of_value allowed.1.1.tag_from (value_inside place name allowed.0)
tag_is place (begin name) rest allowed = of_value (omega arith) (value_inside place name allowed.0)
tag_is place (named name) rest allowed = of_value (omega arith) (member_inside place allowed.0)
tag_is place finish rest allowed = of_value (omega arith) (member_inside place allowed.0)

bad_tag_stops : (place : Place) (part : List ℕ) → AtTag part (IsBadTag place) → Stops place part
bad_tag_stops place part at e rest allowed is =
    let same : at.0 ≡ head_tag (element_bytes e ++ rest) = ap head_tag (sym at.2 ∙ is) in
    elim (tag_is place e rest allowed) [
      | of_group d t ↦ elim at.3 [ inl z ↦ omega (arith, z, same, t.0) | inr s ↦ omega (arith, s.0, same, t.1) ]
      | of_value low inside ↦ elim at.3 [ inl z ↦ omega (arith, z, same, low) | inr s ↦ inside s.1 ]
    ]

unclosed_stops : (place : Place) (part : List ℕ) → AtTag part (IsUnclosed place) → Stops place part
unclosed_stops place part at e rest allowed is =
    let same : at.0 ≡ head_tag (element_bytes e ++ rest) = ap head_tag (sym at.2 ∙ is) in
    elim (tag_is place e rest allowed) [
      | of_group d t ↦ omega (arith, d, at.3.2)
      | of_value low inside ↦ omega (arith, low, same, at.3.1)
    ]

pub first_stops : (place : Place) (part : List ℕ) (f : CodecFault) → First place part f → Stops place part
first_stops place part Short (inl none) e rest allowed is = let h : 0 ≡ length (element_bytes e ++ rest) = ap length (sym none ∙ is) in absurd (omega (arith, h, some_long e, length-append (element_bytes e) rest))
first_stops place part Short (inr at) e rest allowed is = unread_stops place part Short (field_faults place part IsCut Short at cut_short) e rest allowed is
first_stops place part BadLength at e rest allowed is = unread_stops place part BadLength (field_faults place part IsTooLong BadLength at too_long) e rest allowed is
first_stops place part BadTag at e rest allowed is = bad_tag_stops place part at e rest allowed is
first_stops place part BadCollection (inl at) e rest allowed is = unclosed_stops place part at e rest allowed is
first_stops place part BadCollection (inr at) e rest allowed is = value_stops place part BadCollection at e rest allowed is
first_stops place part LooseValue at e rest allowed is = value_stops place part LooseValue at e rest allowed is
first_stops place part BadValue at e rest allowed is = value_stops place part BadValue at e rest allowed is
first_stops place part TooDeep at e rest allowed is = value_stops place part TooDeep at e rest allowed is
first_stops place part TooLarge at e rest allowed is = at

-- Two ways to begin with elements that stop are one.
pub unique : (place : Place) (es fs : List Element) (x y : List ℕ) → Follows place es → Follows place fs → bytes_of es ++ x ≡ bytes_of fs ++ y → Stops (place_from place es) x → Stops (place_from place fs) y → (es ≡ fs) × (x ≡ y)
unique place [] [] x y p q is stops stops' = (refl, is)
unique place [] (f ∷ fs) x y p q is stops stops' = absurd (stops f (bytes_of fs ++ y) q.0 (is ∙ append_assoc (element_bytes f) (bytes_of fs) y))
unique place (e ∷ es) [] x y p q is stops stops' = absurd (stops' e (bytes_of es ++ x) p.0 (sym is ∙ append_assoc (element_bytes e) (bytes_of es) x))
unique place (e ∷ es) (f ∷ fs) x y p q is stops stops' =
    let a : element_at (bytes_of (e ∷ es) ++ x) ≡ Some (e, bytes_of es ++ x) = prefix place _ e (bytes_of es ++ x) p.0 (append_assoc (element_bytes e) (bytes_of es) x) in
    let b : element_at (bytes_of (e ∷ es) ++ x) ≡ Some (f, bytes_of fs ++ y) = prefix place _ f (bytes_of fs ++ y) q.0 (is ∙ append_assoc (element_bytes f) (bytes_of fs) y) in
    let both = same_read _ e f _ _ a b in
    let others = unique (after place e) es fs x y p.1 (subst (λ (g : Element). Follows (after place g) fs) (sym both.0) q.1) both.1 stops (subst (λ (g : Element). Stops (place_from (after place g) fs) y) (sym both.0) stops') in
    let h : es ≡ fs = others.0 in
    (ap (λ (g : Element). g ∷ es) both.0 ∙ ap (λ (gs : List Element). f ∷ gs) h, others.1)
