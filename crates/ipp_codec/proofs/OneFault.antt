-- A part has one first fault.
use Rattle.std.proofs.Common.{◌≡◌, ℕ, List, [], ◌∷◌, ◌++◌, Option, Some, Result, Ok, Err, refl, sym, ap, subst, ◌∙◌, inl, inr, arith, get_or}
use Rattle.ipp_codec.specs.declared.fault.CodecFault.{CodecFault}
use Rattle.ipp_codec.specs.declared.fault.CodecFault.TheVariants.{Short, BadTag, BadLength, BadValue, LooseValue, BadCollection, TooDeep, TooLarge}
use Rattle.ipp_codec.specs.declared.place.Place.{Place}
use Rattle.ipp_codec.specs.Spelling.{Element, opening, plainly, begin, named, finish, counted}
use Rattle.ipp_codec.specs.Place.{Takes}
use Rattle.ipp_codec.specs.Kind.{kind_of}
use Rattle.ipp_codec.specs.FirstFault.{First, Admits, IsCut, IsTooLong, Breaks, Exceeds, IsLoose, AtValue, AtTag, IsBadTag, IsUnclosed}
use Rattle.ipp_codec.specs.Reading.{fields_at}
use Rattle.ipp_codec.proofs.Parts.{Fields, no_both}
use Rattle.ipp_codec.proofs.Unique.{Unread, field_faults, cut_short, too_long, whole_fields}

-- the part at a fault, by its first byte
data Met (place : Place) (part : List ℕ) (f : CodecFault) : Type 0 where
  missing : part ≡ [] → f ≡ Short → Met place part f
  bad_tag : AtTag part (IsBadTag place) → f ≡ BadTag → Met place part f
  unclosed : AtTag part (IsUnclosed place) → f ≡ BadCollection → Met place part f
  unread : Unread place part f → Met place part f
  broken : (tag : ℕ) → (bytes : List ℕ) → (x : Fields) → Admits place tag → part ≡ tag ∷ bytes → fields_at bytes ≡ Ok x → Breaks place tag x.0 x.1 f → Met place part f

value_met : (place : Place) (part : List ℕ) (f : CodecFault) → AtValue place part f → Met place part f
value_met place part f at =
    let w = at.whole in
    broken at.tag ((counted at.name ++ counted at.bytes) ++ w.rest) (at.name, at.bytes, w.rest) w.admitted w.joined (whole_fields place part at.tag at.name at.bytes w) at.breaks

met : (place : Place) (part : List ℕ) (f : CodecFault) → First place part f → Met place part f
met place part Short (inl none) = missing none refl
met place part Short (inr at) = unread (field_faults place part IsCut Short at cut_short)
met place part BadLength at = unread (field_faults place part IsTooLong BadLength at too_long)
met place part BadTag at = bad_tag at refl
met place part BadCollection (inl at) = unclosed at refl
met place part BadCollection (inr at) = value_met place part BadCollection at
met place part LooseValue at = value_met place part LooseValue at
met place part BadValue at = value_met place part BadValue at
met place part TooDeep at = value_met place part TooDeep at
met place part TooLarge at = absurd at

-- ---- one rule is broken first

some_same : (o : Option Element) (e d : Element) → o ≡ Some e → o ≡ Some d → e ≡ d
some_same o e d p q = cc

one_excess : (place : Place) (e : Element) (f g : CodecFault) → Exceeds place e f → Exceeds place e g → f ≡ g
one_excess place (begin name) TooDeep TooDeep a b = refl
one_excess place (begin name) TooDeep _ a b = absurd b
one_excess place (begin name) _ g a b = absurd a
one_excess place (plainly tag name bytes) BadValue BadValue a b = refl
one_excess place (plainly tag name bytes) BadValue _ a b = absurd b
one_excess place (plainly tag name bytes) _ g a b = absurd a
one_excess place (opening tag) f g a b = absurd a
one_excess place (named name) f g a b = absurd a
one_excess place finish f g a b = absurd a

-- the content of a broken rule, without its fault
data Breach (place : Place) (tag : ℕ) (name bytes : List ℕ) (f : CodecFault) : Type 0 where
  loose : IsLoose place name → f ≡ LooseValue → Breach place tag name bytes f
  misplaced : ¬ (IsLoose place name) → ((e : Element) → kind_of tag name bytes ≡ Some e → ¬ (Takes place e)) → f ≡ BadCollection → Breach place tag name bytes f
  exceeding : ¬ (IsLoose place name) → (e : Element) → kind_of tag name bytes ≡ Some e → Takes place e → Exceeds place e f → Breach place tag name bytes f

breach : (place : Place) (tag : ℕ) (name bytes : List ℕ) (f : CodecFault) → Breaks place tag name bytes f → Breach place tag name bytes f
breach place tag name bytes LooseValue b = loose b refl
breach place tag name bytes BadCollection b = misplaced b.0 b.1 refl
breach place tag name bytes Short b = exceeding b.0 b.1.0 b.1.1 b.1.2 b.1.3
breach place tag name bytes BadTag b = exceeding b.0 b.1.0 b.1.1 b.1.2 b.1.3
breach place tag name bytes BadLength b = exceeding b.0 b.1.0 b.1.1 b.1.2 b.1.3
breach place tag name bytes BadValue b = exceeding b.0 b.1.0 b.1.1 b.1.2 b.1.3
breach place tag name bytes TooDeep b = exceeding b.0 b.1.0 b.1.1 b.1.2 b.1.3
breach place tag name bytes TooLarge b = exceeding b.0 b.1.0 b.1.1 b.1.2 b.1.3

one_of : (place : Place) (tag : ℕ) (name bytes : List ℕ) (f g : CodecFault) → Breach place tag name bytes f → Breach place tag name bytes g → f ≡ g
one_of place tag name bytes f g (loose a p) (loose b q) = p ∙ sym q
one_of place tag name bytes f g (loose a p) (misplaced n h q) = absurd (n a)
one_of place tag name bytes f g (loose a p) (exceeding n e k t x) = absurd (n a)
one_of place tag name bytes f g (misplaced n h p) (loose b q) = absurd (n b)
one_of place tag name bytes f g (misplaced n h p) (misplaced m i q) = p ∙ sym q
one_of place tag name bytes f g (misplaced n h p) (exceeding m e k t x) = absurd (h e k t)
one_of place tag name bytes f g (exceeding n e k t x) (loose b q) = absurd (n b)
one_of place tag name bytes f g (exceeding n e k t x) (misplaced m i q) = absurd (i e k t)
one_of place tag name bytes f g (exceeding n e k t x) (exceeding m d l u y) =
    one_excess place e f g x (subst (λ (z : Element). Exceeds place z g) (some_same (kind_of tag name bytes) d e l k) y)

one_breach : (place : Place) (tag : ℕ) (name bytes : List ℕ) (f g : CodecFault) → Breaks place tag name bytes f → Breaks place tag name bytes g → f ≡ g
one_breach place tag name bytes f g a b = one_of place tag name bytes f g (breach place tag name bytes f a) (breach place tag name bytes g b)

-- ---- one fault

one_tag : (part : List ℕ) (t u : ℕ) (x y : List ℕ) → part ≡ t ∷ x → part ≡ u ∷ y → t ≡ u
one_tag part t u x y p q = ap (λ (l : List ℕ). get_or l 0 0) (sym p ∙ q)

same_list : (a b : ℕ) (x y : List ℕ) → a ∷ x ≡ b ∷ y → x ≡ y
same_list a b x y is = cc

one_rest : (part : List ℕ) (t u : ℕ) (x y : List ℕ) → part ≡ t ∷ x → part ≡ u ∷ y → x ≡ y
one_rest part t u x y p q = same_list t u x y (sym p ∙ q)

nothing_there : (part : List ℕ) (t : ℕ) (x : List ℕ) → part ≡ [] → part ≡ t ∷ x → ⊥
nothing_there part t x p q = let h = sym p ∙ q in cc

err_is : (r : Result Fields CodecFault) (f g : CodecFault) → r ≡ Err f → r ≡ Err g → f ≡ g
err_is r f g p q = cc

ok_is : (r : Result Fields CodecFault) (x y : Fields) → r ≡ Ok x → r ≡ Ok y → x ≡ y
ok_is r x y p q = cc

-- a value's tag that is inside is no bad one, and no group's
no_bad_tag : (place : Place) (part : List ℕ) (tag : ℕ) (bytes : List ℕ) → AtTag part (IsBadTag place) → Admits place tag → part ≡ tag ∷ bytes → ⊥
no_bad_tag place part tag bytes at admitted is =
    let same = one_tag part at.0 tag at.1 bytes at.2 is in
    elim at.3 [ inl z ↦ omega (arith, z, same, admitted.0) | inr s ↦ admitted.2 s.1 ]

no_unclosed : (place : Place) (part : List ℕ) (tag : ℕ) (bytes : List ℕ) → AtTag part (IsUnclosed place) → Admits place tag → part ≡ tag ∷ bytes → ⊥
no_unclosed place part tag bytes at admitted is = omega (arith, one_tag part at.0 tag at.1 bytes at.2 is, at.3.1, admitted.0)

not_both_tags : (place : Place) (part : List ℕ) → AtTag part (IsBadTag place) → AtTag part (IsUnclosed place) → ⊥
not_both_tags place part a b =
    let same = one_tag part a.0 b.0 a.1 b.1 a.2 b.2 in
    elim a.3 [ inl z ↦ omega (arith, z, same, b.3.0) | inr s ↦ omega (arith, s.0, same, b.3.1) ]

unread_broken : (place : Place) (part : List ℕ) (f : CodecFault) (tag : ℕ) (bytes : List ℕ) (x : Fields) → Unread place part f → part ≡ tag ∷ bytes → fields_at bytes ≡ Ok x → ⊥
unread_broken place part f tag bytes x u is reads =
    let same = one_rest part tag u.tag bytes u.bytes is u.joined in
    no_both (fields_at u.bytes) x f (subst (λ (l : List ℕ). fields_at l ≡ Ok x) same reads) u.fails

one_met : (place : Place) (part : List ℕ) (f g : CodecFault) → Met place part f → Met place part g → f ≡ g
one_met place part f g (missing n p) (missing m q) = p ∙ sym q
one_met place part f g (missing n p) (bad_tag a q) = absurd (nothing_there part a.0 a.1 n a.2)
one_met place part f g (missing n p) (unclosed a q) = absurd (nothing_there part a.0 a.1 n a.2)
one_met place part f g (missing n p) (unread u) = absurd (nothing_there part u.tag u.bytes n u.joined)
one_met place part f g (missing n p) (broken t b x a i r k) = absurd (nothing_there part t b n i)
one_met place part f g (bad_tag a p) (missing m q) = absurd (nothing_there part a.0 a.1 m a.2)
one_met place part f g (bad_tag a p) (bad_tag b q) = p ∙ sym q
one_met place part f g (bad_tag a p) (unclosed b q) = absurd (not_both_tags place part a b)
one_met place part f g (bad_tag a p) (unread u) = absurd (no_bad_tag place part u.tag u.bytes a u.admitted u.joined)
one_met place part f g (bad_tag a p) (broken t b x c i r k) = absurd (no_bad_tag place part t b a c i)
one_met place part f g (unclosed a p) (missing m q) = absurd (nothing_there part a.0 a.1 m a.2)
one_met place part f g (unclosed a p) (bad_tag b q) = absurd (not_both_tags place part b a)
one_met place part f g (unclosed a p) (unclosed b q) = p ∙ sym q
one_met place part f g (unclosed a p) (unread u) = absurd (no_unclosed place part u.tag u.bytes a u.admitted u.joined)
one_met place part f g (unclosed a p) (broken t b x c i r k) = absurd (no_unclosed place part t b a c i)
one_met place part f g (unread u) (missing m q) = absurd (nothing_there part u.tag u.bytes m u.joined)
one_met place part f g (unread u) (bad_tag b q) = absurd (no_bad_tag place part u.tag u.bytes b u.admitted u.joined)
one_met place part f g (unread u) (unclosed b q) = absurd (no_unclosed place part u.tag u.bytes b u.admitted u.joined)
one_met place part f g (unread u) (unread v) = err_is (fields_at u.bytes) f g u.fails (subst (λ (l : List ℕ). fields_at l ≡ Err g) (one_rest part v.tag u.tag v.bytes u.bytes v.joined u.joined) v.fails)
one_met place part f g (unread u) (broken t b x c i r k) = absurd (unread_broken place part f t b x u i r)
one_met place part f g (broken t b x c i r k) (missing m q) = absurd (nothing_there part t b m i)
one_met place part f g (broken t b x c i r k) (bad_tag a q) = absurd (no_bad_tag place part t b a c i)
one_met place part f g (broken t b x c i r k) (unclosed a q) = absurd (no_unclosed place part t b a c i)
one_met place part f g (broken t b x c i r k) (unread v) = absurd (unread_broken place part g t b x v i r)
one_met place part f g (broken t b x c i r k) (broken t' b' x' c' i' r' k') =
    let tags = one_tag part t' t b' b i' i in
    let fields : x' ≡ x = ok_is (fields_at b) x' x (subst (λ (l : List ℕ). fields_at l ≡ Ok x') (one_rest part t' t b' b i' i) r') r in
    one_breach place t x.0 x.1 f g k (subst (λ (y : Fields). Breaks place t y.0 y.1 g) fields (subst (λ (n : ℕ). Breaks place n x'.0 x'.1 g) tags k'))

pub one_first : (place : Place) (part : List ℕ) (f g : CodecFault) → First place part f → First place part g → f ≡ g
one_first place part f g a b = one_met place part f g (met place part f a) (met place part g b)
