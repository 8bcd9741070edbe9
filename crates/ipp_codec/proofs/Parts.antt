-- Elements at the beginning of bytes: an element that is read is the element that was written, and a written element is read again.
use Rattle.std.proofs.Common.{◌≡◌, ◌≢◌, ℕ, ◌<◌, ◌≤◌, Bool, true, false, ltb, eqb, List, [], ◌∷◌, ◌++◌, length, Option, Some, None, option_map, Result, Ok, Err, refl, sym, ap, subst, ◌∙◌, append_assoc, arith, inl, inr, ◌⊎◌, IsTrue, ◌↔◌}
use Rattle.std.proofs.lemmas.Bool.{le-ltb, eqb-true, eqb-false, ne_eqb, lt-ltb}
use Rattle.std.proofs.lemmas.List.{append-nil, nil_from_length, length-append}
use Rattle.ipp_codec.specs.declared.fault.CodecFault.{CodecFault}
use Rattle.ipp_codec.specs.Spelling.{Element, opening, plainly, begin, named, finish, counted, value_bytes, element_bytes}
use Rattle.ipp_codec.specs.Grammar.{IsWithLanguage, IsGroupTag, IsCollectionTag, IsPlain, IsName}
use Rattle.ipp_codec.specs.Place.{IsSpellable}
use Rattle.ipp_codec.specs.Kind.{kind_of, begin_kind, named_kind, finish_kind}
use Rattle.ipp_codec.specs.Reading.{counted_at, second_field, both_fields, fields_at, element_from, element_at}
use Rattle.ipp_codec.proofs.Fields.{IsBytes, IsBytes-rest, chosen, counted_takes, counted_again}

-- ---- a name and a value

abbrev pub Fields : Type 0
Fields = List ℕ × List ℕ × List ℕ

pub record AreFields (bytes name value rest : List ℕ) : Type 0 where
  pub joined : bytes ≡ (counted name ++ counted value) ++ rest
  pub name_length : length name < 0x8000
  pub length : length value < 0x8000
  pub rest_fits : IsBytes rest

pub both_ok : (r : Result (List ℕ × List ℕ) CodecFault) (x : Fields) → both_fields r ≡ Ok x → (a : List ℕ × List ℕ) × (r ≡ Ok a) × (second_field a.0 (counted_at a.1) ≡ Ok x)
both_ok (Ok a) x is = (a, refl, is)
both_ok (Err f) x is = absurd cc

pub second_ok : (name : List ℕ) (r : Result (List ℕ × List ℕ) CodecFault) (x : Fields) → second_field name r ≡ Ok x → (b : List ℕ × List ℕ) × (r ≡ Ok b) × ((name, b.0, b.1) ≡ x)
second_ok name (Ok b) x is = (b, refl, cc)
second_ok name (Err f) x is = absurd cc

pub both_err : (r : Result (List ℕ × List ℕ) CodecFault) (f : CodecFault) → both_fields r ≡ Err f → (r ≡ Err f) ⊎ ((a : List ℕ × List ℕ) × (r ≡ Ok a) × (second_field a.0 (counted_at a.1) ≡ Err f))
both_err (Ok a) f is = inr (a, refl, is)
both_err (Err g) f is = inl cc

pub second_err : (name : List ℕ) (r : Result (List ℕ × List ℕ) CodecFault) (f : CodecFault) → second_field name r ≡ Err f → r ≡ Err f
second_err name (Ok b) f is = absurd cc
second_err name (Err g) f is = cc

pub fields_take : (bytes : List ℕ) (x : Fields) → IsBytes bytes → fields_at bytes ≡ Ok x → AreFields bytes x.0 x.1 x.2
unfolding fields_at
fields_take bytes x fits is =
    let a = both_ok (counted_at bytes) x is in
    let b = second_ok a.0.0 (counted_at a.0.1) x a.2 in
    let p = counted_takes bytes a.0.0 a.0.1 fits a.1 in
    let q = counted_takes a.0.1 b.0.0 b.0.1 p.rest_fits b.1 in
    let whole : AreFields bytes a.0.0 b.0.0 b.0.1 = record {
      joined = p.joined ∙ ap (λ (t : List ℕ). counted a.0.0 ++ t) q.joined ∙ sym (append_assoc (counted a.0.0) (counted b.0.0) b.0.1);
      name_length = p.below;
      length = q.below;
      rest_fits = q.rest_fits;
    } in
    subst (λ (y : Fields). AreFields bytes y.0 y.1 y.2) b.2 whole

pub fields_again : (name value rest : List ℕ) → length name < 0x8000 → length value < 0x8000 → fields_at ((counted name ++ counted value) ++ rest) ≡ Ok (name, value, rest)
unfolding fields_at
fields_again name value rest p q =
    let first : counted_at ((counted name ++ counted value) ++ rest) ≡ Ok (name, counted value ++ rest) = ap counted_at (append_assoc (counted name) (counted value) rest) ∙ counted_again name (counted value ++ rest) p in
    rw (first, counted_again value rest q) refl

-- ---- a language and a text

pub with_language : (bytes a r b : List ℕ) → IsBytes bytes → counted_at bytes ≡ Ok (a, r) → counted_at r ≡ Ok (b, []) → IsWithLanguage bytes
with_language bytes a r b fits e f =
    let p = counted_takes bytes a r fits e in
    let q = counted_takes r b [] p.rest_fits f in
    (a, b, p.below, q.below, p.joined ∙ ap (λ (t : List ℕ). counted a ++ t) (q.joined ∙ append-nil (counted b)))

pub with_language_again : (bytes : List ℕ) → IsWithLanguage bytes → (a : List ℕ) × (b : List ℕ) × (counted_at bytes ≡ Ok (a, counted b)) × (counted_at (counted b) ≡ Ok (b, []))
with_language_again bytes w =
    let again : counted_at (counted w.1) ≡ Ok (w.1, []) = ap counted_at (sym (append-nil (counted w.1))) ∙ counted_again w.1 [] w.3 in
    (w.0, w.1, ap counted_at w.4 ∙ counted_again w.0 (counted w.1) w.2, again)

ok_is : {A : Type 0} (r : Result A CodecFault) (x y : A) → r ≡ Ok x → r ≡ Ok y → x ≡ y
ok_is r x y e f = cc

pub no_both : {A : Type 0} (r : Result A CodecFault) (x : A) (d : CodecFault) → r ≡ Ok x → r ≡ Err d → ⊥
no_both r x d e f = cc

pub no_language : (bytes : List ℕ) (f : CodecFault) → counted_at bytes ≡ Err f → IsWithLanguage bytes → ⊥
no_language bytes f e w = let a = with_language_again bytes w in no_both (counted_at bytes) (a.0, counted a.1) f a.2 e

pub no_text : (bytes a r : List ℕ) (f : CodecFault) → counted_at bytes ≡ Ok (a, r) → counted_at r ≡ Err f → IsWithLanguage bytes → ⊥
no_text bytes a r f e g w =
    let b = with_language_again bytes w in
    let same : (b.0, counted b.1) ≡ (a, r) = ok_is (counted_at bytes) (b.0, counted b.1) (a, r) b.2 e in
    let rest : counted b.1 ≡ r = ap (λ (p : List ℕ × List ℕ). p.1) same in
    no_both (counted_at r) (b.1, []) f (subst (λ (t : List ℕ). counted_at t ≡ Ok (b.1, [])) rest b.3) g

-- no byte is left after the text
pub nothing_left : (bytes a r b s : List ℕ) → counted_at bytes ≡ Ok (a, r) → counted_at r ≡ Ok (b, s) → IsWithLanguage bytes → s ≡ []
nothing_left bytes a r b s e f w =
    let x = with_language_again bytes w in
    let same : (x.0, counted x.1) ≡ (a, r) = ok_is (counted_at bytes) (x.0, counted x.1) (a, r) x.2 e in
    let rest : counted x.1 ≡ r = ap (λ (p : List ℕ × List ℕ). p.1) same in
    let last : (x.1, []) ≡ (b, s) = ok_is (counted_at r) (x.1, []) (b, s) (subst (λ (t : List ℕ). counted_at t ≡ Ok (x.1, [])) rest x.3) f in
    sym (ap (λ (p : List ℕ × List ℕ). p.1) last)

pub language_iff : (bytes a r b s : List ℕ) (answer : Bool) → IsBytes bytes → counted_at bytes ≡ Ok (a, r) → counted_at r ≡ Ok (b, s) → answer ≡ eqb (length s) 0
    → IsTrue answer ↔ IsWithLanguage bytes
language_iff bytes a r b s answer fits e f is = (
  λ h. let none : s ≡ [] = nil_from_length s (eqb-true _ _ (sym is ∙ h)) in
      with_language bytes a r b fits e (rw (← none) f),
  λ w. let none = nothing_left bytes a r b s e f w in is ∙ rw none refl,
)

-- ---- kinds of elements

pub data KindIs (tag : ℕ) (name bytes : List ℕ) (e : Element) : Type 0 where
  is_begin : tag ≡ 0x34 → bytes ≡ [] → begin name ≡ e → KindIs tag name bytes e
  is_named : tag ≡ 0x4A → name ≡ [] → bytes ≢ [] → named bytes ≡ e → KindIs tag name bytes e
  is_finish : tag ≡ 0x37 → name ≡ [] → bytes ≡ [] → finish ≡ e → KindIs tag name bytes e
  is_plain : ¬ (IsCollectionTag tag) → plainly tag name bytes ≡ e → KindIs tag name bytes e

begins : (tag : ℕ) (name bytes : List ℕ) (e : Element) → tag ≡ 0x34 → begin_kind name bytes ≡ Some e → KindIs tag name bytes e
begins tag name [] e t is = is_begin t refl cc
begins tag name (b ∷ bytes) e t is = absurd cc

names : (tag : ℕ) (name bytes : List ℕ) (e : Element) → tag ≡ 0x4A → named_kind name bytes ≡ Some e → KindIs tag name bytes e
names tag [] [] e t is = absurd cc
names tag [] (b ∷ bytes) e t is = is_named t refl (λ h. absurd cc) cc
names tag (n ∷ name) bytes e t is = absurd cc

finishes : (tag : ℕ) (name bytes : List ℕ) (e : Element) → tag ≡ 0x37 → finish_kind name bytes ≡ Some e → KindIs tag name bytes e
finishes tag [] [] e t is = is_finish t refl refl cc
finishes tag [] (b ∷ bytes) e t is = absurd cc
finishes tag (n ∷ name) bytes e t is = absurd cc

no_collection : (tag : ℕ) → tag ≢ 0x34 → tag ≢ 0x4A → tag ≢ 0x37 → ¬ (IsCollectionTag tag)
no_collection tag a b c (inl h) = a h
no_collection tag a b c (inr (inl h)) = c h
no_collection tag a b c (inr (inr h)) = b h

pub kind_is : (tag : ℕ) (name bytes : List ℕ) (e : Element) → kind_of tag name bytes ≡ Some e → KindIs tag name bytes e
unfolding kind_of
kind_is tag name bytes e is =
    elim (chosen (eqb tag 0x34) (begin_kind name bytes) _ (Some e) is) [
      | inl h ↦ begins tag name bytes e (eqb-true _ _ h.0) h.1
      | inr h ↦ elim (chosen (eqb tag 0x4A) (named_kind name bytes) _ (Some e) h.1) [
        | inl g ↦ names tag name bytes e (eqb-true _ _ g.0) g.1
        | inr g ↦ elim (chosen (eqb tag 0x37) (finish_kind name bytes) (Some (plainly tag name bytes)) (Some e) g.1) [
          | inl k ↦ finishes tag name bytes e (eqb-true _ _ k.0) k.1
          | inr k ↦ is_plain (no_collection tag (eqb-false _ _ h.0) (eqb-false _ _ g.0) (eqb-false _ _ k.0)) cc
        ]
      ]
    ]

-- An element that is no group's tag is spelled as this value.
pub record IsForm (e : Element) (tag : ℕ) (name bytes : List ℕ) : Type 0 where
  pub kind : kind_of tag name bytes ≡ Some e
  pub spelled : element_bytes e ≡ value_bytes tag name bytes
  pub tag_from : 16 ≤ tag
  pub tag_below : tag < 256
  pub name_length : length name < 0x8000
  pub length : length bytes < 0x8000

plain_kind : (tag : ℕ) (name bytes : List ℕ) → ¬ (IsCollectionTag tag) → kind_of tag name bytes ≡ Some (plainly tag name bytes)
unfolding kind_of
plain_kind tag name bytes plain =
    let a : eqb tag 0x34 ≡ false = ne_eqb _ _ (λ h. plain (inl h)) in
    let b : eqb tag 0x4A ≡ false = ne_eqb _ _ (λ h. plain (inr (inr h))) in
    let c : eqb tag 0x37 ≡ false = ne_eqb _ _ (λ h. plain (inr (inl h))) in
    rw (a, b, c) refl

named_form : (name : List ℕ) → IsName name → IsForm (named name) 0x4A [] name
unfolding kind_of
named_form [] is = absurd (is.0 refl)
named_form (c ∷ name) is = record { kind = refl; spelled = refl; tag_from = omega arith; tag_below = omega arith; name_length = omega arith; length = is.1 }

begin_form : (name : List ℕ) → length name < 0x8000 → IsForm (begin name) 0x34 name []
unfolding kind_of
begin_form name short = record { kind = refl; spelled = refl; tag_from = omega arith; tag_below = omega arith; name_length = short; length = omega arith }

finish_form : IsForm finish 0x37 [] []
unfolding kind_of
finish_form = record { kind = refl; spelled = refl; tag_from = omega arith; tag_below = omega arith; name_length = omega arith; length = omega arith }

plain_form : (tag : ℕ) (name bytes : List ℕ) → length name < 0x8000 → IsPlain tag bytes → IsForm (plainly tag name bytes) tag name bytes
plain_form tag name bytes short plain = record { kind = plain_kind tag name bytes plain.no_collection; spelled = refl; tag_from = plain.tag_from; tag_below = plain.tag_below; name_length = short; length = plain.length }

-- the spelling of an element, by its kind
pub data Form (e : Element) : Type 0 where
  tagged : (tag : ℕ) → opening tag ≡ e → IsGroupTag tag → Form e
  formed : (tag : ℕ) → (name bytes : List ℕ) → IsForm e tag name bytes → Form e

pub form : (around : ℕ) (e : Element) → IsSpellable around e → Form e
form around (opening tag) s = tagged tag refl s
form around (plainly tag name bytes) s = formed tag name bytes (plain_form tag name bytes s.0 s.1)
form around (begin name) s = formed 0x34 name [] (begin_form name s.0)
form around (named name) s = formed 0x4A [] name (named_form name s)
form around finish s = formed 0x37 [] [] finish_form

-- the spelling of an element that is read
pub kind_spelled : (tag : ℕ) (name bytes : List ℕ) (e : Element) → kind_of tag name bytes ≡ Some e → element_bytes e ≡ value_bytes tag name bytes
kind_spelled tag name bytes e is =
    elim (kind_is tag name bytes e is) [
      | is_begin t b k ↦ ap element_bytes (sym k) ∙ rw (t, b) refl
      | is_named t n b k ↦ ap element_bytes (sym k) ∙ rw (t, n) refl
      | is_finish t n b k ↦ ap element_bytes (sym k) ∙ rw (t, n, b) refl
      | is_plain p k ↦ ap element_bytes (sym k)
    ]

-- A plain value has no collection's tag.
abbrev pub HasOwnTag : Element → Type 0
HasOwnTag (plainly tag name bytes) = tag ≢ 0x34
HasOwnTag _ = Unit {0}

pub kind_sorted : (tag : ℕ) (name bytes : List ℕ) (e : Element) → kind_of tag name bytes ≡ Some e → HasOwnTag e
kind_sorted tag name bytes e is =
    elim (kind_is tag name bytes e is) [
      | is_begin t b k ↦ subst HasOwnTag k tt
      | is_named t n b k ↦ subst HasOwnTag k tt
      | is_finish t n b k ↦ subst HasOwnTag k tt
      | is_plain p k ↦ subst HasOwnTag k (λ h. p (inl h))
    ]

-- ---- elements

value_again : (tag : ℕ) (name bytes : List ℕ) (e : Element) (rest : List ℕ) → IsForm e tag name bytes → element_at (value_bytes tag name bytes ++ rest) ≡ Some (e, rest)
unfolding element_at
value_again tag name bytes e rest f =
    let a : eqb tag 0 ≡ false = ne_eqb _ _ (omega (arith, f.tag_from)) in
    let b : eqb tag 3 ≡ false = ne_eqb _ _ (omega (arith, f.tag_from)) in
    let d : ltb tag 16 ≡ false = le-ltb _ _ f.tag_from in
    rw (a, b, d, fields_again name bytes rest f.name_length f.length, f.kind) refl

opening_again : (tag : ℕ) (rest : List ℕ) → IsGroupTag tag → element_at (tag ∷ rest) ≡ Some (opening tag, rest)
unfolding element_at
opening_again tag rest t =
    let a : eqb tag 0 ≡ false = ne_eqb _ _ (omega (arith, t.0)) in
    let b : eqb tag 3 ≡ false = ne_eqb _ _ t.2 in
    let d : ltb tag 16 ≡ true = lt-ltb _ _ t.1 in
    rw (a, b, d) refl

pub element_again : (around : ℕ) (e : Element) (rest : List ℕ) → IsSpellable around e → element_at (element_bytes e ++ rest) ≡ Some (e, rest)
element_again around e rest s =
    elim (form around e s) [
      | tagged tag k t ↦ subst (λ (x : Element). element_at (element_bytes x ++ rest) ≡ Some (x, rest)) k (opening_again tag rest t)
      | formed tag name bytes f ↦ ap (λ (t : List ℕ). element_at (t ++ rest)) f.spelled ∙ value_again tag name bytes e rest f
    ]

pub record IsPrefix (bytes : List ℕ) (e : Element) (rest : List ℕ) : Type 0 where
  pub joined : bytes ≡ element_bytes e ++ rest
  pub rest_fits : IsBytes rest
  pub sorted : HasOwnTag e

abbrev found : Element → List ℕ → Option (Element × List ℕ)
found e rest = Some (e, rest)

map_some : (o : Option Element) (r : List ℕ) (e : Element) (rest : List ℕ) → option_map {U = Element × List ℕ} (λ x. (x, r)) o ≡ found e rest → (o ≡ Some e) × (r ≡ rest)
map_some (Some x) r e rest is =
    let both : (x, r) ≡ (e, rest) = cc in
    (ap (λ (p : Element × List ℕ). Some p.0) both, ap (λ (p : Element × List ℕ). p.1) both)
map_some None r e rest is = absurd cc

pub from_some : (tag : ℕ) (r : Result Fields CodecFault) (e : Element) (rest : List ℕ) → element_from tag r ≡ Some (e, rest) → (x : Fields) × (r ≡ Ok x) × (kind_of tag x.0 x.1 ≡ Some e) × (x.2 ≡ rest)
from_some tag (Ok x) e rest is = let both = map_some (kind_of tag x.0 x.1) x.2 e rest is in (x, refl, both.0, both.1)
from_some tag (Err f) e rest is = absurd cc

value_takes : (tag : ℕ) (bytes : List ℕ) (e : Element) (rest : List ℕ) → IsBytes bytes → element_from tag (fields_at bytes) ≡ Some (e, rest) → IsPrefix (tag ∷ bytes) e rest
value_takes tag bytes e rest fits is =
    let x = from_some tag (fields_at bytes) e rest is in
    let a = fields_take bytes x.0 fits x.1 in
    let prefix : IsPrefix (tag ∷ bytes) e x.0.2 = record {
      joined = ap (λ (t : List ℕ). tag ∷ t) a.joined ∙ ap (λ (t : List ℕ). t ++ x.0.2) (sym (kind_spelled tag x.0.0 x.0.1 e x.2));
      rest_fits = a.rest_fits;
      sorted = kind_sorted tag x.0.0 x.0.1 e x.2;
    } in
    subst (λ (r : List ℕ). IsPrefix (tag ∷ bytes) e r) x.3 prefix

opening_takes : (tag : ℕ) (bytes : List ℕ) (e : Element) (rest : List ℕ) → IsBytes bytes → found (opening tag) bytes ≡ found e rest → IsPrefix (tag ∷ bytes) e rest
opening_takes tag bytes e rest fits is =
    let prefix : IsPrefix (tag ∷ bytes) (opening tag) bytes = record { joined = refl; rest_fits = fits; sorted = tt } in
    let same : (opening tag, bytes) ≡ (e, rest) = cc in
    subst (λ (x : Element × List ℕ). IsPrefix (tag ∷ bytes) x.0 x.1) same prefix

pub element_takes : (bytes : List ℕ) (e : Element) (rest : List ℕ) → IsBytes bytes → element_at bytes ≡ Some (e, rest) → IsPrefix bytes e rest
unfolding element_at
element_takes [] e rest fits is = absurd cc
element_takes (tag ∷ bytes) e rest fits is =
    elim (chosen (eqb tag 0) None _ (Some (e, rest)) is) [
      | inl h ↦ absurd cc
      | inr h ↦ elim (chosen (eqb tag 3) None _ (Some (e, rest)) h.1) [
        | inl g ↦ absurd cc
        | inr g ↦ elim (chosen (ltb tag 16) (Some (opening tag, bytes)) (element_from tag (fields_at bytes)) (Some (e, rest)) g.1) [
          | inl k ↦ opening_takes tag bytes e rest (IsBytes-rest tag bytes fits) k.1
          | inr k ↦ value_takes tag bytes e rest (IsBytes-rest tag bytes fits) k.1
        ]
      ]
    ]

pub some_long : (e : Element) → 1 ≤ length (element_bytes e)
some_long (opening tag) = omega arith
some_long (plainly tag name bytes) = omega arith
some_long (begin name) = omega arith
some_long (named name) = omega arith
some_long finish = omega arith

pub shorter : (bytes : List ℕ) (e : Element) (rest : List ℕ) → IsBytes bytes → element_at bytes ≡ Some (e, rest) → length rest < length bytes
shorter bytes e rest fits is =
    let prefix = element_takes bytes e rest fits is in
    omega (arith, ap length prefix.joined, length-append (element_bytes e) rest, some_long e)
