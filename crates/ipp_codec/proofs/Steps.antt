-- One element after others.
use Rattle.std.proofs.Common.{◌≡◌, ◌≢◌, ℕ, ◌<◌, ◌≤◌, ◌-◌, take, drop, get_or, List, [], ◌∷◌, ◌++◌, length, Some, Ok, Err, refl, sym, ap, subst, ◌∙◌, append_assoc, arith, inl, inr, ◌⊎◌}
use Rattle.std.proofs.lemmas.List.{append-nil, take_rest}
use Rattle.std.proofs.lemmas.List.Concat.{flat_map-append}
use Rattle.ipp_codec.specs.declared.fault.CodecFault.{CodecFault}
use Rattle.ipp_codec.specs.declared.fault.CodecFault.TheVariants.{Short, BadTag, BadLength, BadValue, LooseValue, BadCollection, TooDeep, TooLarge}
use Rattle.ipp_codec.specs.declared.place.Place.{Place}
use Rattle.ipp_codec.specs.declared.place.Place.TheVariants.{Outside, Opened}
use Rattle.ipp_codec.specs.Spelling.{Element, opening, plainly, begin, named, finish, counted, element_bytes, bytes_of}
use Rattle.ipp_codec.specs.Grammar.{IsPlain}
use Rattle.ipp_codec.specs.Place.{depth, after, place_from, IsSpellable, IsAllowed, Follows}
use Rattle.ipp_codec.specs.Kind.{kind_of}
use Rattle.ipp_codec.specs.FirstFault.{First, Admits, AtValue, IsCut, IsTooLong, Breaks, Exceeds}
use Rattle.ipp_codec.specs.Reading.{counted_at, fields_at, Keeps, LeadsOn}
use Rattle.ipp_codec.proofs.Fields.{IsBytes, IsBytes-take, IsBytes-drop, counted_takes, counted_fault}
use Rattle.ipp_codec.proofs.Parts.{Fields, fields_take, both_err, second_err, is_begin, is_named, is_finish, is_plain, kind_is, kind_spelled}

-- ---- faults

field_fault : (place : Place) (tag : ℕ) (part field : List ℕ) (f : CodecFault) → Admits place tag
    → ((f ≡ Short) × IsCut field) ⊎ ((f ≡ BadLength) × IsTooLong field)
    → ((part ≡ tag ∷ field) ⊎ ((name : List ℕ) × (length name < 0x8000) × (part ≡ tag ∷ (counted name ++ field))))
    → First place part f
field_fault place tag part field f admitted (inl h) tail =
    subst (λ (g : CodecFault). First place part g) (sym h.0) (inr (record { tag = tag; field = field; admitted = admitted; tail = tail; so = h.1 }))
field_fault place tag part field f admitted (inr h) tail =
    subst (λ (g : CodecFault). First place part g) (sym h.0) (record { tag = tag; field = field; admitted = admitted; tail = tail; so = h.1 })

-- a fault of a name's or a value's length
pub field_first : (place : Place) (tag : ℕ) (bytes : List ℕ) (f : CodecFault) → Admits place tag → IsBytes bytes → fields_at bytes ≡ Err f → First place (tag ∷ bytes) f
unfolding fields_at
field_first place tag bytes f admitted fits is =
    elim (both_err (counted_at bytes) f is) [
      | inl a ↦ field_fault place tag (tag ∷ bytes) bytes f admitted (counted_fault bytes f a) (inl refl)
      | inr a ↦
          let p = counted_takes bytes a.0.0 a.0.1 fits a.1 in
          let b = second_err a.0.0 (counted_at a.0.1) f a.2 in
          field_fault place tag (tag ∷ bytes) a.0.1 f admitted (counted_fault a.0.1 f b) (inr (a.0.0, p.below, ap (λ (t : List ℕ). tag ∷ t) p.joined))
    ]

excess_is : (place : Place) (e : Element) (f : CodecFault) → Exceeds place e f → (f ≡ TooDeep) ⊎ (f ≡ BadValue)
excess_is place (begin name) TooDeep x = inl refl
excess_is place (begin name) _ x = absurd x
excess_is place (plainly tag name bytes) BadValue x = inr refl
excess_is place (plainly tag name bytes) _ x = absurd x
excess_is place (opening tag) f x = absurd x
excess_is place (named name) f x = absurd x
excess_is place finish f x = absurd x

no_excess : (place : Place) (e : Element) (f : CodecFault) → Exceeds place e f → f ≢ TooDeep → f ≢ BadValue → ⊥
no_excess place e f x a b = elim (excess_is place e f x) [ inl h ↦ a h | inr h ↦ b h ]

value_first : (place : Place) (part : List ℕ) (f : CodecFault) → AtValue place part f → First place part f
value_first place part LooseValue at = at
value_first place part BadCollection at = inr at
value_first place part BadValue at = at
value_first place part TooDeep at = at
value_first place part Short at = absurd (no_excess place at.breaks.1.0 Short at.breaks.1.3 (λ h. cc) (λ h. cc))
value_first place part BadTag at = absurd (no_excess place at.breaks.1.0 BadTag at.breaks.1.3 (λ h. cc) (λ h. cc))
value_first place part BadLength at = absurd (no_excess place at.breaks.1.0 BadLength at.breaks.1.3 (λ h. cc) (λ h. cc))
value_first place part TooLarge at = absurd (no_excess place at.breaks.1.0 TooLarge at.breaks.1.3 (λ h. cc) (λ h. cc))

-- a rule that a whole value breaks
pub breaks_first : (place : Place) (tag : ℕ) (bytes : List ℕ) (x : Fields) (f : CodecFault) → Admits place tag → IsBytes bytes → fields_at bytes ≡ Ok x → Breaks place tag x.0 x.1 f → First place (tag ∷ bytes) f
breaks_first place tag bytes x f admitted fits is breaks =
    let a = fields_take bytes x fits is in
    value_first place (tag ∷ bytes) f (record {
      tag = tag;
      name = x.0;
      bytes = x.1;
      whole = record { rest = x.2; admitted = admitted; name_length = a.name_length; length = a.length; joined = ap (λ (t : List ℕ). tag ∷ t) a.joined };
      breaks = breaks;
    })

-- ---- steps

spellable : (place : Place) (tag : ℕ) (name bytes : List ℕ) (e : Element) → 16 ≤ tag → tag < 256 → length name < 0x8000 → length bytes < 0x8000 → kind_of tag name bytes ≡ Some e → Keeps place e → IsSpellable (depth place) e
spellable place tag name bytes e low high short fits is keeps =
    elim (kind_is tag name bytes e is) [
      | is_begin t b k ↦ let deep : Keeps place (begin name) = subst (λ (x : Element). Keeps place x) (sym k) keeps in subst (λ (x : Element). IsSpellable (depth place) x) k (short, deep)
      | is_named t n b k ↦ subst (λ (x : Element). IsSpellable (depth place) x) k (b, fits)
      | is_finish t n b k ↦ subst (λ (x : Element). IsSpellable (depth place) x) k tt
      | is_plain p k ↦
          let shape : Keeps place (plainly tag name bytes) = subst (λ (x : Element). Keeps place x) (sym k) keeps in
          let plain : IsPlain tag bytes = record { tag_from = low; tag_below = high; no_collection = p; length = fits; shape = shape } in
          subst (λ (x : Element). IsSpellable (depth place) x) k (short, plain)
    ]

pub reaches_steps : (place : Place) (tag : ℕ) (bytes : List ℕ) (x : Fields) (next : Place) → Admits place tag → IsBytes bytes → fields_at bytes ≡ Ok x → LeadsOn place tag x.0 x.1 next
    → (e : Element) × IsAllowed place e × (next ≡ after place e) × (tag ∷ bytes ≡ element_bytes e ++ x.2)
reaches_steps place tag bytes x next admitted fits is reaches =
    let a = fields_take bytes x fits is in (
      reaches.0,
      (reaches.2, spellable place tag x.0 x.1 reaches.0 admitted.0 admitted.1 a.name_length a.length reaches.1 reaches.3),
      reaches.4,
      ap (λ (t : List ℕ). tag ∷ t) a.joined ∙ ap (λ (t : List ℕ). t ++ x.2) (sym (kind_spelled tag x.0 x.1 reaches.0 reaches.1)),
    )

-- ---- the loop

place_from-push : (place : Place) (es : List Element) (e : Element) → place_from place (es ++ e ∷ []) ≡ after (place_from place es) e
place_from-push place [] e = refl
place_from-push place (x ∷ es) e = place_from-push (after place x) es e

Follows-push : (place : Place) (es : List Element) (e : Element) → Follows place es → IsAllowed (place_from place es) e → Follows place (es ++ e ∷ [])
Follows-push place [] e follows allowed = (allowed, tt)
Follows-push place (x ∷ es) e follows allowed = (follows.0, Follows-push (after place x) es e follows.1 allowed)

-- the property that the loop keeps
abbrev pub Walked : Place → List ℕ → List ℕ → Place → Type 0
Walked start bytes rest place = (es : List Element) × Follows start es × (bytes ≡ bytes_of es ++ rest) × (place ≡ place_from start es)

pub goes_on : (start : Place) (bytes rest : List ℕ) (place : Place) (next_place : Place) (e : Element) (others : List ℕ) → Walked start bytes rest place → IsAllowed place e → next_place ≡ after place e → rest ≡ element_bytes e ++ others → Walked start bytes others next_place
goes_on start bytes rest place next_place e others walked allowed is joined =
    let es = walked.0 in
    let allowed' : IsAllowed (place_from start es) e = subst (λ (p : Place). IsAllowed p e) walked.3 allowed in (
      es ++ e ∷ [],
      Follows-push start es e walked.1 allowed',
      walked.2 ∙ ap (λ (t : List ℕ). bytes_of es ++ t) joined ∙ sym (append_assoc (bytes_of es) (element_bytes e) others)
          ∙ ap (λ (t : List ℕ). t ++ others) (ap (λ (t : List ℕ). bytes_of es ++ t) (sym (append-nil (element_bytes e))) ∙ sym (flat_map-append element_bytes es (e ∷ []))),
      is ∙ ap (λ (p : Place). after p e) walked.3 ∙ sym (place_from-push start es e),
    )

-- ---- a slice's first byte and the others

abbrev pub after_tag : List ℕ → List ℕ
after_tag bytes = take (length bytes - 1) (drop 1 bytes)

cons_is : (bytes : List ℕ) → 1 ≤ length bytes → bytes ≡ get_or bytes 0 0 ∷ after_tag bytes
cons_is [] some = absurd (omega (arith, some))
cons_is (b ∷ bytes) some = ap (λ (l : List ℕ). b ∷ l) (sym (take_rest (b ∷ bytes) 1))

tail_bytes : (bytes : List ℕ) → IsBytes bytes → IsBytes (after_tag bytes)
tail_bytes bytes fits = IsBytes-take (length bytes - 1) (drop 1 bytes) (IsBytes-drop 1 bytes fits)

pub opened_steps : (place : Place) (bytes : List ℕ) → 1 ≤ length bytes → get_or bytes 0 0 ≢ 0 → get_or bytes 0 0 < 16 → get_or bytes 0 0 ≢ 3 → depth place ≡ 0
    → (e : Element) × IsAllowed place e × (Opened ≡ after place e) × (bytes ≡ element_bytes e ++ after_tag bytes)
opened_steps place bytes some zeroth low end deep =
    (opening (get_or bytes 0 0), (deep, (omega (arith, zeroth), low, end)), refl, cons_is bytes some)

-- a value's tag, after which the fields lie
abbrev pub AtTagOf : Place → List ℕ → Type 0
AtTagOf place bytes = (1 ≤ length bytes) × (16 ≤ get_or bytes 0 0) × (place ≢ Outside) × IsBytes bytes

admits : (place : Place) (bytes : List ℕ) → AtTagOf place bytes → Admits place (get_or bytes 0 0)
admits place bytes at = (at.1, at.3 0, at.2)

pub field_fails : (place : Place) (bytes : List ℕ) (f : CodecFault) → AtTagOf place bytes → fields_at (after_tag bytes) ≡ Err f → First place bytes f
field_fails place bytes f at fails =
    subst (λ (l : List ℕ). First place l f) (sym (cons_is bytes at.0)) (field_first place (get_or bytes 0 0) (after_tag bytes) f (admits place bytes at) (tail_bytes bytes at.3) fails)

pub value_breaks : (place : Place) (bytes : List ℕ) (x : Fields) (f : CodecFault) → AtTagOf place bytes → fields_at (after_tag bytes) ≡ Ok x → Breaks place (get_or bytes 0 0) x.0 x.1 f → First place bytes f
value_breaks place bytes x f at reads breaks =
    subst (λ (l : List ℕ). First place l f) (sym (cons_is bytes at.0)) (breaks_first place (get_or bytes 0 0) (after_tag bytes) x f (admits place bytes at) (tail_bytes bytes at.3) reads breaks)

pub value_reaches : (place : Place) (bytes : List ℕ) (x : Fields) (next : Place) → AtTagOf place bytes → fields_at (after_tag bytes) ≡ Ok x → LeadsOn place (get_or bytes 0 0) x.0 x.1 next
    → (e : Element) × IsAllowed place e × (next ≡ after place e) × (bytes ≡ element_bytes e ++ x.2)
value_reaches place bytes x next at reads reaches =
    let step = reaches_steps place (get_or bytes 0 0) (after_tag bytes) x next (admits place bytes at) (tail_bytes bytes at.3) reads reaches in
    (step.0, step.1, step.2, cons_is bytes at.0 ∙ step.3)
