-- A fault stays where more bytes follow, unless bytes were missing.
use Rattle.std.proofs.Common.{◌≢◌, ℕ, List, [], ◌∷◌, ◌++◌, refl, ap, ◌∙◌, append_assoc, inl, inr}
use Rattle.ipp_codec.specs.declared.fault.CodecFault.{CodecFault}
use Rattle.ipp_codec.specs.declared.fault.CodecFault.TheVariants.{Short, BadTag, BadLength, BadValue, LooseValue, BadCollection, TooDeep, TooLarge}
use Rattle.ipp_codec.specs.declared.place.Place.{Place}
use Rattle.ipp_codec.specs.Spelling.{counted, value_bytes, bytes_of, header}
use Rattle.ipp_codec.specs.FirstFault.{First, FirstFault, AtField, AtTag, AtValue, IsTooLong, IsWhole}

tag_stays : (part more : List ℕ) (P : ℕ → Type 0) → AtTag part P → AtTag (part ++ more) P
tag_stays part more P at = (at.0, at.1 ++ more, ap (λ (l : List ℕ). l ++ more) at.2, at.3)

long_stays : (field more : List ℕ) → IsTooLong field → IsTooLong (field ++ more)
long_stays [] more is = absurd is
long_stays (high ∷ []) more is = absurd is
long_stays (high ∷ low ∷ bytes) more is = is

field_stays : (place : Place) (part more : List ℕ) → AtField place part IsTooLong → AtField place (part ++ more) IsTooLong
field_stays place part more at = record {
  tag = at.tag;
  field = at.field ++ more;
  admitted = at.admitted;
  tail = elim at.tail [
    | inl first ↦ inl (ap (λ (l : List ℕ). l ++ more) first)
    | inr named ↦ inr (named.0, named.1, ap (λ (l : List ℕ). l ++ more) named.2 ∙ ap (λ (l : List ℕ). at.tag ∷ l) (append_assoc (counted named.0) at.field more))
  ];
  so = long_stays at.field more at.so;
}

value_stays : (place : Place) (part more : List ℕ) (fault : CodecFault) → AtValue place part fault → AtValue place (part ++ more) fault
value_stays place part more fault at =
    let w = at.whole in
    let whole : IsWhole place (part ++ more) at.tag at.name at.bytes = record {
      rest = w.rest ++ more;
      admitted = w.admitted;
      name_length = w.name_length;
      length = w.length;
      joined = ap (λ (l : List ℕ). l ++ more) w.joined ∙ append_assoc (value_bytes at.tag at.name at.bytes) w.rest more;
    } in
    record { tag = at.tag; name = at.name; bytes = at.bytes; whole = whole; breaks = at.breaks }

pub part_stays : (place : Place) (part more : List ℕ) (fault : CodecFault) → fault ≢ Short → First place part fault → First place (part ++ more) fault
part_stays place part more Short other at = absurd (other refl)
part_stays place part more BadTag other at = tag_stays part more _ at
part_stays place part more BadLength other at = field_stays place part more at
part_stays place part more BadCollection other (inl at) = inl (tag_stays part more _ at)
part_stays place part more BadCollection other (inr at) = inr (value_stays place part more BadCollection at)
part_stays place part more LooseValue other at = value_stays place part more LooseValue at
part_stays place part more BadValue other at = value_stays place part more BadValue at
part_stays place part more TooDeep other at = value_stays place part more TooDeep at
part_stays place part more TooLarge other at = absurd at

pub bytes_stay : (bytes more : List ℕ) (fault : CodecFault) → fault ≢ Short → FirstFault bytes fault → FirstFault (bytes ++ more) fault
bytes_stay bytes more fault other (inl short) = absurd (other short.1)
bytes_stay bytes more fault other (inr at) = inr (record {
  message = at.message;
  before = at.before;
  tail = at.tail;
  part = at.part ++ more;
  is_message = at.is_message;
  split = at.split;
  joined = ap (λ (l : List ℕ). l ++ more) at.joined ∙ append_assoc (header at.message) (bytes_of at.before ++ at.part) more ∙ ap (λ (l : List ℕ). header at.message ++ l) (append_assoc (bytes_of at.before) at.part more);
  first = part_stays _ at.part more fault other at.first;
})
