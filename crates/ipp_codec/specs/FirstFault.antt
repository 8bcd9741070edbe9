-- The first fault, from left to right, of bytes that don't begin with a spelling.
use Rattle.std.specs.Prelude.{◌≡◌, ◌≢◌, ◌⊎◌, ◌<◌, ◌≤◌, ℕ, ◌+◌, ◌*◌, List, [], ◌∷◌, ◌++◌, length, take, Some}
use Rattle.base_types.specs.declared.limits.TheConstants.Limits.{COLLECTION_DEPTH, IPP_HEAD_BYTES}
use Rattle.ipp_codec.specs.declared.fault.CodecFault.{CodecFault}
use Rattle.ipp_codec.specs.declared.fault.CodecFault.TheVariants.{Short, BadTag, BadLength, BadValue, LooseValue, BadCollection, TooDeep, TooLarge}
use Rattle.ipp_codec.specs.declared.place.Place.{Place}
use Rattle.ipp_codec.specs.declared.place.Place.TheVariants.{Outside, Opened}
use Rattle.ipp_codec.specs.Message.{IppMessage}
use Rattle.ipp_codec.specs.Spelling.{Element, plainly, begin, counted, value_bytes, bytes_of, elements, header}
use Rattle.ipp_codec.specs.Grammar.{HasShape, IsMessage}
use Rattle.ipp_codec.specs.Place.{depth, place_from, Takes}
use Rattle.ipp_codec.specs.Kind.{kind_of}

-- The tag of a value may come at the place.
abbrev pub Admits : Place → ℕ → Type 0
Admits place tag = (16 ≤ tag) × (tag < 256) × (place ≢ Outside)

-- the bytes are fewer than a length and its bytes
abbrev pub IsCut : List ℕ → Type 0
IsCut [] = Unit {0}
IsCut (_ ∷ []) = Unit {0}
IsCut (high ∷ low ∷ bytes) = (high < 128) × (length bytes < 256 * high + low)

-- a length of 0x8000 or more
abbrev pub IsTooLong : List ℕ → Type 0
IsTooLong [] = ⊥
IsTooLong (_ ∷ []) = ⊥
IsTooLong (high ∷ low ∷ bytes) = 128 ≤ high

-- The bytes after a value's tag, or after its name, have the property.
pub record AtField (place : Place) (part : List ℕ) (P : List ℕ → Type 0) : Type 0 where
  pub tag : ℕ
  pub field : List ℕ
  pub admitted : Admits place tag
  pub tail : (part ≡ tag ∷ field) ⊎ ((name : List ℕ) × (length name < 0x8000) × (part ≡ tag ∷ (counted name ++ field)))
  pub so : P field

-- The part begins with a whole value.
pub record IsWhole (place : Place) (part : List ℕ) (tag : ℕ) (name bytes : List ℕ) : Type 0 where
  pub rest : List ℕ
  pub admitted : Admits place tag
  pub name_length : length name < 0x8000
  pub length : length bytes < 0x8000
  pub joined : part ≡ value_bytes tag name bytes ++ rest

-- a further value without an attribute before it in its group
abbrev pub IsLoose : Place → List ℕ → Type 0
IsLoose place name = (place ≡ Opened) × (name ≡ [])

-- An element that may come at the place is nested too deep, or its bytes lack the shape of its tag.
abbrev pub Exceeds : Place → Element → CodecFault → Type 0
Exceeds place (begin name) TooDeep = COLLECTION_DEPTH ≤ depth place
Exceeds place (plainly tag name bytes) BadValue = ¬ (HasShape tag bytes)
Exceeds place _ _ = ⊥

-- the first rule that a whole value violates
abbrev pub Breaks : Place → ℕ → List ℕ → List ℕ → CodecFault → Type 0
Breaks place tag name bytes LooseValue = IsLoose place name
Breaks place tag name bytes BadCollection = ¬ (IsLoose place name) × ((e : Element) → kind_of tag name bytes ≡ Some e → ¬ (Takes place e))
Breaks place tag name bytes fault = ¬ (IsLoose place name) × ((e : Element) × (kind_of tag name bytes ≡ Some e) × Takes place e × Exceeds place e fault)

-- A whole value violates a rule.
pub record AtValue (place : Place) (part : List ℕ) (fault : CodecFault) : Type 0 where
  pub tag : ℕ
  pub name : List ℕ
  pub bytes : List ℕ
  pub whole : IsWhole place part tag name bytes
  pub breaks : Breaks place tag name bytes fault

-- tag 0, or a value's tag before any group
abbrev pub IsBadTag : Place → ℕ → Type 0
IsBadTag place tag = (tag ≡ 0) ⊎ ((16 ≤ tag) × (place ≡ Outside))

-- a group's tag or the end byte inside a collection
abbrev pub IsUnclosed : Place → ℕ → Type 0
IsUnclosed place tag = (0 < tag) × (tag < 16) × (0 < depth place)

-- The part begins with such a tag.
abbrev pub AtTag : List ℕ → (ℕ → Type 0) → Type 0
AtTag part P = (tag : ℕ) × (rest : List ℕ) × (part ≡ tag ∷ rest) × P tag

-- The first fault of the part, at the place.
abbrev pub First : Place → List ℕ → CodecFault → Type 0
First place part Short = (part ≡ []) ⊎ AtField place part IsCut
First place part BadTag = AtTag part (IsBadTag place)
First place part BadLength = AtField place part IsTooLong
First place part BadCollection = AtTag part (IsUnclosed place) ⊎ AtValue place part BadCollection
First place part TooLarge = ⊥
First place part fault = AtValue place part fault

-- The bytes are a header and first elements of a message, and a part with this first fault.
pub record AtPart (bytes : List ℕ) (fault : CodecFault) : Type 0 where
  pub message : IppMessage
  pub before : List Element
  pub tail : List Element
  pub part : List ℕ
  pub is_message : IsMessage message
  pub split : elements message.groups ≡ before ++ tail
  pub joined : bytes ≡ header message ++ (bytes_of before ++ part)
  pub first : First (place_from Outside before) part fault

-- The first fault of the bytes, which begin with no spelling. A header has eight bytes.
abbrev pub FirstFault : List ℕ → CodecFault → Type 0
FirstFault bytes fault = ((length bytes < 8) × (fault ≡ Short)) ⊎ AtPart bytes fault

-- The first fault within the limit of a head. A byte that is missing at the limit is a byte too many.
abbrev pub HeadFault : List ℕ → CodecFault → Type 0
HeadFault bytes Short = (length bytes < IPP_HEAD_BYTES) × FirstFault bytes Short
HeadFault bytes TooLarge = (IPP_HEAD_BYTES ≤ length bytes) × FirstFault (take IPP_HEAD_BYTES bytes) Short
HeadFault bytes fault = FirstFault (take IPP_HEAD_BYTES bytes) fault

-- With more bytes after it, a part has the same first fault, unless bytes were missing.
abbrev pub PartFaultStays : Type 0
PartFaultStays = (place : Place) (part more : List ℕ) (fault : CodecFault) → fault ≢ Short → First place part fault → First place (part ++ more) fault

-- With more bytes after them, bytes have the same first fault, unless bytes were missing.
abbrev pub FaultStays : Type 0
FaultStays = (bytes more : List ℕ) (fault : CodecFault) → fault ≢ Short → FirstFault bytes fault → FirstFault (bytes ++ more) fault
