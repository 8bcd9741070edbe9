-- Reading from left to right: the contracts of the decoder's parts.
use Rattle.std.specs.Prelude.{◌≡◌, ◌<◌, ℕ, ◌+◌, ◌*◌, List, [], ◌∷◌, ◌++◌, length, take, drop, Option, Some, None, option_map, Result, Ok, Err, nat_lt, nat_le, ◌==◌, if◌then◌else◌}
use Rattle.base_types.specs.declared.limits.TheConstants.Limits.{COLLECTION_DEPTH}
use Rattle.ipp_codec.specs.declared.fault.CodecFault.{CodecFault}
use Rattle.ipp_codec.specs.declared.fault.CodecFault.TheVariants.{Short, BadLength}
use Rattle.ipp_codec.specs.declared.element.ElementView.{ElementView}
use Rattle.ipp_codec.specs.declared.element.ElementView.TheVariants as views
use Rattle.ipp_codec.specs.declared.place.Place.{Place}
use Rattle.ipp_codec.specs.declared.place.Place.TheVariants.{Outside}
use Rattle.ipp_codec.specs.declared.place.Walk.{Walk}
use Rattle.ipp_codec.specs.Spelling.{Element, opening, plainly, begin, named, finish, element_bytes, bytes_of}
use Rattle.ipp_codec.specs.Grammar.{HasShape}
use Rattle.ipp_codec.specs.Place.{depth, after, place_from, Takes, IsAllowed, Follows}
use Rattle.ipp_codec.specs.Kind.{kind_of}
use Rattle.ipp_codec.specs.FirstFault.{First}

-- the element of a view, without its places in memory
abbrev pub seen : ElementView → Element
seen (views.Opening tag) = opening tag
seen (views.Plain tag name bytes) = plainly tag name.now bytes.now
seen (views.Begin name) = begin name.now
seen (views.Named name) = named name.now
seen views.Finish = finish

-- The result of a function, seen by `view`, is what the definition reads.
abbrev pub Gives : {X Y : Type 0} → (X → Y) → Result X CodecFault → Result Y CodecFault → Type 0
Gives view (Ok x) read = read ≡ Ok (view x)
Gives view (Err e) read = read ≡ Err e

-- a length of two bytes, below 0x8000, with that many bytes; and the bytes after them
unfoldable pub counted_at : List ℕ → Result (List ℕ × List ℕ) CodecFault
counted_at [] = Err Short
counted_at (_ ∷ []) = Err Short
counted_at (high ∷ low ∷ rest) =
    if nat_le 128 high then Err BadLength
    else if nat_lt (length rest) (256 * high + low) then Err Short
    else Ok (take (256 * high + low) rest, drop (256 * high + low) rest)

-- a name, and the field after it, if that is one
abbrev pub second_field : List ℕ → Result (List ℕ × List ℕ) CodecFault → Result (List ℕ × List ℕ × List ℕ) CodecFault
second_field name (Ok x) = Ok (name, x.0, x.1)
second_field name (Err f) = Err f

-- a name that was read, and the field after it
abbrev pub both_fields : Result (List ℕ × List ℕ) CodecFault → Result (List ℕ × List ℕ × List ℕ) CodecFault
both_fields (Ok x) = second_field x.0 (counted_at x.1)
both_fields (Err f) = Err f

-- a name and a value's bytes; and the bytes after them
unfoldable pub fields_at : List ℕ → Result (List ℕ × List ℕ × List ℕ) CodecFault
fields_at bytes = both_fields (counted_at bytes)

-- the element of a tag and its fields
abbrev pub element_from : ℕ → Result (List ℕ × List ℕ × List ℕ) CodecFault → Option (Element × List ℕ)
element_from tag (Ok x) = option_map (λ e. (e, x.2)) (kind_of tag x.0 x.1)
element_from tag (Err f) = None

-- the element at the beginning, if there is one, and the bytes after it
unfoldable pub element_at : List ℕ → Option (Element × List ℕ)
element_at [] = None
element_at (tag ∷ rest) =
    if tag == 0 then None
    else if tag == 3 then None
    else if nat_lt tag 16 then Some (opening tag, rest)
    else element_from tag (fields_at rest)

-- ---- the contracts of the decoder's parts

-- The element keeps the limit of depth and the shape of its tag.
abbrev pub Keeps : Place → Element → Type 0
Keeps place (begin name) = depth place < COLLECTION_DEPTH
Keeps place (plainly tag name bytes) = HasShape tag bytes
Keeps place _ = Unit {0}

-- A whole value leads to the next place.
abbrev pub LeadsOn : Place → ℕ → List ℕ → List ℕ → Place → Type 0
LeadsOn place tag name bytes next = (e : Element) × (kind_of tag name bytes ≡ Some e) × Takes place e × Keeps place e × (next ≡ after place e)

-- one element, the end byte, or the first fault at the place
abbrev pub Steps : {X : Type 0} → (X → Place × List ℕ) → Place → List ℕ → Result (Option X) CodecFault → Type 0
Steps view place bytes (Err f) = First place bytes f
Steps view place bytes (Ok None) = (depth place ≡ 0) × ((tail : List ℕ) × (bytes ≡ 3 ∷ tail))
Steps view place bytes (Ok (Some x)) = (e : Element) × IsAllowed place e × ((view x).0 ≡ after place e) × (bytes ≡ element_bytes e ++ (view x).1)

-- The end byte or a part with this first fault comes after the elements.
abbrev pub EndsAt : Option CodecFault → Place → List ℕ → Type 0
EndsAt None place part = (depth place ≡ 0) × ((tail : List ℕ) × (part ≡ 3 ∷ tail))
EndsAt (Some f) place part = First place part f

-- The elements from a place on, up to the end byte or the first fault.
pub record WalksFrom (place : Place) (bytes : List ℕ) (walk : Walk) : Type 0 where
  pub es : List Element
  pub part : List ℕ
  pub follows : Follows place es
  pub joined : bytes ≡ bytes_of es ++ part
  pub length : walk.length ≡ length (bytes_of es)
  pub reached : walk.place ≡ place_from place es
  pub ends : EndsAt walk.fault walk.place part

-- The elements of a head from the first on, up to the end byte; or those before the first fault.
abbrev pub Walks : List ℕ → Result ℕ CodecFault → Type 0
Walks bytes (Err f) = (es : List Element) × (part : List ℕ) × Follows Outside es × (bytes ≡ bytes_of es ++ part) × First (place_from Outside es) part f
Walks bytes (Ok n) = (es : List Element) × (tail : List ℕ) × Follows Outside es × (bytes ≡ bytes_of es ++ 3 ∷ tail) × (n ≡ length (bytes_of es)) × (depth (place_from Outside es) ≡ 0)
