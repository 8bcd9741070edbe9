-- The content of a value by its tag (RFC 8010, section 3.9).
use Rattle.std.specs.Prelude.{◌≡◌, ◌⊎◌, ◌<◌, ℕ, ℤ, pos, negsuc, List, [], ◌∷◌, ◌++◌, length, Option, Some, None, Bool, true, false, ◌==◌, ◌||◌, if◌then◌else◌}
use Rattle.std.specs.Int.{w32, to_be_bytes, from_be_bytes, cast_signed, cast_unsigned}
use Rattle.ipp_codec.specs.Message.{IppValue, tag_of, bytes_in}
use Rattle.ipp_codec.specs.Spelling.{counted}
use Rattle.ipp_codec.specs.Tag as tags

-- four bytes, two's complement
abbrev pub bytes_of_integer : ℤ → List ℕ
bytes_of_integer number = to_be_bytes w32 (cast_unsigned w32 number)

-- the byte of a truth value
abbrev pub byte_of_boolean : Bool → ℕ
byte_of_boolean false = 0
byte_of_boolean true = 1

-- the number of four bytes
abbrev pub integer_of : List ℕ → Option ℤ
integer_of bytes = if length bytes == 4 then Some (cast_signed w32 (from_be_bytes w32 bytes)) else None

-- an integer or a number of an enumeration
abbrev pub integer_in : IppValue → Option ℤ
integer_in v = if (tag_of v == tags.integer) || (tag_of v == tags.enumeration) then integer_of (bytes_in v) else None

-- a number that isn't negative
abbrev pub unsigned : ℤ → Option ℕ
unsigned (pos number) = Some number
unsigned (negsuc _) = None

-- the truth value of one byte
abbrev pub boolean_of : List ℕ → Option Bool
boolean_of (b ∷ []) = if b == 0 then Some false else if b == 1 then Some true else None
boolean_of _ = None

-- the truth value of a boolean
abbrev pub boolean_in : IppValue → Option Bool
boolean_in v = if tag_of v == tags.boolean then boolean_of (bytes_in v) else None

-- The bytes are a language and this text.
abbrev pub HasText : List ℕ → List ℕ → Type 0
HasText bytes text = (language : List ℕ) × (length language < 0x8000) × (length text < 0x8000) × (bytes ≡ counted language ++ counted text)

-- The value is this text or name, with or without a language.
abbrev pub HoldsText : IppValue → List ℕ → Type 0
HoldsText v text = (((tag_of v ≡ tags.text) ⊎ (tag_of v ≡ tags.name)) × (bytes_in v ≡ text)) ⊎ (((tag_of v ≡ tags.text_with_language) ⊎ (tag_of v ≡ tags.name_with_language)) × HasText (bytes_in v) text)
