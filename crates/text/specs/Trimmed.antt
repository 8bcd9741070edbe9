-- Words with blanks around them, and values with parameters after them.
use Rattle.std.specs.Prelude.{ℕ, ◌==◌, ◌||◌, Bool, if◌then◌else◌, List, [], ◌∷◌, reverse}
use Rattle.std.specs.List.{before_first}

-- a space or a tab
abbrev pub is_blank : ℕ → Bool
is_blank byte = (byte == 32) || (byte == 9)

-- the bytes from the first that isn't a blank
abbrev pub from_word : List ℕ → List ℕ
from_word [] = []
from_word (byte ∷ bytes) = if is_blank byte then from_word bytes else byte ∷ bytes

-- the bytes without the blanks around them
unfoldable pub trimmed : List ℕ → List ℕ
trimmed bytes = reverse (from_word (reverse (from_word bytes)))

-- a value without its parameters, such as a media type's (RFC 9110, section 8.3.1): up to the first `;`
unfoldable pub without_parameters : List ℕ → List ℕ
without_parameters value = trimmed (before_first (λ byte. byte == 59) value)
