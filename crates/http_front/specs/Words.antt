-- Words of field values, compared without regard to the case of ASCII letters (RFC 9110, section 5.6).
use Rattle.std.specs.Prelude.{ℕ, ◌==◌, nat_le, Bool, if◌then◌else◌, List, length, Option, None}
use Rattle.std.specs.List.{slice_split, list_any}
use Rattle.std.specs.Str.{str_eq_ignore_ascii_case}
use Rattle.text.specs.Digits.{decimal_in}
use Rattle.text.specs.Trimmed.{trimmed}

abbrev pub is_word : List ℕ → List ℕ → Bool
is_word bytes word = str_eq_ignore_ascii_case bytes word

-- whether a word is an element of a list with commas (RFC 9110, section 5.6.1)
unfoldable pub lists_word : List ℕ → List ℕ → Bool
lists_word word value = list_any (λ part. is_word (trimmed part) word) (slice_split (λ byte. byte == 44) value)

-- the number of a length: 1 to 19 digits, and 2³² - 1 where it exceeds 32 bits
unfoldable pub length_in : List ℕ → Option ℕ
length_in value = if nat_le (length value) 19 then decimal_in value else None
