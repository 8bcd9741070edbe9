-- Numbers in decimal digits, as other programs write them, with leading zeros.
use Rattle.std.specs.Prelude.{ℕ, ◌==◌, ◌&&◌, ◌||◌, ◌-◌, ◌^◌, not, nat_lt, nat_le, min, if◌then◌else◌, Bool, List, length, slice_index, Option, Some, None}
use Rattle.std.specs.Str.{all_ascii_digits}
use Rattle.std.specs.Str.Parse.{digits_value}

-- at least one digit; leading zeros are allowed
abbrev pub is_decimal : List ℕ → Bool
is_decimal word = nat_lt 0 (length word) && all_ascii_digits word

-- the number of a word; 2³² - 1 if it is above that
unfoldable pub decimal_in : List ℕ → Option ℕ
decimal_in word = if is_decimal word then Some (min (digits_value 10 word) (2 ^ 32 - 1)) else None

-- the number of a word, if it is at most `most`
unfoldable pub number_up_to : ℕ → List ℕ → Option ℕ
number_up_to most word = if is_decimal word && nat_le (digits_value 10 word) most then Some (digits_value 10 word) else None

-- digits of any number, without a leading zero unless the word is `0`
unfoldable pub is_number : List ℕ → Bool
is_number word = is_decimal word && (not (slice_index word 0 == 48) || length word == 1)
