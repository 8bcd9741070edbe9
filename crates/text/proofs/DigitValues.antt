-- One digit more of a number.
use Rattle.std.specs.Prelude.{ℕ, ◌≡◌, ◌+◌, ◌-◌, ◌*◌, ◌<◌, ◌≤◌, IsTrue, List, length, take, drop, slice_index_or}
use Rattle.std.specs.Char.{is_ascii_digit, digit_value}
use Rattle.std.specs.Str.{all_ascii_digits}
use Rattle.std.specs.Str.Parse.{digits_value}
use Rattle.std.proofs.Common.{rules}
use Rattle.std.proofs.lemmas.List.{at_drop_more}
use Rattle.std.proofs.lemmas.Str.{digit_value_digit}
use Rattle.std.proofs.lemmas.Int.Digits.{digits_value_more}

pub rest_digits : (word : List ℕ) (i : ℕ) → i < length word → IsTrue (all_ascii_digits (drop i word)) → IsTrue (is_ascii_digit (slice_index_or word i 0)) × IsTrue (all_ascii_digits (drop (i + 1) word))
rest_digits word i within all = search (rules, at_drop_more all_ascii_digits word i 0 within)

digit_is : (c : ℕ) → IsTrue (is_ascii_digit c) → (digit_value c ≡ c - 48) × (48 ≤ c)
digit_is c digit = search (rules, digit_value_digit c)

pub value_more : (word : List ℕ) (i : ℕ) → i < length word → IsTrue (is_ascii_digit (slice_index_or word i 0)) → digits_value 10 (take (i + 1) word) ≡ digits_value 10 (take i word) * 10 + (slice_index_or word i 0 - 48)
value_more word i within digit = search (rules, digits_value_more 10 word i within, digit_is (slice_index_or word i 0) digit)
