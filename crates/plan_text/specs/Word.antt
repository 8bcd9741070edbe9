-- The words of a plan's text. A number is decimal without leading zeros, and may have any number of digits. A word that isn't a number and a number out of its range are different faults.
use Rattle.std.specs.Prelude.{◌==◌, ◌&&◌, ◌||◌, not, ℕ, ℤ, pos, neg_ℤ, Bool, List, [], ◌∷◌, length, drop, slice_index, nat_lt, Result, Ok, Err, Option, Some, None, if◌then◌else◌, codes}
use Rattle.std.specs.Str.{bytes_eq}
use Rattle.std.specs.Str.Parse.{digits_value}
use Rattle.text.specs.Digits.{is_number}
use Rattle.base_types.specs.declared.limits.TheConstants.Limits.{JOB_TIME, AMOUNT}
use Rattle.base_types.specs.declared.needs.Cause.{Cause}
use Rattle.base_types.specs.declared.needs.Cause.TheVariants as causes
use Rattle.plan_text.specs.declared.fault.TextFault.{TextFault}
use Rattle.plan_text.specs.declared.fault.TextFault.TheVariants.{BadLine, OutOfRange}
use Rattle.text.specs.Steps.{◌>>=◌}

-- the number of a word, within a range
unfoldable pub number_at : ℕ → ℕ → List ℕ → Result ℕ TextFault
number_at least most word =
    if is_number word
    then (if nat_lt (digits_value 10 word) least || nat_lt most (digits_value 10 word) then Err OutOfRange else Ok (digits_value 10 word))
    else Err BadLine

abbrev pub numbers_at : ℕ → ℕ → List (List ℕ) → Result (List ℕ) TextFault
numbers_at least most [] = Ok []
numbers_at least most (word ∷ words) = number_at least most word >>= λ n. (numbers_at least most words >>= λ ns. Ok (n ∷ ns))

-- a time of a job, or `-` for a device that isn't able
unfoldable pub is_dash : List ℕ → Bool
is_dash word = bytes_eq word (codes "-")

unfoldable pub is_entry : List ℕ → Bool
is_entry word = is_dash word || is_number word

unfoldable pub entry_at : List ℕ → Result (Option ℕ) TextFault
entry_at word = if is_dash word then Ok None else (number_at 1 JOB_TIME word >>= λ n. Ok (Some n))

abbrev pub entries_at : List (List ℕ) → Result (List (Option ℕ)) TextFault
entries_at [] = Ok []
entries_at (word ∷ words) = entry_at word >>= λ entry. (entries_at words >>= λ entries. Ok (entry ∷ entries))

-- a price: a number, with a minus sign if it is negative
unfoldable pub has_minus : List ℕ → Bool
has_minus word = nat_lt 0 (length word) && slice_index word 0 == 45

unfoldable pub is_price : List ℕ → Bool
is_price word = if has_minus word then is_number (drop 1 word) && not (bytes_eq (drop 1 word) (codes "0")) else is_number word

unfoldable pub price_at : List ℕ → Result ℤ TextFault
price_at word =
    if has_minus word then (number_at 1 AMOUNT (drop 1 word) >>= λ n. Ok (neg_ℤ (pos n)))
    else (number_at 0 AMOUNT word >>= λ n. Ok (pos n))

abbrev pub prices_at : List (List ℕ) → Result (List ℤ) TextFault
prices_at [] = Ok []
prices_at (word ∷ words) = price_at word >>= λ price. (prices_at words >>= λ prices. Ok (price ∷ prices))

-- the cause of a stranded job
unfoldable pub cause_at : List ℕ → Result Cause TextFault
cause_at word =
    if bytes_eq word (codes "NoDevice") then Ok causes.NoDevice
    else if bytes_eq word (codes "Format") then Ok causes.Format
    else if bytes_eq word (codes "Sides") then Ok causes.Sides
    else if bytes_eq word (codes "Finishings") then Ok causes.Finishings
    else if bytes_eq word (codes "Media") then Ok causes.Media
    else if bytes_eq word (codes "Running") then Ok causes.Running
    else Err BadLine
