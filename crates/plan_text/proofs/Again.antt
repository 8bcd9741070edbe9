-- Each written line is read as its content.
use Rattle.std.proofs.Common.{◌≡◌, ◌==◌, ◌&&◌, ◌||◌, ℕ, ℤ, pos, negsuc, suc, ◌+◌, ◌^◌, ◌<◌, ◌≤◌, Bool, true, false, not, List, [], ◌∷◌, ◌++◌, length, map, get_or, All, IfSome, Option, Some, None, if◌then◌else◌, nat_lt, refl, ap, ◌∙◌, subst, inl, inr, arith, codes, append-nil, rules, slice_index}
use Rattle.std.specs.List.{list_all, AllPass}
use Rattle.std.specs.Str.{all_ascii_digits, bytes_eq}
use Rattle.std.specs.Str.Parse.{digits_value, digits_value_after}
use Rattle.std.specs.Char.{is_ascii_digit}
use Rattle.std.specs.Fmt.{decimal, signed_decimal}
use Rattle.std.proofs.lemmas.Bool.{cases_lt, and_from, and_parts, and_right, or_right, or_left, lt-ltb, le-ltb, eq-eqb, ne_eqb, not_from_false, not-true, both_ways}
use Rattle.std.proofs.lemmas.List.Elements.{All-head, All-tail}
use Rattle.std.proofs.lemmas.List.Sums.{AllPass-from_list_all}
use Rattle.std.proofs.lemmas.List.Folds.{list_all-append}
use Rattle.std.proofs.lemmas.List.Splits.{slice_split_none, slice_split_at}
use Rattle.std.proofs.lemmas.Str.Parse.{IsNumeralModel, numerals_by_fold, tells_all_ascii_digits}
use Rattle.std.proofs.lemmas.Int.{ints}
use Rattle.std.proofs.lemmas.Fmt.{digits_value-decimal, digits_decimal, decimal_nonempty, first_decimal, decimal_digit}
use Rattle.base_types.specs.declared.limits.TheConstants.Limits.{AMOUNT, JOB_TIME}
use Rattle.base_types.specs.Forms.{is_name, is_name_byte}
use Rattle.plan_problem.specs.Time.{IsTime}
use Rattle.text.specs.Digits.{is_number}
use Rattle.plan_text.specs.Word.{number_at, numbers_at, is_dash, is_entry, entry_at, entries_at, has_minus, is_price, price_at, prices_at}
use Rattle.text.specs.Parts.{words_of}
use Rattle.plan_text.specs.Writing.{entry_word}
use Rattle.plan_text.specs.Ranges.{IsPrice}
use Rattle.plan_text.proofs.Sound.{ok}

-- ---- words between single spaces

-- a word without a byte
abbrev pub lacks : ℕ → List ℕ → Bool
lacks byte word = list_all (λ x. not (x == byte)) word

abbrev pub spaced : List (List ℕ) → List ℕ
spaced [] = []
spaced (word ∷ words) = 32 ∷ (word ++ spaced words)

pub none_in : (byte : ℕ) (word : List ℕ) → lacks byte word ≡ true → All (λ x. (x == byte) ≡ false) word
none_in byte word h =
    let all : AllPass (λ x. not (x == byte)) word = AllPass-from_list_all (λ x. not (x == byte)) word h in
    λ k d l. not-true (get_or word k d == byte) (all k d l)

pub split_words : (first : List ℕ) (words : List (List ℕ)) → lacks 32 first ≡ true → list_all (lacks 32) words ≡ true → words_of (first ++ spaced words) ≡ first ∷ words
split_words first [] h hs = ap words_of (append-nil first) ∙ slice_split_none (λ byte. byte == 32) first (none_in 32 first h)
split_words first (word ∷ words) h hs =
    let p : (lacks 32 word ≡ true) × (list_all (lacks 32) words ≡ true) = and_parts (lacks 32 word) (list_all (lacks 32) words) hs in
    slice_split_at (λ byte. byte == 32) first 32 (word ++ spaced words) (none_in 32 first h) refl
    ∙ ap (λ rest. first ∷ rest) (split_words word words p.0 p.1)

pub lacks-append : (byte : ℕ) (xs ys : List ℕ) → lacks byte xs ≡ true → lacks byte ys ≡ true → lacks byte (xs ++ ys) ≡ true
lacks-append byte xs ys hx hy = list_all-append (λ x. not (x == byte)) xs ys ∙ and_from (lacks byte xs) (lacks byte ys) hx hy

-- words without a line feed
pub lacks-spaced : (words : List (List ℕ)) → list_all (lacks 10) words ≡ true → lacks 10 (spaced words) ≡ true
lacks-spaced [] h = refl
lacks-spaced (word ∷ words) h =
    let p : (lacks 10 word ≡ true) × (list_all (lacks 10) words ≡ true) = and_parts (lacks 10 word) (list_all (lacks 10) words) h in
    lacks-append 10 word (spaced words) p.0 (lacks-spaced words p.1)

-- a list of words, one for each of some values
pub lacks-map : {X : Type 0} (byte : ℕ) (P : X → Type 0) (f : X → List ℕ) (xs : List X) → ((x : X) → P x → lacks byte (f x) ≡ true) → All P xs → list_all (lacks byte) (map f xs) ≡ true
lacks-map byte P f [] each h = refl
lacks-map byte P f (x ∷ xs) each h = and_from (lacks byte (f x)) (list_all (lacks byte) (map f xs)) (each x (All-head P x xs h)) (lacks-map byte P f xs each (All-tail P x xs h))

-- ---- numbers

pub own : IsNumeralModel (λ ds. all_ascii_digits ds ≡ true) (digits_value 10)
own = numerals_by_fold _ tells_all_ascii_digits (digits_value_after 10) (search rules)

pub decimal_is_number : (n : ℕ) → n < 2 ^ 64 → is_number (decimal n) ≡ true
unfolding is_number
decimal_is_number n h =
    let w : List ℕ = decimal n in
    let some : nat_lt 0 (length w) ≡ true = lt-ltb 0 (length w) (decimal_nonempty n h) in
    let digits : all_ascii_digits w ≡ true = digits_decimal own n h in
    let first : (not (slice_index w 0 == 48) || (length w == 1)) ≡ true = elim (cases_lt 0 n) [
      | inl above ↦ let f : 48 < get_or w 0 0 = first_decimal n above h in or_left (not (slice_index w 0 == 48)) (length w == 1) (not_from_false (slice_index w 0 == 48) (ne_eqb (slice_index w 0) 48 (omega (arith, f))))
      | inr none ↦ let d : w ≡ (48 + n) ∷ [] = decimal_digit n (omega arith) in or_right (not (slice_index w 0 == 48)) (length w == 1) (eq-eqb (length w) 1 (ap length d))
    ] in
    and_from (nat_lt 0 (length w) && all_ascii_digits w) (not (slice_index w 0 == 48) || (length w == 1)) (and_from (nat_lt 0 (length w)) (all_ascii_digits w) some digits) first

pub number_again : (least most n : ℕ) → least ≤ n → n ≤ most → n < 2 ^ 64 → number_at least most (decimal n) ≡ ok n
unfolding number_at
number_again least most n l m h =
    let value : digits_value 10 (decimal n) ≡ n = digits_value-decimal own n h in
    rw (decimal_is_number n h, value, le-ltb n least l, le-ltb most n m) refl

pub numbers_again : (least most : ℕ) (ns : List ℕ) → most < 2 ^ 64 → All (λ n. (least ≤ n) × (n ≤ most)) ns → numbers_at least most (map decimal ns) ≡ ok ns
numbers_again least most [] s h = refl
numbers_again least most (n ∷ ns) s h =
    let here : (least ≤ n) × (n ≤ most) = All-head (λ m. (least ≤ m) × (m ≤ most)) n ns h in
    rw (number_again least most n here.0 here.1 (omega (arith, here.1, s)), numbers_again least most ns s (All-tail (λ m. (least ≤ m) × (m ≤ most)) n ns h)) refl

pub all_numbers : (most : ℕ) (ns : List ℕ) → most < 2 ^ 64 → All (λ n. n ≤ most) ns → list_all is_number (map decimal ns) ≡ true
all_numbers most [] s h = refl
all_numbers most (n ∷ ns) s h =
    let here : n ≤ most = All-head (λ m. m ≤ most) n ns h in
    and_from (is_number (decimal n)) (list_all is_number (map decimal ns)) (decimal_is_number n (omega (arith, here, s))) (all_numbers most ns s (All-tail (λ m. m ≤ most) n ns h))

-- digits have no space and no line feed

digit_isnt : (byte c : ℕ) → is_ascii_digit byte ≡ false → is_ascii_digit c ≡ true → not (c == byte) ≡ true
digit_isnt byte c other digit = not_from_false (c == byte) (ne_eqb c byte (λ e. both_ways (is_ascii_digit byte) other (subst (λ x. is_ascii_digit x ≡ true) e digit)))

digits_lack : (byte : ℕ) (word : List ℕ) → is_ascii_digit byte ≡ false → all_ascii_digits word ≡ true → lacks byte word ≡ true
digits_lack byte [] other h = refl
digits_lack byte (c ∷ word) other h =
    let p : (is_ascii_digit c ≡ true) × (all_ascii_digits word ≡ true) = and_parts (is_ascii_digit c) (all_ascii_digits word) h in
    and_from (not (c == byte)) (lacks byte word) (digit_isnt byte c other p.0) (digits_lack byte word other p.1)

pub decimal_lacks : (byte n : ℕ) → is_ascii_digit byte ≡ false → n < 2 ^ 64 → lacks byte (decimal n) ≡ true
decimal_lacks byte n other h = digits_lack byte (decimal n) other (digits_decimal own n h)

-- ---- times

is_dash_no : (n : ℕ) → n < 2 ^ 64 → is_dash (decimal n) ≡ false
unfolding is_dash
is_dash_no n h = first_digit (decimal n) (digits_decimal own n h) (decimal_nonempty n h)
  where
    first_digit : (word : List ℕ) → all_ascii_digits word ≡ true → 0 < length word → bytes_eq word (codes "-") ≡ false
    first_digit [] digits some = absurd (omega (arith, some))
    first_digit (c ∷ word) digits some =
        let p : (is_ascii_digit c ≡ true) × (all_ascii_digits word ≡ true) = and_parts (is_ascii_digit c) (all_ascii_digits word) digits in
        let other : (c == 45) ≡ false = not-true (c == 45) (digit_isnt 45 c refl p.0) in
        rw other refl

entry_again : (entry : Option ℕ) → IfSome entry IsTime → entry_at (entry_word entry) ≡ ok entry
unfolding entry_at is_dash
entry_again None h = refl
entry_again (Some time) h = rw (is_dash_no time (omega (arith, h.1)), number_again 1 JOB_TIME time h.0 h.1 (omega (arith, h.1))) refl

entry_is : (entry : Option ℕ) → IfSome entry IsTime → is_entry (entry_word entry) ≡ true
unfolding is_entry is_dash
entry_is None h = refl
entry_is (Some time) h = or_right (is_dash (decimal time)) (is_number (decimal time)) (decimal_is_number time (omega (arith, h.1)))

pub entries_again : (times : List (Option ℕ)) → All (λ entry. IfSome entry IsTime) times → entries_at (map entry_word times) ≡ ok times
entries_again [] h = refl
entries_again (entry ∷ times) h = rw (entry_again entry (All-head (λ e. IfSome e IsTime) entry times h), entries_again times (All-tail (λ e. IfSome e IsTime) entry times h)) refl

pub all_entries : (times : List (Option ℕ)) → All (λ entry. IfSome entry IsTime) times → list_all is_entry (map entry_word times) ≡ true
all_entries [] h = refl
all_entries (entry ∷ times) h = and_from (is_entry (entry_word entry)) (list_all is_entry (map entry_word times)) (entry_is entry (All-head (λ e. IfSome e IsTime) entry times h)) (all_entries times (All-tail (λ e. IfSome e IsTime) entry times h))

pub entry_lacks : (byte : ℕ) → is_ascii_digit byte ≡ false → not (45 == byte) ≡ true → (entry : Option ℕ) → IfSome entry IsTime → lacks byte (entry_word entry) ≡ true
entry_lacks byte other dash None h = and_from (not (45 == byte)) true dash refl
entry_lacks byte other dash (Some time) h = decimal_lacks byte time other (omega (arith, h.1))

-- ---- prices

price_small : (n : ℕ) → IsPrice (pos n) → n ≤ AMOUNT
price_small n h = omega (arith, ints, h.1)

price_small_below : (n : ℕ) → IsPrice (negsuc n) → suc n ≤ AMOUNT
price_small_below n h = omega (arith, ints, h.0)

no_minus : (word : List ℕ) → all_ascii_digits word ≡ true → has_minus word ≡ false
unfolding has_minus
no_minus [] h = refl
no_minus (c ∷ word) h =
    let p : (is_ascii_digit c ≡ true) × (all_ascii_digits word ≡ true) = and_parts (is_ascii_digit c) (all_ascii_digits word) h in
    and_right (nat_lt 0 (length (c ∷ word))) (c == 45) (not-true (c == 45) (digit_isnt 45 c refl p.0))

a_minus : (word : List ℕ) → has_minus (45 ∷ word) ≡ true
unfolding has_minus
a_minus word = and_from (nat_lt 0 (length (45 ∷ word))) (slice_index (45 ∷ word) 0 == 45) (lt-ltb 0 (length (45 ∷ word)) (omega arith)) refl

price_again : (price : ℤ) → IsPrice price → price_at (signed_decimal price) ≡ ok price
unfolding price_at
price_again (pos n) h =
    let small : n ≤ AMOUNT = price_small n h in
    rw (no_minus (decimal n) (digits_decimal own n (omega (arith, small))), number_again 0 AMOUNT n (omega arith) small (omega (arith, small))) refl
price_again (negsuc n) h =
    let small : suc n ≤ AMOUNT = price_small_below n h in
    rw (a_minus (decimal (suc n)), number_again 1 AMOUNT (suc n) (omega arith) small (omega (arith, small))) refl

not_zero : (n : ℕ) → 0 < n → n < 2 ^ 64 → bytes_eq (decimal n) (codes "0") ≡ false
not_zero n above h =
    let first : 48 < get_or (decimal n) 0 0 = first_decimal n above h in
    first_isnt (decimal n) first
  where
    first_isnt : (word : List ℕ) → 48 < get_or word 0 0 → bytes_eq word (codes "0") ≡ false
    first_isnt [] l = absurd (omega (arith, l))
    first_isnt (c ∷ word) l = rw (ne_eqb c 48 (λ e. absurd (omega (arith, l, e)))) refl

price_is : (price : ℤ) → IsPrice price → is_price (signed_decimal price) ≡ true
unfolding is_price
price_is (pos n) h =
    let small : n ≤ AMOUNT = price_small n h in
    rw (no_minus (decimal n) (digits_decimal own n (omega (arith, small)))) (decimal_is_number n (omega (arith, small)))
price_is (negsuc n) h =
    let small : suc n ≤ AMOUNT = price_small_below n h in
    rw (a_minus (decimal (suc n)), decimal_is_number (suc n) (omega (arith, small)), not_zero (suc n) (omega arith) (omega (arith, small))) refl

pub prices_again : (prices : List ℤ) → All IsPrice prices → prices_at (map signed_decimal prices) ≡ ok prices
prices_again [] h = refl
prices_again (price ∷ prices) h = rw (price_again price (All-head IsPrice price prices h), prices_again prices (All-tail IsPrice price prices h)) refl

pub all_prices : (prices : List ℤ) → All IsPrice prices → list_all is_price (map signed_decimal prices) ≡ true
all_prices [] h = refl
all_prices (price ∷ prices) h = and_from (is_price (signed_decimal price)) (list_all is_price (map signed_decimal prices)) (price_is price (All-head IsPrice price prices h)) (all_prices prices (All-tail IsPrice price prices h))

pub price_lacks : (byte : ℕ) → is_ascii_digit byte ≡ false → not (45 == byte) ≡ true → (price : ℤ) → IsPrice price → lacks byte (signed_decimal price) ≡ true
price_lacks byte other dash (pos n) h = let small : n ≤ AMOUNT = price_small n h in decimal_lacks byte n other (omega (arith, small))
price_lacks byte other dash (negsuc n) h = let small : suc n ≤ AMOUNT = price_small_below n h in and_from (not (45 == byte)) (lacks byte (decimal (suc n))) dash (decimal_lacks byte (suc n) other (omega (arith, small)))

-- ---- names

byte_isnt : (byte c : ℕ) → is_name_byte byte ≡ false → is_name_byte c ≡ true → not (c == byte) ≡ true
byte_isnt byte c other name = not_from_false (c == byte) (ne_eqb c byte (λ e. both_ways (is_name_byte byte) other (subst (λ x. is_name_byte x ≡ true) e name)))

bytes_lack : (byte : ℕ) (word : List ℕ) → is_name_byte byte ≡ false → list_all is_name_byte word ≡ true → lacks byte word ≡ true
bytes_lack byte [] other h = refl
bytes_lack byte (c ∷ word) other h =
    let p : (is_name_byte c ≡ true) × (list_all is_name_byte word ≡ true) = and_parts (is_name_byte c) (list_all is_name_byte word) h in
    and_from (not (c == byte)) (lacks byte word) (byte_isnt byte c other p.0) (bytes_lack byte word other p.1)

then_is : (b c : Bool) → (if b then c else false) ≡ true → c ≡ true
then_is true c h = h
then_is false c h = absurd (both_ways false refl h)

pub name_lacks : (byte : ℕ) (name : List ℕ) → is_name_byte byte ≡ false → is_name name ≡ true → lacks byte name ≡ true
unfolding is_name
name_lacks byte name other h = bytes_lack byte name other (then_is _ (list_all is_name_byte name) h)
