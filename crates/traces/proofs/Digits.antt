-- Digits that are read in both cases, and written in one.
use Rattle.std.proofs.Common.{arith, refl, sym, ap, ◌∙◌, ◌≡◌, ◌≢◌, ℕ, zero, suc, ◌+◌, ◌*◌, ◌/◌, ◌%◌, ◌<◌, ◌≤◌, Bool, true, false, not, ◌&&◌, ◌⊎◌, ◌||◌, inl, inr, List, [], ◌∷◌, slice_index, Option, Some, None, Result, Ok, Err}
use Rattle.std.specs.List.{list_any}
use Rattle.std.specs.Result.{result_unwrap_or}
use Rattle.std.specs.Char.{is_ascii_uppercase}
use Rattle.std.proofs.lemmas.Bool.{and_parts, or_parts, cases_lt, true≢false}
use Rattle.hex.specs.Hex.{IsBytes, decode_of, decode_pairs, digit_or_error, hex_digit_value, encode_lower, encode_with, lower_digits, pair_value, value_at, ◌>>=◌}
use Rattle.hex.specs.declared.error.FromHexError.{FromHexError}
use Rattle.traces.specs.TraceLine.{IsBodyIn}
use Rattle.hex.proofs.HexLemmas.{IsDigits-lower_digits, decode_of-ok, decode_of-even, decode_of-encode_lower}

abbrev pub has_capital : List ℕ → Bool
has_capital digits = list_any is_ascii_uppercase digits

-- no digit that is written is a capital
none_below : ℕ → Bool
none_below zero = true
none_below (suc n) = not (is_ascii_uppercase (slice_index lower_digits n)) && none_below n

none_at : (n k : ℕ) → none_below n ≡ true → k < n → is_ascii_uppercase (slice_index lower_digits k) ≡ false
unfolding none_below
none_at zero k all low = absurd (omega arith)
none_at (suc n) k all low =
    let parts = and_parts (not (is_ascii_uppercase (slice_index lower_digits n))) (none_below n) all in
    elim (cases_lt k n) [
      | inl below ↦ none_at n k parts.1 below
      | inr top ↦
          let same : k ≡ n = omega arith in
          rw same (negated (is_ascii_uppercase (slice_index lower_digits n)) parts.0)
    ]
  where
    negated : (b : Bool) → not b ≡ true → b ≡ false
    negated true is = cc is
    negated false is = refl

written_small : (d : ℕ) → d < 16 → is_ascii_uppercase (slice_index lower_digits d) ≡ false
unfolding none_below
written_small d low = none_at 16 d refl low

pub none_written : (bytes : List ℕ) → IsBytes bytes → has_capital (encode_lower bytes) ≡ false
unfolding encode_with
none_written [] small = refl
none_written (byte ∷ bytes) small =
    let fits : byte < 256 = small 0 in
    let high = written_small (byte / 16) (omega arith) in
    let low = written_small (byte % 16) (omega arith) in
    rw (high, low) (none_written bytes (λ k. small (suc k)))

-- a digit that isn't a capital, by its value
digit_is : (c v : ℕ) → hex_digit_value c ≡ Some v → is_ascii_uppercase c ≡ false → ((c ≡ v + 48) × (v < 10)) ⊎ ((c ≡ v + 87) × (10 ≤ v))
digit_is c v is low = grind arith

same_digit : (a b v : ℕ) → hex_digit_value a ≡ Some v → hex_digit_value b ≡ Some v → is_ascii_uppercase a ≡ false → is_ascii_uppercase b ≡ false → a ≡ b
same_digit a b v first second small low = by_value (digit_is a v first small) (digit_is b v second low)
  where
    by_value : ((a ≡ v + 48) × (v < 10)) ⊎ ((a ≡ v + 87) × (10 ≤ v)) → ((b ≡ v + 48) × (v < 10)) ⊎ ((b ≡ v + 87) × (10 ≤ v)) → a ≡ b
    by_value (inl x) (inl y) = omega (arith, x.0, y.0)
    by_value (inl x) (inr y) = absurd (omega (arith, x.1, y.1))
    by_value (inr x) (inl y) = absurd (omega (arith, x.1, y.1))
    by_value (inr x) (inr y) = omega (arith, x.0, y.0)

digit_small : (c v : ℕ) → hex_digit_value c ≡ Some v → v < 16
digit_small c v is = grind arith

written_back : (c v : ℕ) → hex_digit_value c ≡ Some v → is_ascii_uppercase c ≡ false → slice_index lower_digits v ≡ c
written_back c v is low =
    let small = digit_small c v is in
    same_digit (slice_index lower_digits v) c v (IsDigits-lower_digits v small) is (written_small v small) low

then_ok : {A B : Type 0} (r : Result A FromHexError) (f : A → Result B FromHexError) (y : B) → (r >>= f) ≡ Ok y → (x : A) × (r ≡ Ok x) × (f x ≡ Ok y)
then_ok (Ok x) f y is = (x, refl, is)
then_ok (Err e) f y is = cc is

digit_read : (c i : ℕ) (o : Option ℕ) (v : ℕ) → digit_or_error c i o ≡ Ok v → o ≡ Some v
digit_read c i (Some w) v is = ap Some (ap (λ (r : Result ℕ FromHexError). result_unwrap_or r 0) is)
digit_read c i None v is = cc is

pairs_back : (i : ℕ) (digits bytes : List ℕ) → decode_pairs i digits ≡ Ok bytes → has_capital digits ≡ false → digits ≡ encode_lower bytes
unfolding decode_pairs encode_with
pairs_back i [] bytes is low =
    let none : [] ≡ bytes = ap (λ (r : Result (List ℕ) FromHexError). result_unwrap_or r []) is in
    rw (← none) refl
pairs_back i (a ∷ []) bytes is low = cc is
pairs_back i (a ∷ b ∷ digits) bytes is low =
    let both = or_parts (is_ascii_uppercase a) (is_ascii_uppercase b || has_capital digits) low in
    let rest = or_parts (is_ascii_uppercase b) (has_capital digits) both.1 in
    let pair = then_ok (pair_value a b i) _ bytes is in
    let first = then_ok (value_at a i) _ pair.0 pair.1 in
    let second = then_ok (value_at b (i + 1)) _ pair.0 first.2 in
    let more = then_ok (decode_pairs (i + 2) digits) _ bytes pair.2 in
    let back = pairs_back (i + 2) digits more.0 more.1 rest.1 in
    let whole : pair.0 ∷ more.0 ≡ bytes = ap (λ (r : Result (List ℕ) FromHexError). result_unwrap_or r []) more.2 in
    let byte : first.0 * 16 + second.0 ≡ pair.0 = ap (λ (r : Result ℕ FromHexError). result_unwrap_or r 0) second.2 in
    let high = digit_read a i (hex_digit_value a) first.0 first.1 in
    let lower = digit_read b (i + 1) (hex_digit_value b) second.0 second.1 in
    let small = digit_small b second.0 lower in
    let top : pair.0 / 16 ≡ first.0 = omega (arith, byte, small) in
    let end : pair.0 % 16 ≡ second.0 = omega (arith, byte, small) in
    let prefix : slice_index lower_digits (pair.0 / 16) ≡ a = ap (slice_index lower_digits) top ∙ written_back a first.0 high both.0 in
    let back_end : slice_index lower_digits (pair.0 % 16) ≡ b = ap (slice_index lower_digits) end ∙ written_back b second.0 lower rest.0 in
    rw (← whole, prefix, back_end) (ap (λ l. a ∷ b ∷ l) back)

-- digits that can be decoded, without a capital, are the written digits of bytes
pub written_of : (digits bytes : List ℕ) → decode_of digits ≡ Ok bytes → has_capital digits ≡ false → digits ≡ encode_lower bytes
written_of digits bytes is low =
    let even = (decode_of-ok digits bytes is).0 in
    pairs_back 0 digits bytes (sym (decode_of-even digits even) ∙ is) low

no_digits : (body : List ℕ) → encode_lower body ≡ [] → body ≡ []
unfolding encode_with
no_digits [] is = refl
no_digits (byte ∷ body) is = cc is

pub no_body : (digits body : List ℕ) → digits ≡ [] → IsBodyIn digits body → ⊥
no_body digits body empty is = is.some (no_digits body (sym is.written ∙ empty))

pub no_capital_body : (digits body : List ℕ) → has_capital digits ≡ true → IsBodyIn digits body → ⊥
no_capital_body digits body capital is = true≢false (sym capital ∙ ap has_capital is.written ∙ none_written body is.bytes)

pub not_hex : (digits body : List ℕ) (e : FromHexError) → decode_of digits ≡ Err e → IsBodyIn digits body → ⊥
not_hex digits body e refused is =
    let good : decode_of digits ≡ Ok body = ap decode_of is.written ∙ decode_of-encode_lower body is.bytes in
    cc (sym good ∙ refused)

pub body_in : (digits body : List ℕ) → digits ≢ [] → has_capital digits ≡ false → decode_of digits ≡ Ok body → IsBodyIn digits body
unfolding encode_with
body_in digits body some low is =
    let written = written_of digits body is low in
    record {
      some = λ empty. some (written ∙ ap encode_lower empty);
      bytes = (decode_of-ok digits body is).3;
      written = written;
    }
