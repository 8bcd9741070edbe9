-- Samples that lie on a line: the normal equations have just that line.
use Rattle.std.proofs.Common.{◌≡◌, ◌≢◌, ℕ, zero, suc, ◌+◌, ◌-◌, ◌*◌, ◌/◌, ◌<◌, ◌==◌, min, max, Bool, false, if◌then◌else◌, List, [], ◌∷◌, length, All, Contains, sum_by, Some, None, inl, inr, sym, ap, refl, ◌∙◌, subst, arith}
use Rattle.std.proofs.lemmas.Bool.{cases_lt, ne_eqb}
use Rattle.std.proofs.lemmas.Nat.{div-mul-add}
use Rattle.std.proofs.lemmas.List.Sums.{sum_by-cons}
use Rattle.std.proofs.lemmas.List.Elements.{All-head, All-tail, All-nil, All-cons, All-contains}
use Rattle.base_types.specs.declared.limits.TheConstants.Limits.{RATE, SETUP}
use Rattle.base_types.specs.Ranges.{IsRate, IsSetup}
use Rattle.adapter_core.specs.declared.sample.Sample.{Sample}
use Rattle.adapter_core.specs.Sums.{Sums, sums_of, square_of, product_of}
use Rattle.adapter_core.specs.LeastSquares.{nearest, determinant, setup_numerator, setup_of, rate_of, AreOn}

-- a sum by recursion on the list
abbrev total : (Sample → ℕ) → List Sample → ℕ
total f [] = 0
total f (x ∷ xs) = f x + total f xs

sum_is_total : (f : Sample → ℕ) (xs : List Sample) → sum_by f xs ≡ total f xs
sum_is_total f [] = refl
sum_is_total f (x ∷ xs) = sum_by-cons f x xs ∙ ap (λ n. f x + n) (sum_is_total f xs)

abbrev impressions_of : Sample → ℕ
impressions_of s = s.impressions

abbrev ms_of : Sample → ℕ
ms_of s = s.ms

abbrev IsOn : ℕ → ℕ → Sample → Type 0
IsOn setup rate s = s.ms ≡ setup + s.impressions * rate

-- ---- the sums on a line
ms_on : (setup rate : ℕ) (xs : List Sample) → AreOn setup rate xs → total ms_of xs ≡ length xs * setup + total impressions_of xs * rate
ms_on setup rate [] on = omega arith
ms_on setup rate (x ∷ xs) on =
    omega (arith, All-head (IsOn setup rate) x xs on, ms_on setup rate xs (All-tail (IsOn setup rate) x xs on))

products_on : (setup rate : ℕ) (xs : List Sample) → AreOn setup rate xs → total product_of xs ≡ total impressions_of xs * setup + total square_of xs * rate
products_on setup rate [] on = omega arith
products_on setup rate (x ∷ xs) on =
    omega (arith, ap (λ n. x.impressions * n) (All-head (IsOn setup rate) x xs on), products_on setup rate xs (All-tail (IsOn setup rate) x xs on))

-- ---- the determinant is the sum of the squares of all differences
abbrev gap : ℕ → ℕ → ℕ
gap a b = (a - b) + (b - a)

gap_up : (a d : ℕ) → gap a (a + d) * gap a (a + d) + 2 * (a * (a + d)) ≡ a * a + (a + d) * (a + d)
gap_up a d =
    let is : gap a (a + d) ≡ d = omega arith in
    rw is (omega arith)

gap_down : (b d : ℕ) → gap (b + d) b * gap (b + d) b + 2 * ((b + d) * b) ≡ (b + d) * (b + d) + b * b
gap_down b d =
    let is : gap (b + d) b ≡ d = omega arith in
    rw is (omega arith)

gap_square : (a b : ℕ) → gap a b * gap a b + 2 * (a * b) ≡ a * a + b * b
gap_square a b =
    elim (cases_lt a b) [
      | inl less ↦ subst (λ n. gap a n * gap a n + 2 * (a * n) ≡ a * a + n * n) (omega arith) (gap_up a (b - a))
      | inr more ↦ subst (λ n. gap n b * gap n b + 2 * (n * b) ≡ n * n + b * b) (omega arith) (gap_down b (a - b))
    ]

-- the squares of the differences from a number
abbrev apart_from : ℕ → List Sample → ℕ
apart_from a [] = 0
apart_from a (x ∷ xs) = gap a x.impressions * gap a x.impressions + apart_from a xs

-- the squares of all differences
abbrev apart : List Sample → ℕ
apart [] = 0
apart (x ∷ xs) = apart_from x.impressions xs + apart xs

apart_from_is : (a : ℕ) (xs : List Sample) → apart_from a xs + 2 * (a * total impressions_of xs) ≡ total square_of xs + length xs * (a * a)
apart_from_is a [] = omega arith
apart_from_is a (x ∷ xs) = omega (arith, gap_square a x.impressions, apart_from_is a xs)

apart_is : (xs : List Sample) → total impressions_of xs * total impressions_of xs + apart xs ≡ length xs * total square_of xs
apart_is [] = omega arith
apart_is (x ∷ xs) = omega (arith, apart_from_is x.impressions xs, apart_is xs)

-- ---- it is positive where two samples differ
square_zero : (n : ℕ) → n * n ≡ 0 → n ≡ 0
square_zero zero is = refl
square_zero (suc n) is = absurd (omega arith)

same_as : (a : ℕ) (xs : List Sample) → apart_from a xs ≡ 0 → All (λ (s : Sample). s.impressions ≡ a) xs
same_as a [] is = All-nil (λ (s : Sample). s.impressions ≡ a)
same_as a (x ∷ xs) is =
    let none : gap a x.impressions ≡ 0 = square_zero (gap a x.impressions) (omega arith) in
    All-cons (λ (s : Sample). s.impressions ≡ a) x xs (omega arith) (same_as a xs (omega arith))

differ : (xs : List Sample) (one other : Sample) → Contains xs one → Contains xs other → one.impressions ≢ other.impressions → 0 < apart xs
differ [] one other has_one has_other different = absurd (omega arith)
differ (x ∷ xs) one other has_one has_other different =
    elim (cases_lt 0 (apart (x ∷ xs))) [
      | inl some ↦ some
      | inr none ↦
          (let all : All (λ (s : Sample). s.impressions ≡ x.impressions) (x ∷ xs) =
          All-cons (λ (s : Sample). s.impressions ≡ x.impressions) x xs refl (same_as x.impressions xs (omega arith)) in
          let e : one.impressions ≡ x.impressions = All-contains (λ (s : Sample). s.impressions ≡ x.impressions) (x ∷ xs) one all has_one in
          let f : other.impressions ≡ x.impressions = All-contains (λ (s : Sample). s.impressions ≡ x.impressions) (x ∷ xs) other all has_other in
          absurd (different (e ∙ sym f)))
    ]

-- ---- quotients that are whole
nearest_whole : (number divisor : ℕ) → 0 < divisor → nearest (divisor * number) divisor ≡ number
nearest_whole number divisor some =
    let same : 2 * (divisor * number) + divisor ≡ number * (2 * divisor) + divisor = omega arith in
    ap (λ n. n / (2 * divisor)) same ∙ div-mul-add number (2 * divisor) divisor (omega arith)

-- the sums, each by recursion
abbrev totals_of : List Sample → Sums
totals_of xs = record {
  count = length xs;
  impressions = total impressions_of xs;
  ms = total ms_of xs;
  squares = total square_of xs;
  products = total product_of xs;
}

sums_are : (xs : List Sample) → sums_of xs ≡ totals_of xs
sums_are xs = cc (sum_is_total impressions_of xs, sum_is_total ms_of xs, sum_is_total square_of xs, sum_is_total product_of xs)

setup_in : (sums : Sums) (setup : ℕ) → 0 < determinant sums → setup_numerator sums ≡ determinant sums * setup → IsSetup setup → setup_of sums ≡ Some setup
setup_in sums setup some is range =
    let not_none : (determinant sums == 0) ≡ false = ne_eqb (determinant sums) 0 (λ none. absurd (omega arith)) in
    let found : min (nearest (setup_numerator sums) (determinant sums)) SETUP ≡ setup =
    ap (λ n. min (nearest n (determinant sums)) SETUP) is ∙ ap (λ n. min n SETUP) (nearest_whole setup (determinant sums) some) ∙ omega arith in
    ap (λ (b : Bool). if b then None else Some (min (nearest (setup_numerator sums) (determinant sums)) SETUP)) not_none ∙ ap Some found

pub setup_found : (xs : List Sample) (one other : Sample) (setup rate : ℕ) → AreOn setup rate xs → Contains xs one → Contains xs other → one.impressions ≢ other.impressions → IsSetup setup → setup_of (sums_of xs) ≡ Some setup
setup_found xs one other setup rate on has_one has_other different range =
    let is_apart : determinant (totals_of xs) ≡ apart xs = omega (arith, apart_is xs) in
    let some : 0 < determinant (totals_of xs) = omega (arith, is_apart, differ xs one other has_one has_other different) in
    let products : total impressions_of xs * total product_of xs ≡ total impressions_of xs * (total impressions_of xs * setup + total square_of xs * rate) =
    ap (λ n. total impressions_of xs * n) (products_on setup rate xs on) in
    let ms : total ms_of xs * total square_of xs ≡ (length xs * setup + total impressions_of xs * rate) * total square_of xs =
    ap (λ n. n * total square_of xs) (ms_on setup rate xs on) in
    let numerator : setup_numerator (totals_of xs) ≡ apart xs * setup = omega (arith, products, ms, ap (λ n. n * setup) (apart_is xs)) in
    subst (λ sums. setup_of sums ≡ Some setup) (sym (sums_are xs))
    (setup_in (totals_of xs) setup some (numerator ∙ ap (λ n. n * setup) (sym is_apart)) range)

-- ---- the rate with a setup
all_zero : (xs : List Sample) → total square_of xs ≡ 0 → All (λ (s : Sample). s.impressions ≡ 0) xs
all_zero [] is = All-nil (λ (s : Sample). s.impressions ≡ 0)
all_zero (x ∷ xs) is =
    All-cons (λ (s : Sample). s.impressions ≡ 0) x xs (square_zero x.impressions (omega arith)) (all_zero xs (omega arith))

some_squares : (xs : List Sample) (one : Sample) → Contains xs one → 0 < one.impressions → 0 < total square_of xs
some_squares xs one has_one some =
    elim (cases_lt 0 (total square_of xs)) [
      | inl more ↦ more
      | inr none ↦
          (let zero' : one.impressions ≡ 0 = All-contains (λ (s : Sample). s.impressions ≡ 0) xs one (all_zero xs (omega arith)) has_one in
          absurd (omega arith))
    ]

rate_in : (sums : Sums) (setup rate : ℕ) → 0 < sums.squares → sums.products ≡ sums.impressions * setup + sums.squares * rate → IsRate rate → rate_of setup sums ≡ Some rate
rate_in sums setup rate some on range =
    let not_none : (sums.squares == 0) ≡ false = ne_eqb sums.squares 0 (λ none. absurd (omega arith)) in
    let left : sums.products - setup * sums.impressions ≡ sums.squares * rate = omega arith in
    let found : min (max (nearest (sums.products - setup * sums.impressions) sums.squares) 1) RATE ≡ rate =
    ap (λ n. min (max (nearest n sums.squares) 1) RATE) left ∙ ap (λ n. min (max n 1) RATE) (nearest_whole rate sums.squares some) ∙ omega arith in
    ap (λ (b : Bool). if b then None else Some (min (max (nearest (sums.products - setup * sums.impressions) sums.squares) 1) RATE)) not_none ∙ ap Some found

pub rate_found : (xs : List Sample) (one : Sample) (setup rate : ℕ) → AreOn setup rate xs → Contains xs one → 0 < one.impressions → IsRate rate → rate_of setup (sums_of xs) ≡ Some rate
rate_found xs one setup rate on has_one some range =
    subst (λ sums. rate_of setup sums ≡ Some rate) (sym (sums_are xs))
    (rate_in (totals_of xs) setup rate (some_squares xs one has_one some) (products_on setup rate xs on) range)
