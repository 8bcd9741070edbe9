-- The result for the first line of bytes stays the same if more bytes follow.
use Rattle.std.specs.Prelude.{ℕ, ◌≡◌, ◌==◌, ◌++◌, ◌<◌, ◌≤◌, true, false, List, length, Option, Some, None, position, slice_index_or}
use Rattle.std.proofs.Common.{rules, arith, refl}
use Rattle.std.proofs.lemmas.List.Quantifiers.{position-Some}
use Rattle.std.proofs.lemmas.List.{get_or_append_left, length-append}
use Rattle.text.specs.declared.line.FirstLine.TheVariants.{Whole, TooLong, Unfinished}
use Rattle.text.specs.FirstLine.{line_of, first_line_of}
use Rattle.text.proofs.Positions.{position_before, passes_late, each_fails}

whole_by : (most length count : ℕ) (found : Option ℕ) → line_of most length found ≡ Whole count → (found ≡ Some count) × (count < most)
whole_by most length count None line = grind (arith, line)
whole_by most length count (Some place) line = grind (arith, line)

pub whole_line : (most : ℕ) (bytes : List ℕ) (count : ℕ) → first_line_of most bytes ≡ Whole count → (position (λ byte. byte == 10) bytes ≡ Some count) × (count < most)
whole_line most bytes count is = whole_by most (length bytes) count (position (λ byte. byte == 10) bytes) is

unfinished_by : (most length : ℕ) (found : Option ℕ) → line_of most length found ≡ Unfinished → (found ≡ None) × (length < most)
unfinished_by most length None line = grind (arith, line)
unfinished_by most length (Some place) line = grind (arith, line)

pub unfinished_line : (most : ℕ) (bytes : List ℕ) → first_line_of most bytes ≡ Unfinished → (position (λ byte. byte == 10) bytes ≡ None) × (length bytes < most)
unfinished_line most bytes is = unfinished_by most (length bytes) (position (λ byte. byte == 10) bytes) is

pub line_grown : (most : ℕ) (bytes coming : List ℕ) (count : ℕ) → first_line_of most bytes ≡ Whole count → first_line_of most (bytes ++ coming) ≡ Whole count
line_grown most bytes coming count is =
    let parts = whole_line most bytes count is in
    search (rules, position_before (λ byte. byte == 10) bytes coming count parts.0, parts.1)

-- at least `most` bytes, without a line feed among the first `most`
pub record IsEndless (most : ℕ) (bytes : List ℕ) : Type 0 where
  pub many : most ≤ length bytes
  pub none : (place : ℕ) → place < most → (slice_index_or bytes place 0 == 10) ≡ false

endless_by : (most : ℕ) (bytes : List ℕ) (found : Option ℕ) → position (λ byte. byte == 10) bytes ≡ found → line_of most (length bytes) found ≡ TooLong → IsEndless most bytes
endless_by most bytes None at line =
    let many : most ≤ length bytes = grind (arith, line) in
    record { many = many; none = λ place low. each_fails (λ byte. byte == 10) bytes at place 0 (omega (arith, low, many)) }
endless_by most bytes (Some place) at line =
    let far : most ≤ place = grind (arith, line) in
    let facts : (place < length bytes) × ((slice_index_or bytes place 0 == 10) ≡ true) × ((k : ℕ) → k < place → (slice_index_or bytes k 0 == 10) ≡ false) = position-Some (λ byte. byte == 10) bytes place 0 at in
    record { many = omega (arith, far, facts.0); none = λ k low. facts.2 k (omega (arith, low, far)) }

pub endless_line : (most : ℕ) (bytes : List ℕ) → first_line_of most bytes ≡ TooLong → IsEndless most bytes
endless_line most bytes is = endless_by most bytes (position (λ byte. byte == 10) bytes) refl is

pub endless_grown : (most : ℕ) (bytes coming : List ℕ) → IsEndless most bytes → IsEndless most (bytes ++ coming)
endless_grown most bytes coming endless = record {
  many = rw (length-append bytes coming) (omega (arith, endless.many));
  none = λ place low. rw (get_or_append_left bytes coming 0 place (omega (arith, low, endless.many))) (endless.none place low);
}

too_long_by : (most : ℕ) (bytes : List ℕ) (found : Option ℕ) → position (λ byte. byte == 10) bytes ≡ found → IsEndless most bytes → line_of most (length bytes) found ≡ TooLong
too_long_by most bytes None at endless = grind (arith, endless.many)
too_long_by most bytes (Some place) at endless = grind (arith, passes_late (λ byte. byte == 10) bytes most place endless.none at)

pub too_long_grown : (most : ℕ) (bytes coming : List ℕ) → first_line_of most bytes ≡ TooLong → first_line_of most (bytes ++ coming) ≡ TooLong
too_long_grown most bytes coming is =
    too_long_by most (bytes ++ coming) (position (λ byte. byte == 10) (bytes ++ coming)) refl (endless_grown most bytes coming (endless_line most bytes is))
