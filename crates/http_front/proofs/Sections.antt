-- The result for the first empty line stays the same if more bytes follow.
use Rattle.std.specs.Prelude.{ℕ, suc, zero, ◌==◌, ◌&&◌, ◌≡◌, ◌++◌, ◌+◌, ◌<◌, ◌≤◌, Bool, true, false, nat_lt, if◌then◌else◌, List, [], ◌∷◌, length, take, Option, Some, None}
use Rattle.std.proofs.Common.{arith, refl, ap, ◌∙◌}
use Rattle.std.proofs.lemmas.List.{take-append-le, length-append, length-take}
use Rattle.text.specs.declared.line.FirstLine.TheVariants.{Whole, TooLong}
use Rattle.http_front.specs.Section.{empty_line, empty_line_end, section_of, section_in}

-- an empty line ends at the same place if more bytes follow
one_grown : (first : ℕ) (coming : List ℕ) (begins : Bool) (place end : ℕ) → empty_line_end begins place (first ∷ []) ≡ Some end → empty_line_end begins place (first ∷ coming) ≡ Some end
one_grown first [] begins place end is = is
one_grown first (second ∷ coming) begins place end is = grind (arith, is)

by_test : (test : Bool) (end : ℕ) (here there grown : Option ℕ) → (if test then here else there) ≡ Some end → (there ≡ Some end → grown ≡ Some end) → (if test then here else grown) ≡ Some end
by_test true end here there grown is later = is
by_test false end here there grown is later = later is

end_grown : (bytes coming : List ℕ) (begins : Bool) (place end : ℕ) → empty_line_end begins place bytes ≡ Some end → empty_line_end begins place (bytes ++ coming) ≡ Some end
end_grown [] coming begins place end is = absurd (let no : None ≡ Some end = is in (cc))
end_grown (first ∷ []) coming begins place end is = one_grown first coming begins place end is
end_grown (first ∷ second ∷ bytes) coming begins place end is =
    by_test (begins && nat_lt 0 (empty_line (first ∷ second ∷ bytes))) end _ _ _ is (end_grown (second ∷ bytes) coming (first == 10) (place + 1) end)

empty_within : (bytes : List ℕ) → empty_line bytes ≤ length bytes
empty_within [] = omega arith
empty_within (first ∷ []) = grind arith
empty_within (first ∷ second ∷ bytes) = grind arith

end_within : (bytes : List ℕ) (begins : Bool) (place end : ℕ) → empty_line_end begins place bytes ≡ Some end → end ≤ place + length bytes
end_within [] begins place end is = absurd (let no : None ≡ Some end = is in (cc))
end_within (byte ∷ bytes) begins place end is =
    let later = end_within bytes (byte == 10) (place + 1) end in
    grind (arith, is, later, empty_within (byte ∷ bytes))

take_grown : (most : ℕ) (bytes coming : List ℕ) → (rest : List ℕ) × (take most (bytes ++ coming) ≡ take most bytes ++ rest)
take_grown zero bytes coming = ([], refl)
take_grown (suc most) [] coming = (take (suc most) coming, refl)
take_grown (suc most) (byte ∷ bytes) coming = let grown = take_grown most bytes coming in (grown.0, ap (λ xs. byte ∷ xs) grown.1)

whole_by : (most count end : ℕ) (found : Option ℕ) → section_of most count found ≡ Whole end → found ≡ Some end
whole_by most count end None is = grind (arith, is)
whole_by most count end (Some place) is = let same : Whole place ≡ Whole end = is in (cc)

long_by : (most count : ℕ) (found : Option ℕ) → section_of most count found ≡ TooLong → (found ≡ None) × (most ≤ count)
long_by most count None is = (refl, grind (arith, is))
long_by most count (Some place) is = absurd (let no : Whole place ≡ TooLong = is in (cc))

pub section_whole : (most : ℕ) (bytes coming : List ℕ) (end : ℕ) → section_in most bytes ≡ Whole end → section_in most (bytes ++ coming) ≡ Whole end
section_whole most bytes coming end is =
    let found = whole_by most (length bytes) end (empty_line_end true 0 (take most bytes)) is in
    let more = take_grown most bytes coming in
    let grown : empty_line_end true 0 (take most (bytes ++ coming)) ≡ Some end = rw more.1 (end_grown (take most bytes) more.0 true 0 end found) in
    ap (λ found. section_of most (length (bytes ++ coming)) found) grown

end_above : (bytes : List ℕ) (begins : Bool) (place end : ℕ) → empty_line_end begins place bytes ≡ Some end → place < end
end_above [] begins place end is = absurd (let no : None ≡ Some end = is in (cc))
end_above (byte ∷ bytes) begins place end is =
    let later = end_above bytes (byte == 10) (place + 1) end in
    grind (arith, is, later)

-- a section has at least one byte
pub section_some : (most : ℕ) (bytes : List ℕ) (end : ℕ) → section_in most bytes ≡ Whole end → 0 < end
section_some most bytes end is = end_above (take most bytes) true 0 end (whole_by most (length bytes) end (empty_line_end true 0 (take most bytes)) is)

pub section_within : (most : ℕ) (bytes : List ℕ) (end : ℕ) → section_in most bytes ≡ Whole end → end ≤ length bytes
section_within most bytes end is =
    let found = whole_by most (length bytes) end (empty_line_end true 0 (take most bytes)) is in
    omega (arith, end_within (take most bytes) true 0 end found, length-take most bytes)

long_is : (most count : ℕ) → most ≤ count → section_of most count None ≡ TooLong
long_is most count many = grind (arith, many)

pub section_long : (most : ℕ) (bytes coming : List ℕ) → section_in most bytes ≡ TooLong → section_in most (bytes ++ coming) ≡ TooLong
section_long most bytes coming is =
    let parts = long_by most (length bytes) (empty_line_end true 0 (take most bytes)) is in
    let same : take most (bytes ++ coming) ≡ take most bytes = take-append-le most bytes coming parts.1 in
    let none : empty_line_end true 0 (take most (bytes ++ coming)) ≡ None = rw same parts.0 in
    let many : most ≤ length (bytes ++ coming) = rw (length-append bytes coming) (omega (arith, parts.1)) in
    ap (λ found. section_of most (length (bytes ++ coming)) found) none ∙ long_is most (length (bytes ++ coming)) many
