-- A text, cut where a byte is first.
use Rattle.std.specs.Prelude.{ℕ, ◌≡◌, ◌==◌, ◌+◌, ◌<◌, true, false, List, [], ◌∷◌, length, take, drop, Some, None, position, slice_index_or}
use Rattle.std.proofs.Common.{rules, arith, add-one, refl, ap, ◌∙◌}
use Rattle.std.proofs.lemmas.Bool.{eq-eqb}
use Rattle.std.proofs.lemmas.List.{get_or-take, length-take-le}
use Rattle.std.proofs.lemmas.List.Splits.{slice_split_none, slice_split_at}
use Rattle.std.proofs.lemmas.List.Quantifiers.{position-Some}
use Rattle.std.proofs.lemmas.Grind.{get_or_default_zero}
use Rattle.std.proofs.Math.Seq.{split_at}
use Rattle.text.specs.Parts.{parts_at, Lacks, IsCut}
use Rattle.text.proofs.Positions.{each_fails}

-- the bytes before this place are none of these
before : (wanted : ℕ) (bytes : List ℕ) (place : ℕ) → place < length bytes → ((k : ℕ) → k < place → (slice_index_or bytes k 0 == wanted) ≡ false) → Lacks wanted (take place bytes)
before wanted bytes place within fails k d low =
    let short : k < place = omega (arith, low, length-take-le place bytes (omega (arith, within))) in
    rw (get_or-take place bytes k d short, get_or_default_zero bytes k d (omega (arith, short, within))) (fails k short)

pub cut_found : (wanted : ℕ) (bytes : List ℕ) (place : ℕ) → position (λ byte. byte == wanted) bytes ≡ Some place → IsCut wanted bytes (take place bytes) (drop (place + 1) bytes)
cut_found wanted bytes place found =
    let at : (place < length bytes) × ((slice_index_or bytes place 0 == wanted) ≡ true) × ((k : ℕ) → k < place → (slice_index_or bytes k 0 == wanted) ≡ false) = position-Some (λ byte. byte == wanted) bytes place 0 found in
    let is : slice_index_or bytes place 0 ≡ wanted = search (rules, at.1) in
    record { lacks = before wanted bytes place at.0 at.2; joined = rw (← is, add-one place) (split_at bytes place 0 at.0) }

-- a byte that isn't found is nowhere
pub found_nowhere : (wanted : ℕ) (bytes : List ℕ) → position (λ byte. byte == wanted) bytes ≡ None → Lacks wanted bytes
found_nowhere wanted bytes absent = each_fails (λ byte. byte == wanted) bytes absent

-- the first part of a text that is cut
pub parts_cut : (separator : ℕ) (text before after : List ℕ) → IsCut separator text before after → parts_at separator text ≡ before ∷ parts_at separator after
parts_cut separator text before after cut =
    ap (parts_at separator) cut.joined ∙ slice_split_at (λ byte. byte == separator) before separator after cut.lacks (eq-eqb separator separator refl)

-- a text that isn't cut is one part
pub parts_uncut : (separator : ℕ) (text : List ℕ) → Lacks separator text → parts_at separator text ≡ text ∷ []
parts_uncut separator text lacks = slice_split_none (λ byte. byte == separator) text lacks
