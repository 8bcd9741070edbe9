-- A line with too many operands is no report.
use Rattle.std.specs.Prelude.{ℕ, ◌≡◌, Bool, List, ◌∷◌, None}
use Rattle.std.specs.List.{slice_split}
use Rattle.std.proofs.Common.{refl}
use Rattle.text.proofs.Splits.{parts}
use Rattle.device_link.specs.Line.{parsed}

-- a word and three operands or more are no report
pub nothing_parsed : (p : ℕ → Bool) (xs word first second : List ℕ) → parsed (word ∷ first ∷ second ∷ slice_split p xs) ≡ None
nothing_parsed p xs word first second =
    let it = parts p xs in
    rw it.cut refl
