-- Words that order nothing.
use Rattle.std.specs.Prelude.{ℕ, ◌≡◌, Bool, List, ◌∷◌, Option, None}
use Rattle.std.specs.List.{slice_split}
use Rattle.std.proofs.Common.{refl}
use Rattle.text.proofs.Splits.{parts}
use Rattle.adapter_core.specs.declared.order.JobNumbers.{JobNumbers}
use Rattle.adapter_core.specs.OrderLine.{described}

-- after a job's numbers, three words and more describe nothing
pub nothing_described : (p : ℕ → Bool) (xs : List ℕ) (numbers : Option JobNumbers) (sides media finishings : List ℕ) → described numbers (sides ∷ media ∷ finishings ∷ slice_split p xs) ≡ None
nothing_described p xs numbers sides media finishings = let it = parts p xs in rw it.cut refl
