-- A list that is kept as long as there is memory for it.
use Rattle.std.specs.Prelude.{◌≡◌, ◌⊎◌, List, ◌++◌, Option, None, option_map}

-- more items are appended, or memory for them was refused; after that the list is lost
abbrev pub Keeps : {T : Type 0} → Option (List T) → List T → Option (List T) → Type 0
Keeps old more new = (new ≡ option_map (λ kept. kept ++ more) old) ⊎ (new ≡ None)
