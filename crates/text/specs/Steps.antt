-- A chain of reading steps, each with a value or with the fault of the input.
use Rattle.std.specs.Prelude.{Result, Ok, Err}

-- the second step takes the value of the first; the first fault ends the chain
infixl 10 ◌>>=◌
abbrev pub ◌>>=◌ : {A B F : Type 0} → Result A F → (A → Result B F) → Result B F
(Ok value) >>= next = next value
(Err fault) >>= next = Err fault
