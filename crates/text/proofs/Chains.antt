-- Chains of steps.
use Rattle.std.specs.Prelude.{◌≡◌, Result, Ok, Err}
use Rattle.std.proofs.Common.{refl}
use Rattle.text.specs.Steps.{◌>>=◌}

-- a chain that gives a value went through each of its steps
pub went_on : {A B F : Type 0} (r : Result A F) (next : A → Result B F) (b : B) → (r >>= next) ≡ Ok b → (a : A) × (r ≡ Ok a) × (next a ≡ Ok b)
went_on (Ok a) next b is = (a, refl, is)
went_on (Err fault) next b is = absurd (cc)
