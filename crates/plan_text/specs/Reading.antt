-- Reading step by step: each step has a value, or the fault of the text.
use Rattle.std.specs.Prelude.{◌≡◌, List, ◌++◌, Result, Ok, Err}
use Rattle.text.specs.Steps.{◌>>=◌}
use Rattle.plan_text.specs.declared.fault.TextFault.{TextFault}
use Rattle.plan_text.specs.declared.fault.ReadError.{ReadError}
use Rattle.plan_text.specs.declared.fault.ReadError.TheVariants as errors

-- the result of a function, seen by its view, is what the definition reads, unless memory ran out
abbrev pub Fails : {Y : Type 0} → ReadError → Result Y TextFault → Type 0
Fails errors.OutOfMemory read = Unit {0}
Fails (errors.Fault fault) read = read ≡ Err fault

abbrev pub Gives : {X Y : Type 0} → (X → Y) → Result X ReadError → Result Y TextFault → Type 0
Gives view (Ok x) read = read ≡ Ok (view x)
Gives view (Err error) read = Fails error read

-- the values of the reading, after these
abbrev pub with_prefix : {X : Type 0} → List X → Result (List X) TextFault → Result (List X) TextFault
with_prefix prefix read = read >>= λ xs. Ok (prefix ++ xs)
