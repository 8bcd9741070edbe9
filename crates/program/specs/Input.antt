-- The input that a program reads.
use Rattle.std.specs.Prelude.{ℕ, ◌<◌, ◌≤◌, List, Option, length}
use Rattle.std.specs.Io.KnownBytes.{Consumes, IsAtEnd}
use Rattle.program.specs.declared.input.InputFault.{InputFault}
use Rattle.program.specs.declared.input.InputFault.TheVariants.{Size, Stream, OutOfMemory}

-- the reader gave exactly these bytes, at most `most`, and is at its end
pub record IsWhole (most : ℕ) (before after : Option (List ℕ)) (bytes : List ℕ) : Type 0 where
  pub given : Consumes before after bytes
  pub ended : IsAtEnd after
  pub few : length bytes ≤ most

-- the reader gave more than `most` bytes
abbrev pub GaveMore : ℕ → Option (List ℕ) → Option (List ℕ) → Type 0
GaveMore most before after = (bytes : List ℕ) × Consumes before after bytes × (most < length bytes)

-- the reader gave at most `most` bytes
abbrev pub GaveFew : ℕ → Option (List ℕ) → Option (List ℕ) → Type 0
GaveFew most before after = (bytes : List ℕ) × Consumes before after bytes × (length bytes ≤ most)

-- the bytes that the reader had given at a fault
abbrev pub StopsAt : ℕ → Option (List ℕ) → Option (List ℕ) → InputFault → Type 0
StopsAt most before after Size = GaveMore most before after
StopsAt most before after Stream = GaveFew most before after
StopsAt most before after OutOfMemory = GaveFew most before after
