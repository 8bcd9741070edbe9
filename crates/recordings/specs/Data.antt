-- The written form of bytes in a line.
use Rattle.std.specs.Prelude.{ℕ, ◌==◌, if◌then◌else◌, List, [], ◌∷◌, flat_map}

-- a line feed is written as `\n`, a backslash as `\\`, and any other byte as itself
abbrev pub escape : ℕ → List ℕ
escape byte = if byte == 10 then 92 ∷ 110 ∷ [] else (if byte == 92 then 92 ∷ 92 ∷ [] else byte ∷ [])

abbrev pub escaped : List ℕ → List ℕ
escaped bytes = flat_map escape bytes
