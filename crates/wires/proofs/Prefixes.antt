-- Bytes in parts.
use Rattle.std.proofs.Common.{◌≡◌, ◌≤◌, ℕ, List, [], ◌∷◌, ◌++◌, length, get_or, refl, arith}
use Rattle.std.specs.Io.Slices.{io_slice_bytes, io_slices_bytes}
use Rattle.std.specs.declared.io.slices.IoSlice.{IoSlice}

-- bytes in parts begin with the first part
pub first_part : (parts : List IoSlice) (d : IoSlice) → 1 ≤ length parts → (rest : List ℕ) × (io_slices_bytes parts ≡ io_slice_bytes (get_or parts 0 d) ++ rest)
first_part [] d some = absurd (omega (arith, some))
first_part (part ∷ parts) d some = (io_slices_bytes parts, refl)
