-- The names of control and data files (RFC 1179, sections 6.2 and 6.3): `cf` or `df`, a letter, three digits, and the name of the client's host.
use Rattle.std.specs.Prelude.{ℕ, ◌==◌, ◌&&◌, not, nat_le, Bool, false, List, ◌∷◌, length}
use Rattle.std.specs.List.{list_all}
use Rattle.std.specs.Char.{is_ascii_alphabetic, is_ascii_digit}
use Rattle.base_types.specs.declared.limits.TheConstants.Limits.{LPD_HOST_BYTES}
use Rattle.lpd.specs.declared.item.FileKind.{FileKind}
use Rattle.lpd.specs.declared.item.FileKind.TheVariants.{Control, Data}

-- the first byte of a name, by the kind; the second byte is `f` for both
abbrev pub first_of : FileKind → ℕ
first_of Control = 99
first_of Data = 100

abbrev pub is_host : List ℕ → Bool
is_host host = (nat_le 1 (length host) && nat_le (length host) LPD_HOST_BYTES) && list_all (λ byte. not (byte == 32)) host

abbrev pub is_numbered : ℕ → ℕ → ℕ → ℕ → Bool
is_numbered letter hundreds tens ones = ((is_ascii_alphabetic letter && is_ascii_digit hundreds) && is_ascii_digit tens) && is_ascii_digit ones

unfoldable pub is_file_name : FileKind → List ℕ → Bool
is_file_name kind (first ∷ second ∷ letter ∷ hundreds ∷ tens ∷ ones ∷ host) =
    ((first == first_of kind) && (second == 102)) && (is_numbered letter hundreds tens ones && is_host host)
is_file_name kind _ = false
