-- The lines up to the first empty line, which ends a head and a trailer section (RFC 9112, section 2.1). A line ends in LF or CR LF.
use Rattle.std.specs.Prelude.{ℕ, ◌==◌, ◌&&◌, ◌+◌, nat_lt, Bool, true, if◌then◌else◌, List, [], ◌∷◌, length, take, Option, Some, None}
use Rattle.text.specs.declared.line.FirstLine.{FirstLine}
use Rattle.text.specs.declared.line.FirstLine.TheVariants.{Whole, TooLong, Unfinished}

-- the length of an empty line at the beginning, 0 where no empty line is there
abbrev pub empty_line : List ℕ → ℕ
empty_line [] = 0
empty_line (first ∷ []) = if first == 10 then 1 else 0
empty_line (first ∷ second ∷ more) = if first == 10 then 1 else if (first == 13) && (second == 10) then 2 else 0

-- the end of the first empty line, counted from `place`; `begins` indicates whether a line begins at the first byte
abbrev pub empty_line_end : Bool → ℕ → List ℕ → Option ℕ
empty_line_end begins place [] = None
empty_line_end begins place (byte ∷ bytes) =
    if begins && nat_lt 0 (empty_line (byte ∷ bytes)) then Some (place + empty_line (byte ∷ bytes))
    else empty_line_end (byte == 10) (place + 1) bytes

abbrev pub section_of : ℕ → ℕ → Option ℕ → FirstLine
section_of most count (Some end) = Whole end
section_of most count None = if nat_lt count most then Unfinished else TooLong

-- the lines up to and with the first empty line, where they have at most `most` bytes
abbrev pub section_in : ℕ → List ℕ → FirstLine
section_in most bytes = section_of most (length bytes) (empty_line_end true 0 (take most bytes))
