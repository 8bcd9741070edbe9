-- The first line of bytes that come in segments. It is whole once its line feed is there, and its length is bounded.
use Rattle.std.specs.Prelude.{ℕ, ◌==◌, nat_lt, if◌then◌else◌, List, length, Option, Some, None, position}
use Rattle.text.specs.declared.line.FirstLine.{FirstLine}
use Rattle.text.specs.declared.line.FirstLine.TheVariants.{Whole, TooLong, Unfinished}

-- the first line, by the place of its line feed, if there is one among `count` bytes
abbrev pub line_of : ℕ → ℕ → Option ℕ → FirstLine
line_of most count (Some place) = if nat_lt place most then Whole place else TooLong
line_of most count None = if nat_lt count most then Unfinished else TooLong

-- the first line, which has at most `most` bytes with its line feed
abbrev pub first_line_of : ℕ → List ℕ → FirstLine
first_line_of most bytes = line_of most (length bytes) (position (λ byte. byte == 10) bytes)
