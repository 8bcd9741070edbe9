-- The lines of bytes. A line ends in a line feed, which the last line may lack.
use Rattle.std.specs.Prelude.{ℕ, ◌≡◌, ◌⊎◌, not, Bool, true, List, [], ◌∷◌, ◌++◌, length, codes, suc}
use Rattle.std.specs.List.{list_all}
use Rattle.std.specs.Str.{bytes_eq}
use Rattle.text.specs.Parts.{texts_of, Lacks}

-- the list without an empty text at its end
unfoldable pub without_end : List (List ℕ) → List (List ℕ)
without_end [] = []
without_end ([] ∷ []) = []
without_end (text ∷ more) = text ∷ without_end more

-- the texts between line feeds, without an empty one after the last line feed
abbrev pub lines_of : List ℕ → List (List ℕ)
lines_of bytes = without_end (texts_of bytes)

-- the line has no line feed
abbrev pub IsOneLine : List ℕ → Type 0
IsOneLine line = Lacks 10 line

-- the bytes are a line, its line feed and the rest, or a last line without one
abbrev pub IsFirst : List ℕ → List ℕ → List ℕ → Type 0
IsFirst bytes line rest = (bytes ≡ line ++ (codes "\n" ++ rest)) ⊎ ((bytes ≡ line) × (rest ≡ []))

-- the last line has its line feed
abbrev pub IsEnded : List ℕ → Type 0
IsEnded bytes = (bytes ≡ []) ⊎ ((prefix : List ℕ) × (bytes ≡ prefix ++ codes "\n"))

abbrev pub is_stop : List ℕ → Bool
is_stop line = bytes_eq line (codes ".")

-- no line of the bytes is the stop
abbrev pub HasNoStop : List ℕ → Type 0
HasNoStop bytes = list_all (λ line. not (is_stop line)) (lines_of bytes) ≡ true

-- A trace begins with settings: whole lines, none of which is the stop. After them are the stop, which is the line of this number, and the rest.
pub record IsSplit (trace settings rest : List ℕ) (count : ℕ) : Type 0 where
  pub lines : lines_of trace ≡ lines_of settings ++ (codes "." ∷ lines_of rest)
  pub none : HasNoStop settings
  pub number : count ≡ suc (length (lines_of settings))
  pub prefix : (later : List ℕ) × (trace ≡ settings ++ later)
  pub whole : IsEnded settings
