-- Texts that are cut at each byte of one value.
use Rattle.std.specs.Prelude.{ℕ, ◌≡◌, ◌==◌, All, false, List, ◌∷◌, ◌++◌}
use Rattle.std.specs.List.{slice_split}

-- the parts between the separators, at least one
abbrev pub parts_at : ℕ → List ℕ → List (List ℕ)
parts_at separator text = slice_split (λ byte. byte == separator) text

-- the words between single spaces; two spaces have an empty word between them
abbrev pub words_of : List ℕ → List (List ℕ)
words_of text = parts_at 32 text

-- the texts between line feeds; the last isn't a whole line
abbrev pub texts_of : List ℕ → List (List ℕ)
texts_of text = parts_at 10 text

-- the byte isn't among the bytes
abbrev pub Lacks : ℕ → List ℕ → Type 0
Lacks absent bytes = All (λ byte. (byte == absent) ≡ false) bytes

-- the text is cut at its first separator
pub record IsCut (separator : ℕ) (text before after : List ℕ) : Type 0 where
  pub lacks : Lacks separator before
  pub joined : text ≡ before ++ (separator ∷ after)
