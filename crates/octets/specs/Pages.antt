-- Octets in pages, of which all but the last are full.
use Rattle.std.specs.Prelude.{ℕ, ◌≡◌, ◌<◌, List, [], ◌∷◌, ◌++◌, length}
use Rattle.std.specs.List.{AllByRecursion}
use Rattle.octets.specs.declared.page.TheConstants.{PAGE_BYTES}
use Rattle.octets.specs.declared.paged.Paged.{Paged}

-- pages one after the other
abbrev pub joined : List (List ℕ) → List ℕ
joined [] = []
joined (page ∷ pages) = page ++ joined pages

-- the octets of all pages
abbrev pub octets_in : Paged → List ℕ
octets_in paged = joined paged.pages.items ++ paged.last

-- a full page
abbrev pub IsFull : List ℕ → Type 0
IsFull page = length page ≡ PAGE_BYTES

-- all pages but the last are full, and the last has room
pub record IsPaged (paged : Paged) : Type 0 where
  pub full : AllByRecursion IsFull paged.pages.items
  pub room : length paged.last < PAGE_BYTES
