-- The attributes that requested-attributes asks for (RFC 8011, section 4.2.5.1).
use Rattle.std.specs.Prelude.{ℕ, Bool, ◌||◌, List, codes}
use Rattle.std.specs.List.{list_any}
use Rattle.std.specs.Str.{bytes_eq}

-- a value asks for an attribute by the attribute's name, by its group's name, or by `all`
abbrev pub asks_for : List ℕ → List ℕ → List ℕ → Bool
asks_for name group asked = bytes_eq asked (codes "all") || bytes_eq asked group || bytes_eq asked name

-- some value asks for the attribute; a value that names nothing is ignored
abbrev pub is_requested : List ℕ → List ℕ → List (List ℕ) → Bool
is_requested name group requested = list_any (asks_for name group) requested

-- some value is this name
abbrev pub has_name : List ℕ → List (List ℕ) → Bool
has_name name requested = list_any (λ asked. bytes_eq asked name) requested

-- a value asks for a group of a printer's attributes, or for all attributes
abbrev pub names_group : List ℕ → Bool
names_group asked = bytes_eq asked (codes "all") || bytes_eq asked (codes "printer-description") || bytes_eq asked (codes "job-template")

-- some value asks for a group of a printer's attributes, or for all
abbrev pub has_group : List (List ℕ) → Bool
has_group requested = list_any names_group requested
