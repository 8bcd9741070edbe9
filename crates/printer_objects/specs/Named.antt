-- The attributes of a printer that are asked for by their names.
use Rattle.std.specs.Prelude.{ℕ, ◌+◌, Bool, true, ◌||◌, ◌&&◌, not, nat_eq, nat_lt, List, [], ◌∷◌, length, map}
use Rattle.std.specs.List.{list_all, list_any}
use Rattle.std.specs.Str.{bytes_eq}
use Rattle.printer_objects.specs.declared.printer_attribute.PrinterAttribute.{PrinterAttribute}
use Rattle.printer_objects.specs.PrinterAttribute.{printer_attribute_name, printer_table}
use Rattle.printer_objects.specs.Requested.{has_name}

-- whether some value is the attribute's name, for each attribute of the table
unfoldable pub named_of : List (List ℕ) → List Bool
named_of requested = map (λ which. has_name (printer_attribute_name which) requested) printer_table

-- the marks of these attributes, where one of the name that is asked for is marked too
abbrev pub marked : List ℕ → List Bool → List PrinterAttribute → List Bool
marked asked (mark ∷ marks) (which ∷ table) = (mark || bytes_eq asked (printer_attribute_name which)) ∷ marked asked marks table
marked asked _ _ = []

-- each attribute from a place on whose name has this length is at one of the places
abbrev pub covers_from : ℕ → List PrinterAttribute → ℕ → List ℕ → Bool
covers_from place [] size places = true
covers_from place (which ∷ table) size places = (list_any (nat_eq place) places || not (nat_eq (length (printer_attribute_name which)) size)) && covers_from (place + 1) table size places

-- the places are in the table, and each attribute whose name has this length is at one of them
abbrev pub covers : ℕ → List ℕ → Bool
covers size places = list_all (λ place. nat_lt place 34) places && covers_from 0 printer_table size places
