-- The attributes of a printer's offer.
use Rattle.std.specs.Prelude.{ℕ, List, [], ◌∷◌, ◌++◌, map}
use Rattle.std.specs.Int.{w32, to_be_bytes}
use Rattle.base_types.specs.declared.hold.Hold.TheVariants.{NoHold, Indefinite}
use Rattle.base_types.specs.declared.needs.Sides.{Sides}
use Rattle.base_types.specs.Hold.{hold_keyword}
use Rattle.base_types.specs.Sides.{sides_keyword}
use Rattle.ipp_codec.specs.Message.{IppValue, plain, IppAttribute}
use Rattle.ipp_codec.specs.Tag as tags
use Rattle.printer_objects.specs.Attribute.{enumerations, keyword, texts_attribute}
use Rattle.printer_objects.specs.declared.operation.Operation.{Operation}
use Rattle.printer_objects.specs.Operation.{operation_code}

-- the codes of operations, in order (RFC 8011, section 5.4.15)
abbrev pub operations_attribute : List ℕ → List Operation → IppAttribute
operations_attribute name operations = enumerations name (map operation_code operations)

-- a range of integers: both ends, four bytes each (RFC 8010, section 3.9)
abbrev pub range : ℕ → ℕ → IppValue
range least most = plain tags.range_of_integer (to_be_bytes w32 least ++ to_be_bytes w32 most)

abbrev pub hold_untils_attribute : List ℕ → IppAttribute
hold_untils_attribute name = record { name = name; first = keyword (hold_keyword NoHold); others = keyword (hold_keyword Indefinite) ∷ [] }

-- the keywords of sides, in order
abbrev pub sides_attribute : List ℕ → List Sides → IppAttribute
sides_attribute name sides = texts_attribute name tags.keyword (map sides_keyword sides)
