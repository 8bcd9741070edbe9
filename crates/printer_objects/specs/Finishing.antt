-- Single finishings and their numbers (RFC 8011, section 5.2.6).
use Rattle.std.specs.Prelude.{ℕ, Bool, true, List, [], ◌∷◌, map, filter}
use Rattle.base_types.specs.declared.finishings.Finishings.{Finishings}
use Rattle.ipp_codec.specs.Message.{IppAttribute}
use Rattle.printer_objects.specs.declared.finishing.Finishing.{Finishing}
use Rattle.printer_objects.specs.declared.finishing.Finishing.TheVariants.{Staple, Punch, Bind}
use Rattle.printer_objects.specs.declared.finishing.TheConstants.{NO_FINISHING}
use Rattle.printer_objects.specs.Attribute.{alone, enumerated, enumerations}

-- all finishings, by rising number
abbrev pub finishing_table : List Finishing
finishing_table = Staple ∷ Punch ∷ Bind ∷ []

abbrev pub finishing_code : Finishing → ℕ
finishing_code Staple = 4
finishing_code Punch = 5
finishing_code Bind = 7

-- whether a finishing is one of the finishings
abbrev pub has_finishing : Finishings → Finishing → Bool
has_finishing finishings Staple = finishings.staple
has_finishing finishings Punch = finishings.punch
has_finishing finishings Bind = finishings.bind

-- the finishings with one more
abbrev pub with_finishing : Finishings → Finishing → Finishings
with_finishing finishings Staple = record finishings { staple = true }
with_finishing finishings Punch = record finishings { punch = true }
with_finishing finishings Bind = record finishings { bind = true }

-- each of the finishings, by rising number
abbrev pub each_finishing : Finishings → List Finishing
each_finishing finishings = filter (has_finishing finishings) finishing_table

-- the numbers of a job's finishings, or the number of no finishing
abbrev pub finishings_attribute : List ℕ → List Finishing → IppAttribute
finishings_attribute name [] = alone name (enumerated NO_FINISHING)
finishings_attribute name (first ∷ others) = enumerations name (finishing_code first ∷ map finishing_code others)

-- the finishings that a job may have: the number of no finishing, and then these
abbrev pub finishings_supported : List ℕ → List Finishing → IppAttribute
finishings_supported name finishings = enumerations name (NO_FINISHING ∷ map finishing_code finishings)
