-- Where no value of requested-attributes names a group, an attribute is asked for by its name alone.
use Rattle.std.proofs.Common.{◌≡◌, ℕ, Bool, true, false, ◌||◌, if◌then◌else◌, List, [], ◌∷◌, codes, refl, ap}
use Rattle.std.specs.Str.{bytes_eq}
use Rattle.printer_objects.specs.declared.printer_attribute.PrinterAttribute.{PrinterAttribute}
use Rattle.printer_objects.specs.PrinterAttribute.{is_of_template, printer_attribute_group, printer_attribute_name, is_wanted_of_printer}
use Rattle.printer_objects.specs.Requested.{asks_for, has_group, has_name, names_group}

-- of these tests the last alone may hold
last_alone : (all description template name : Bool) → (all || description || template) ≡ false → ((all || description || name) ≡ name) × ((all || template || name) ≡ name)
last_alone false false false name none = (refl, refl)
last_alone true description template name none = absurd cc
last_alone false true template name none = absurd cc
last_alone false false true name none = absurd cc

asks_by_name : (which : PrinterAttribute) (asked : List ℕ) → names_group asked ≡ false → asks_for (printer_attribute_name which) (printer_attribute_group which) asked ≡ bytes_eq asked (printer_attribute_name which)
asks_by_name which asked none =
    let alone = last_alone (bytes_eq asked (codes "all")) (bytes_eq asked (codes "printer-description")) (bytes_eq asked (codes "job-template")) (bytes_eq asked (printer_attribute_name which)) none in
    elim (is_of_template which) as (λ b. asks_for (printer_attribute_name which) (if b then codes "job-template" else codes "printer-description") asked ≡ bytes_eq asked (printer_attribute_name which)) [
      | true ↦ alone.1
      | false ↦ alone.0
    ]

first_none : (b c : Bool) → (b || c) ≡ false → (b ≡ false) × (c ≡ false)
first_none false c none = (refl, none)
first_none true c none = absurd cc

pub by_name : (which : PrinterAttribute) (requested : List (List ℕ)) → has_group requested ≡ false → is_wanted_of_printer requested which ≡ has_name (printer_attribute_name which) requested
by_name which [] none = refl
by_name which (asked ∷ requested) none =
    let each = first_none (names_group asked) (has_group requested) none in
    rw (asks_by_name which asked each.0) (ap (λ (b : Bool). bytes_eq asked (printer_attribute_name which) || b) (by_name which requested each.1))
