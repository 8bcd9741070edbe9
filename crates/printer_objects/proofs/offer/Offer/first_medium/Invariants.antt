use Rattle.std.proofs.Common.{◌≡◌, drop, find}
use Rattle.std.specs.List.{flat_map}
use Rattle.printer_objects.specs.declared.together.Listed.TheVariants.{Media}
use Rattle.std.specs.Str.{bytes_eq}
use Rattle.printer_objects.specs.Offer.{listed_at}
use Rattle.printer_objects.proofs.offer.Offer.first_medium.Given as goal

abbrev pub invariant-loop-place : goal.invariant-loop-place
invariant-loop-place l =
    find (bytes_eq l.name) (flat_map (listed_at Media l.self) (drop l.place-index l.places)) ≡ find (bytes_eq l.name) (flat_map (listed_at Media l.self) l.places)
