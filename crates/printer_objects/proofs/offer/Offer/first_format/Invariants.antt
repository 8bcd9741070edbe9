use Rattle.std.proofs.Common.{◌≡◌, drop, find}
use Rattle.std.specs.List.{flat_map}
use Rattle.printer_objects.specs.declared.together.Listed.TheVariants.{Formats}
use Rattle.printer_objects.specs.DocumentFormat.{is_same_format}
use Rattle.printer_objects.specs.Offer.{listed_at}
use Rattle.printer_objects.proofs.offer.Offer.first_format.Given as goal

abbrev pub invariant-loop-place : goal.invariant-loop-place
invariant-loop-place l =
    find (is_same_format l.asked) (flat_map (listed_at Formats l.self) (drop l.place-index l.places)) ≡ find (is_same_format l.asked) (flat_map (listed_at Formats l.self) l.places)
