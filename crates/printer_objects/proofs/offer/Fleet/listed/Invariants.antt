use Rattle.std.proofs.Common.{◌≡◌, take}
use Rattle.std.specs.List.{flat_map}
use Rattle.printer_objects.specs.Together.{distinct}
use Rattle.printer_objects.specs.Offer.{listed_at}
use Rattle.printer_objects.proofs.offer.Fleet.listed.Given as goal

abbrev pub invariant-loop-place : goal.invariant-loop-place
invariant-loop-place l = l.found.items ≡ distinct (flat_map (listed_at l.listed l.self) (take l.place-index l.places))
