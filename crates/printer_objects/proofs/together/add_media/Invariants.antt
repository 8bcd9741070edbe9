use Rattle.std.proofs.Common.{◌≡◌, take, map}
use Rattle.printer_objects.specs.Together.{with_entries}
use Rattle.printer_objects.proofs.together.add_media.Given as goal

abbrev pub invariant-loop-medium : goal.invariant-loop-medium
invariant-loop-medium l = l.found.items ≡ with_entries l.initial.found.items (map (λ m. m.name) (take l.medium-index l.medium-items))
