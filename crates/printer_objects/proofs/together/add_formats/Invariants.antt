use Rattle.std.proofs.Common.{◌≡◌, take}
use Rattle.printer_objects.specs.Together.{with_entries}
use Rattle.printer_objects.proofs.together.add_formats.Given as goal

abbrev pub invariant-loop-format : goal.invariant-loop-format
invariant-loop-format l = l.found.items ≡ with_entries l.initial.found.items (take l.format-index l.format-items)
