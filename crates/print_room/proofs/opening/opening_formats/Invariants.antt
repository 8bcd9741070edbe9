use Rattle.std.proofs.Common.{◌≡◌, map, take}
use Rattle.print_room.specs.State.{formats_by}
use Rattle.print_room.proofs.opening.opening_formats.Given as goal

abbrev pub invariant-loop-printer : goal.invariant-loop-printer
invariant-loop-printer l = map (λ f. f.items) l.formats.items ≡ formats_by l.devices (take l.printer-index l.settings)
