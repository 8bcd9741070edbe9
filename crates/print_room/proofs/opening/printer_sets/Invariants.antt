use Rattle.std.proofs.Common.{◌≡◌, map, take}
use Rattle.print_room.proofs.opening.printer_sets.Given as goal

abbrev pub invariant-loop-printer : goal.invariant-loop-printer
invariant-loop-printer l = l.sets.items ≡ map (λ p. p.devices) (take l.printer-index l.settings)
