use Rattle.std.proofs.Common.{◌≡◌, take}
use Rattle.printer_objects.specs.Named.{named_of}
use Rattle.printer_objects.proofs.named.named.Given as goal

abbrev pub invariant-loop-asked : goal.invariant-loop-asked
invariant-loop-asked l = l.marks ≡ named_of (take l.asked-index l.requested)
