use Rattle.std.proofs.Common.{◌≡◌, drop}
use Rattle.print_room.specs.Dispatch.{first_of}
use Rattle.print_room.proofs.starting.first_of.Given as goal

abbrev pub invariant-loop-class : goal.invariant-loop-class
invariant-loop-class l = first_of (drop l.class-index l.classes) l.device ≡ first_of l.classes l.device
