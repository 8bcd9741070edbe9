use Rattle.std.proofs.Common.{◌≡◌, ◌≤◌, map, take, All}
use Rattle.base_types.specs.declared.limits.TheConstants.Limits.{NOT_BEFORE}
use Rattle.print_room.specs.Activity.{wait_of}
use Rattle.print_room.proofs.room.PrintRoom.waits.Given as goal

abbrev pub invariant-loop-device : goal.invariant-loop-device
invariant-loop-device l =
    (l.waits.items ≡ map (wait_of l.now) (take l.device-index l.device-items))
    × All (λ wait. wait ≤ NOT_BEFORE) l.waits.items
