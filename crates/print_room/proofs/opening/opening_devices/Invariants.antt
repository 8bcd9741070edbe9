use Rattle.std.proofs.Common.{◌≡◌, map, take}
use Rattle.print_room.specs.Opening.{opening_device}
use Rattle.print_room.proofs.opening.opening_devices.Given as goal

abbrev pub invariant-loop-device : goal.invariant-loop-device
invariant-loop-device l = l.devices.items ≡ map opening_device (take l.device-index l.settings)
