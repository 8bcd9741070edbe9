use Rattle.std.proofs.Common.{◌≡◌, take}
use Rattle.listings.specs.Expected.{on_devices}
use Rattle.listings.proofs.expected.on_devices.Given as goal

abbrev pub invariant-loop-device : goal.invariant-loop-device
invariant-loop-device l = l.had.items ≡ on_devices l.now (take l.device-index l.devices)
