use Rattle.std.proofs.Common.{◌≡◌, take, map}
use Rattle.settings_file.specs.Settings.{DeviceEntry}
use Rattle.settings_file.proofs.settings.Settings.device_names.Given as goal

abbrev pub invariant-loop-device : goal.invariant-loop-device
invariant-loop-device l = l.names.items ≡ map (λ (device : DeviceEntry). device.name) (take l.device-index l.self.devices)
