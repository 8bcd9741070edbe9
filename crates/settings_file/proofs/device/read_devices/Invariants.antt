use Rattle.std.proofs.Common.{◌≡◌, [], drop, map}
use Rattle.toml.specs.View.{table_view}
use Rattle.settings_file.specs.Device.{devices_of}
use Rattle.settings_file.proofs.device.read_devices.Given as goal

abbrev pub invariant-loop-table : goal.invariant-loop-table
invariant-loop-table l =
    devices_of l.version [] (map (λ t. table_view t.now) l.tables) ≡ devices_of l.version l.devices.items (map (λ t. table_view t.now) (drop l.table-index l.tables))
