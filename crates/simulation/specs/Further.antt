-- A further device.
use Rattle.std.specs.Prelude.{ℕ, List, Bool, ◌&&◌, nat_le, length, map}
use Rattle.std.specs.List.{list_all}
use Rattle.base_types.specs.Forms.{is_name, is_media, is_format}
use Rattle.base_types.specs.declared.limits.TheConstants.Limits.{LIST_ENTRIES}
use Rattle.settings_file.specs.Settings.{DeviceEntry, PrinterEntry}

-- whether the texts of a device are within the limits of settings
abbrev pub is_within : DeviceEntry → Bool
is_within device = (((is_name device.name && nat_le (length device.media) LIST_ENTRIES) && list_all is_media device.media) && nat_le (length device.formats) LIST_ENTRIES) && list_all is_format device.formats

abbrev pub names : List PrinterEntry → List (List ℕ)
names printers = map (λ printer. printer.name) printers
