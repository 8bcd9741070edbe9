-- The settings of an announced printer: its devices, which it names by their places, and their formats and abilities.
use Rattle.std.specs.Prelude.{ℕ, Bool, false, if◌then◌else◌, List, [], ◌∷◌, ◌++◌, Option, Some, None, is_some}
use Rattle.std.specs.List.{flat_map, fold, list_any, slice_get}
use Rattle.std.specs.Option.{option_map_or}
use Rattle.std.specs.Str.{bytes_eq}
use Rattle.settings_file.specs.Settings.{ServerSettings, DeviceEntry, PrinterEntry}
use Rattle.announcements.specs.declared.ability.Ability.{Ability}
use Rattle.announcements.specs.declared.ability.Ability.TheVariants.{TwoSided, Staple, Punch, Bind}

-- the entry of a list with one entry
abbrev pub only : List PrinterEntry → Option PrinterEntry
only [] = None
only (printer ∷ []) = Some printer
only (printer ∷ other ∷ printers) = None

abbrev pub device_at : ServerSettings → ℕ → Option DeviceEntry
device_at settings place = slice_get settings.devices place

-- ---- the formats of documents

abbrev pub is_among : List (List ℕ) → List ℕ → Bool
is_among found entry = list_any (λ other. bytes_eq other entry) found

-- the entries found with this entry after them, unless the entry is among them
abbrev pub with_entry : List (List ℕ) → List ℕ → List (List ℕ)
with_entry found entry = if is_among found entry then found else found ++ entry ∷ []

abbrev pub with_entries : List (List ℕ) → List (List ℕ) → List (List ℕ)
with_entries found entries = fold with_entry found entries

-- the formats of the device at a place
abbrev pub formats_at : ServerSettings → ℕ → List (List ℕ)
formats_at settings place = option_map_or (λ device. device.formats) (device_at settings place) []

-- the formats of a printer's devices in their order, each format once, at its first place
abbrev pub formats_of : ServerSettings → PrinterEntry → List (List ℕ)
formats_of settings printer = with_entries [] (flat_map (formats_at settings) printer.devices)

-- ---- the abilities of a printer's devices

abbrev pub has_ability : Ability → DeviceEntry → Bool
has_ability TwoSided device = is_some device.rate_two
has_ability Staple device = device.finishings.staple
has_ability Punch device = device.finishings.punch
has_ability Bind device = device.finishings.bind

abbrev pub is_able_at : ServerSettings → Ability → ℕ → Bool
is_able_at settings ability place = option_map_or (has_ability ability) (device_at settings place) false

-- some device of the printer has the ability
abbrev pub is_able : ServerSettings → PrinterEntry → Ability → Bool
is_able settings printer ability = list_any (is_able_at settings ability) printer.devices
