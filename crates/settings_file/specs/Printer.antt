-- The tables of printers.
use Rattle.std.specs.Prelude.{ℕ, Bool, List, [], ◌∷◌, ◌++◌, Option, Some, None, Result, Ok, Err}
use Rattle.std.specs.List.{list_any}
use Rattle.std.specs.Str.{bytes_eq}
use Rattle.toml.specs.Data.{Members}
use Rattle.settings_file.specs.declared.key.Key.{Key}
use Rattle.settings_file.specs.declared.key.Key.TheVariants.{Name, Devices, MediaDefault, FormatDefault}
use Rattle.settings_file.specs.Fault.{Fault, unknown}
use Rattle.settings_file.specs.Settings.{DeviceEntry, PrinterEntry}
use Rattle.text.specs.Steps.{◌>>=◌}
use Rattle.settings_file.specs.Entry.{text, list, other_key, unless_unknown, unless_twice}
use Rattle.settings_file.specs.Device.{place_of}

abbrev pub printer_keys : List Key
printer_keys = Name ∷ Devices ∷ MediaDefault ∷ FormatDefault ∷ []

-- whether a printer has the name
unfoldable pub has_printer : List PrinterEntry → List ℕ → Bool
has_printer printers name = list_any (λ p. bytes_eq p.name name) printers

-- a name that no device has is a fault
abbrev pub known_place : List ℕ → Option ℕ → Result ℕ Fault
known_place name None = Err (unknown name)
known_place name (Some place) = Ok place

-- the places of the devices with these names
abbrev pub places_of : List DeviceEntry → List (List ℕ) → Result (List ℕ) Fault
places_of devices [] = Ok []
places_of devices (n ∷ ns) =
    known_place n (place_of devices n) >>= (λ place.
    places_of devices ns >>= (λ places. Ok (place ∷ places)))

-- the printer of a table, where the earlier tables have these printers
abbrev pub printer_of : List DeviceEntry → List PrinterEntry → Members → Result PrinterEntry Fault
printer_of devices earlier table =
    text Name table >>= (λ name.
    list Devices table >>= (λ names.
    text MediaDefault table >>= (λ media_default.
    text FormatDefault table >>= (λ format_default.
    unless_unknown (other_key printer_keys table) (
    unless_twice (has_printer earlier name) name (
    places_of devices names >>= (λ places.
    Ok (record { name = name; devices = places; media_default = media_default; format_default = format_default }))))))))

-- the printers of the earlier tables, and of these tables
abbrev pub printers_of : List DeviceEntry → List PrinterEntry → List Members → Result (List PrinterEntry) Fault
printers_of devices earlier [] = Ok earlier
printers_of devices earlier (t ∷ ts) =
    printer_of devices earlier t >>= (λ printer. printers_of devices (earlier ++ printer ∷ []) ts)
