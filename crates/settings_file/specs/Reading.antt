-- The settings of a text, or its first fault, in this order: the keys of the root, then the tables of the devices, then those of the printers. In a table: its keys in order, then an unknown key, then a name that an earlier table of its kind has, then the devices that a printer names.
use Rattle.std.specs.Prelude.{ℕ, ◌≡◌, ◌⊎◌, List, [], ◌∷◌, Option, Some, None, unwrap_or, Result, Ok, Err}
use Rattle.std.specs.Str.{IsUtf8}
use Rattle.toml.specs.Data.{Members}
use Rattle.toml.specs.Parse.{parse_document}
use Rattle.base_types.specs.declared.limits.TheConstants.Limits.{DEVICES, PRINTERS}
use Rattle.settings_file.specs.declared.key.Key.{Key}
use Rattle.settings_file.specs.declared.key.Key.TheVariants.{Version, UriBase, Operators, Device, Printer}
use Rattle.settings_file.specs.Fault.{Fault, not_toml}
use Rattle.settings_file.specs.Settings.{ServerSettings}
use Rattle.text.specs.Steps.{◌>>=◌}
use Rattle.settings_file.specs.Entry.{number, text, optional_list, tables, other_key, unless_unknown}
use Rattle.settings_file.specs.Device.{devices_of}
use Rattle.settings_file.specs.Printer.{printers_of}

abbrev pub root_keys : List Key
root_keys = Version ∷ UriBase ∷ Operators ∷ Device ∷ Printer ∷ []

-- the settings of the root table
abbrev pub settings_in : Members → Result ServerSettings Fault
settings_in root =
    number Version 1 2 root >>= (λ version.
    text UriBase root >>= (λ uri_base.
    optional_list Operators root >>= (λ operators.
    tables Device DEVICES root >>= (λ device_tables.
    tables Printer PRINTERS root >>= (λ printer_tables.
    unless_unknown (other_key root_keys root) (
    devices_of version [] device_tables >>= (λ devices.
    printers_of devices [] printer_tables >>= (λ printers.
    Ok (record { uri_base = uri_base; operators = unwrap_or operators []; devices = devices; printers = printers })))))))))

abbrev pub settings_read : Option Members → Result ServerSettings Fault
settings_read None = Err not_toml
settings_read (Some root) = settings_in root

-- the settings of a text, or its first fault
unfoldable pub settings_of : List ℕ → Result ServerSettings Fault
settings_of text = settings_read (parse_document text)

-- the first fault of a file's bytes; bytes that aren't UTF-8 aren't TOML
abbrev pub IsFaultOf : List ℕ → Fault → Type 0
IsFaultOf bytes fault = (¬ (IsUtf8 bytes) × (fault ≡ not_toml)) ⊎ (IsUtf8 bytes × (settings_of bytes ≡ Err fault))
