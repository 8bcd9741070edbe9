-- The tables of devices.
use Rattle.std.specs.Prelude.{ℕ, ◌==◌, if◌then◌else◌, Bool, List, [], ◌∷◌, ◌++◌, Option, unwrap_or, position, Result, Ok, codes}
use Rattle.std.specs.List.{list_any}
use Rattle.std.specs.Str.{bytes_eq}
use Rattle.toml.specs.Data.{Members}
use Rattle.base_types.specs.declared.finishings.Finishings as base
use Rattle.base_types.specs.Finishings.{no_finishings}
use Rattle.base_types.specs.declared.limits.TheConstants.Limits.{RATE, SETUP}
use Rattle.settings_file.specs.declared.key.Key.{Key}
use Rattle.settings_file.specs.declared.key.Key.TheVariants.{Name, RateOne, RateTwo, Setup, Media, Formats, Finishings}
use Rattle.settings_file.specs.Fault.{Fault}
use Rattle.settings_file.specs.Settings.{DeviceEntry}
use Rattle.text.specs.Steps.{◌>>=◌}
use Rattle.settings_file.specs.Entry.{optional_number, number, text, optional_list, list, is_among, other_key, unless_unknown, unless_twice}

-- the keys of a device, by the version of the settings
abbrev pub device_keys : ℕ → List Key
device_keys version =
    if version == 1 then Name ∷ RateOne ∷ RateTwo ∷ Setup ∷ Media ∷ Formats ∷ []
    else Name ∷ RateOne ∷ RateTwo ∷ Setup ∷ Media ∷ Formats ∷ Finishings ∷ []

-- whether a device has the name
unfoldable pub has_device : List DeviceEntry → List ℕ → Bool
has_device devices name = list_any (λ d. bytes_eq d.name name) devices

-- the place of the device with a name
unfoldable pub place_of : List DeviceEntry → List ℕ → Option ℕ
place_of devices name = position (λ d. bytes_eq d.name name) devices

-- the finishings that a list names
abbrev pub finishings_named : List (List ℕ) → base.Finishings
finishings_named entries = record {
  staple = is_among entries (codes "staple");
  punch = is_among entries (codes "punch");
  bind = is_among entries (codes "bind");
}

-- the finishings of a device; settings of version 1 have none
abbrev pub finishings_of : ℕ → Members → Result base.Finishings Fault
finishings_of version table =
    if version == 1 then Ok no_finishings
    else (optional_list Finishings table >>= (λ entries. Ok (finishings_named (unwrap_or entries []))))

-- the device of a table, where the earlier tables have these devices
abbrev pub device_of : ℕ → List DeviceEntry → Members → Result DeviceEntry Fault
device_of version earlier table =
    text Name table >>= (λ name.
    number RateOne 1 RATE table >>= (λ rate_one.
    optional_number RateTwo 1 RATE table >>= (λ rate_two.
    optional_number Setup 0 SETUP table >>= (λ setup.
    list Media table >>= (λ media.
    list Formats table >>= (λ formats.
    finishings_of version table >>= (λ finishings.
    unless_unknown (other_key (device_keys version) table) (
    unless_twice (has_device earlier name) name (
    Ok (record { name = name; rate_one = rate_one; rate_two = rate_two; setup = unwrap_or setup 0; media = media; formats = formats; finishings = finishings }))))))))))

-- the devices of the earlier tables, and of these tables
abbrev pub devices_of : ℕ → List DeviceEntry → List Members → Result (List DeviceEntry) Fault
devices_of version earlier [] = Ok earlier
devices_of version earlier (t ∷ ts) = device_of version earlier t >>= (λ device. devices_of version (earlier ++ device ∷ []) ts)
