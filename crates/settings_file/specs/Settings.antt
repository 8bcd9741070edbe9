-- The settings of a server, and their limits.
use Rattle.std.specs.Prelude.{ℕ, List, Option, ◌≤◌, ◌<◌, ◌≢◌, All, AllPairs, length, map, position}
use Rattle.std.specs.Str.{bytes_eq}
use Rattle.std.specs.Option.{ForSome}
use Rattle.base_types.specs.Ranges.{IsRate, IsSetup}
use Rattle.base_types.specs.declared.finishings.Finishings.{Finishings}
use Rattle.base_types.specs.declared.limits.TheConstants.Limits.{DEVICES, PRINTERS, LIST_ENTRIES}
use Rattle.base_types.specs.Forms.{IsName, IsMedia, IsFormat, IsUriBase}

-- the settings of a device
pub record DeviceEntry : Type 0 where
  pub name : List ℕ
  pub rate_one : ℕ
  pub rate_two : Option ℕ
  pub setup : ℕ
  pub media : List (List ℕ)
  pub formats : List (List ℕ)
  pub finishings : Finishings

-- the settings of a printer; its devices are places in the list of devices
pub record PrinterEntry : Type 0 where
  pub name : List ℕ
  pub devices : List ℕ
  pub media_default : List ℕ
  pub format_default : List ℕ

pub record ServerSettings : Type 0 where
  pub uri_base : List ℕ
  pub operators : List (List ℕ)
  pub devices : List DeviceEntry
  pub printers : List PrinterEntry

-- the names of the devices, in order
abbrev pub device_names : ServerSettings → List (List ℕ)
device_names settings = map (λ device. device.name) settings.devices

-- the place of the device with a name, and that of the printer with a name
abbrev pub device_named : ServerSettings → List ℕ → Option ℕ
device_named settings name = position (λ device. bytes_eq name device.name) settings.devices

abbrev pub printer_named : ServerSettings → List ℕ → Option ℕ
printer_named settings name = position (λ printer. bytes_eq name printer.name) settings.printers

-- the list is within the bound of all lists except a printer's list of devices
abbrev pub IsShort : {A : Type 0} → List A → Type 0
IsShort entries = length entries ≤ LIST_ENTRIES

-- a device's entry is within the limits
pub record IsDeviceEntry (device : DeviceEntry) : Type 0 where
  pub name : IsName device.name
  pub rate_one : IsRate device.rate_one
  pub rate_two : ForSome device.rate_two IsRate
  pub setup : IsSetup device.setup
  pub few_media : IsShort device.media
  pub each_media : All IsMedia device.media
  pub few_formats : IsShort device.formats
  pub each_format : All IsFormat device.formats

-- a printer's entry is within the limits, and its devices are among the first `devices` devices
pub record IsPrinterEntry (devices : ℕ) (printer : PrinterEntry) : Type 0 where
  pub name : IsName printer.name
  pub few_devices : length printer.devices ≤ DEVICES
  pub each_device : All (λ place. place < devices) printer.devices
  pub media_default : IsMedia printer.media_default
  pub format_default : IsFormat printer.format_default

-- the settings are within the limits
pub record MeetsLimits (settings : ServerSettings) : Type 0 where
  pub uri_base : IsUriBase settings.uri_base
  pub few_operators : IsShort settings.operators
  pub some_device : 1 ≤ length settings.devices
  pub few_devices : length settings.devices ≤ DEVICES
  pub each_device : All IsDeviceEntry settings.devices
  pub device_names_differ : AllPairs (λ a b. a.name ≢ b.name) settings.devices
  pub some_printer : 1 ≤ length settings.printers
  pub few_printers : length settings.printers ≤ PRINTERS
  pub each_printer : All (IsPrinterEntry (length settings.devices)) settings.printers
  pub printer_names_differ : AllPairs (λ a b. a.name ≢ b.name) settings.printers
