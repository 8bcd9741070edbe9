-- The state of the core, and changes of its parts.
use Rattle.std.specs.Prelude.{ℕ, zero, suc, Bool, List, [], ◌∷◌, All, map, Option}
use Rattle.std.specs.List.{list_any}
use Rattle.std.specs.Str.{bytes_eq}
use Rattle.base_types.specs.Device.{Device}
use Rattle.base_types.specs.declared.device.Medium.{Medium}
use Rattle.base_types.specs.declared.device.Activity.{Activity}
use Rattle.settings_file.specs.Settings.{PrinterEntry, ServerSettings}
use Rattle.spool.specs.Jobs.{SpoolRecord}
use Rattle.printer_objects.specs.Offer.{formats_of}
use Rattle.plan_prices.specs.Plan.{PlanRecord}
use Rattle.print_room.specs.declared.started.Started.{Started}
use Rattle.print_room.specs.Activity.{KeepsTime}

pub record State : Type 0 where
  -- the settings, which never change
  pub settings : ServerSettings
  -- whether each printer is paused, in the order of the settings
  pub paused : List Bool
  -- one device for each of the settings, in their order
  pub devices : List Device
  pub spool : SpoolRecord
  -- the last moment
  pub last : ℕ
  -- the last plan, if one was made, and the jobs that began with it
  pub plan : Option PlanRecord
  pub begun : List Started

-- the devices of each printer, by their places
abbrev pub sets_of : ServerSettings → List (List ℕ)
sets_of settings = map (λ p. p.devices) settings.printers

-- the document formats of each printer
abbrev pub formats_by : List Device → List PrinterEntry → List (List (List ℕ))
formats_by devices printers = map (λ p. formats_of (record { devices = devices; printer = p })) printers

-- each device's job takes at most JOB_TIME from the last moment on
abbrev pub AllKeepTime : ℕ → List Device → Type 0
AllKeepTime last devices = All (λ d. KeepsTime last d.activity) devices

-- the device at a place is changed
abbrev pub with_device : ℕ → (Device → Device) → List Device → List Device
with_device place change [] = []
with_device zero change (device ∷ devices) = change device ∷ devices
with_device (suc place) change (device ∷ devices) = device ∷ with_device place change devices

-- the device has this activity from now on
abbrev pub doing : Activity → Device → Device
doing activity device = record device { activity = activity }

-- the device begins no job before a moment
abbrev pub free_from : ℕ → Device → Device
free_from moment device = record device { not_before = moment }

-- a medium is loaded exactly if its name is one of these
abbrev pub loaded_if : List (List ℕ) → Medium → Medium
loaded_if names medium = record medium { loaded = list_any (bytes_eq medium.name) names }

-- the device holds those of its settings' media that are named, and no others
abbrev pub holding : List (List ℕ) → Device → Device
holding names device = record device { media = map (loaded_if names) device.media }
