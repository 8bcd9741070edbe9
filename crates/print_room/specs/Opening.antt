-- The state of a server that starts.
use Rattle.std.specs.Prelude.{ℕ, true, false, List, [], length, map, replicate, None}
use Rattle.base_types.specs.Device.{Device}
use Rattle.base_types.specs.declared.device.Medium.{Medium}
use Rattle.base_types.specs.declared.device.Activity.TheVariants.{Stopped}
use Rattle.settings_file.specs.Settings.{ServerSettings, DeviceEntry}
use Rattle.print_room.specs.State.{State}

abbrev pub loaded_medium : List ℕ → Medium
loaded_medium name = record { name = name; loaded = true }

-- a device starts stopped and idle, with all its media loaded
abbrev pub opening_device : DeviceEntry → Device
opening_device entry = record {
  rate_one = entry.rate_one;
  rate_two = entry.rate_two;
  setup = entry.setup;
  formats = entry.formats;
  finishings = entry.finishings;
  media = map loaded_medium entry.media;
  activity = Stopped None;
  not_before = 0;
}

-- the state has no jobs, no plan and no paused printer; the first job gets this id
abbrev pub opening : ServerSettings → ℕ → State
opening settings first = record {
  settings = settings;
  paused = replicate (length settings.printers) false;
  devices = map opening_device settings.devices;
  spool = record { jobs = []; next = first };
  last = 0;
  plan = None;
  begun = [];
}
