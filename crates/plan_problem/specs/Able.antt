-- The devices that can print a job.
use Rattle.std.specs.Prelude.{ℕ, List, Bool, true, false, All, Contains, IsTrue, IsSome}
use Rattle.base_types.specs.Finishings.{HasFinishings}
use Rattle.base_types.specs.Needs.{JobNeeds}
use Rattle.base_types.specs.Device.{Device, loaded_media}
use Rattle.base_types.specs.declared.needs.Sides.{Sides}
use Rattle.base_types.specs.declared.needs.Sides.TheVariants.{One, LongEdge, ShortEdge}
use Rattle.base_types.specs.declared.device.Activity.{Activity}
use Rattle.base_types.specs.declared.device.Activity.TheVariants.{Running, Stopped}

-- whether the job is two-sided (RFC 8011, section 5.2.8)
abbrev pub is_two_sided : Sides → Bool
is_two_sided One = false
is_two_sided LongEdge = true
is_two_sided ShortEdge = true

-- whether a device runs
abbrev pub is_running : Activity → Bool
is_running (Running job) = true
is_running (Stopped job) = false

-- the device prints each document format of the job
abbrev pub PrintsFormats : JobNeeds → Device → Type 0
PrintsFormats needs device = All (Contains device.formats) needs.formats

-- the device prints two-sided, if the job is two-sided
abbrev pub PrintsSides : JobNeeds → Device → Type 0
PrintsSides needs device = IsTrue (is_two_sided needs.sides) → IsSome device.rate_two

-- the device has every finishing of the job (RFC 8011, section 5.2.6)
abbrev pub Finishes : JobNeeds → Device → Type 0
Finishes needs device = HasFinishings device.finishings needs.finishings

-- the device has the job's media loaded
abbrev pub HasMedia : JobNeeds → Device → Type 0
HasMedia needs device = Contains (loaded_media device) needs.media

-- the device at a place of the settings, with this state, can print the job for this printer
pub record IsAble (needs : JobNeeds) (place : ℕ) (device : Device) (printer : List ℕ) : Type 0 where
  pub of_printer : Contains printer place
  pub formats : PrintsFormats needs device
  pub sides : PrintsSides needs device
  pub finishings : Finishes needs device
  pub media : HasMedia needs device
  pub runs : IsTrue (is_running device.activity)
