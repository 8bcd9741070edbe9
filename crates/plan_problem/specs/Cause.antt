-- The cause that no device can print a job.
use Rattle.std.specs.Prelude.{ℕ, List, [], ◌∷◌, Bool, true, not, ◌||◌, Option, Some, None, filter, is_some, IsSomeAnd, slice_get, if◌then◌else◌}
use Rattle.std.specs.List.{filter_map, list_all, list_any}
use Rattle.std.specs.Str.{bytes_eq}
use Rattle.base_types.specs.Finishings.{has_finishings}
use Rattle.base_types.specs.Needs.{JobNeeds}
use Rattle.base_types.specs.Device.{Device, loaded_media}
use Rattle.base_types.specs.declared.needs.Cause.{Cause}
use Rattle.base_types.specs.declared.needs.Cause.TheVariants.{NoDevice, Format, Sides, Finishings, Media, Running}
use Rattle.plan_problem.specs.Able.{is_two_sided, is_running, IsAble}

-- whether a device prints each document format of the job
abbrev pub prints_formats : JobNeeds → Device → Bool
prints_formats needs device = list_all (λ format. list_any (bytes_eq format) device.formats) needs.formats

-- whether a device prints two-sided, if the job is two-sided
abbrev pub prints_sides : JobNeeds → Device → Bool
prints_sides needs device = not (is_two_sided needs.sides) || is_some device.rate_two

-- whether a device has every finishing of the job
abbrev pub finishes : JobNeeds → Device → Bool
finishes needs device = has_finishings device.finishings needs.finishings

-- whether a device has the job's media loaded
abbrev pub has_media : JobNeeds → Device → Bool
has_media needs device = list_any (bytes_eq needs.media) (loaded_media device)

-- a test of devices, with the cause for the case that none passes
pub record Filter : Type 0 where
  pub test : Device → Bool
  pub cause : Cause

-- the filters in order; the first passes all devices
abbrev pub filters_of : JobNeeds → List Filter
filters_of needs =
    record { test = λ device. true; cause = NoDevice }
    ∷ record { test = prints_formats needs; cause = Format }
    ∷ record { test = prints_sides needs; cause = Sides }
    ∷ record { test = finishes needs; cause = Finishings }
    ∷ record { test = has_media needs; cause = Media }
    ∷ record { test = λ device. is_running device.activity; cause = Running }
    ∷ []

-- the cause if there is no device, else the next
abbrev pub cause_unless_some : List Device → Cause → Option Cause → Option Cause
cause_unless_some [] cause next = Some cause
cause_unless_some (device ∷ devices) cause next = next

-- the cause of the first filter that none of the devices left by the filters before it passes
abbrev pub first_cause : List Filter → List Device → Option Cause
first_cause [] devices = None
first_cause (f ∷ filters) devices =
    cause_unless_some (filter f.test devices) f.cause (first_cause filters (filter f.test devices))

-- the devices of a printer; a place without a device is skipped
abbrev pub devices_of : List ℕ → List Device → List Device
devices_of printer devices = filter_map (slice_get devices) printer

-- the cause that no device of its printer can print a job
abbrev pub cause_of : JobNeeds → List ℕ → List Device → Option Cause
cause_of needs printer devices = first_cause (filters_of needs) (devices_of printer devices)

-- some device of the settings can print the job for this printer
abbrev pub HasAbleDevice : JobNeeds → List ℕ → List Device → Type 0
HasAbleDevice needs printer devices =
    (place : ℕ) × IsSomeAnd (slice_get devices place) (λ device. IsAble needs place device printer)

-- the cause of the first filter that a device doesn't pass
abbrev pub first_failed : List Filter → Device → Option Cause
first_failed [] device = None
first_failed (f ∷ filters) device = if f.test device then first_failed filters device else Some f.cause

-- the place of a filter in the order, by its cause
abbrev pub order_of : Cause → ℕ
order_of NoDevice = 0
order_of Format = 1
order_of Sides = 2
order_of Finishings = 3
order_of Media = 4
order_of Running = 5
