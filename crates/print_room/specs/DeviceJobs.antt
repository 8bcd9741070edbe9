-- The job of each device: the spool has the job too, and no other device has it. Until the device ends the job, it has the job, and the job's documents are unchanged, byte for byte.
use Rattle.std.specs.Prelude.{ℕ, ◌≡◌, ◌⊎◌, true, List, [], length, Option, Some, None, slice_get, position}
use Rattle.std.specs.Option.{option_and_then}
use Rattle.base_types.specs.Device.{Device}
use Rattle.settings_file.specs.Settings.{MeetsLimits}
use Rattle.octets.specs.Document.{DocumentRecord}
use Rattle.spool.specs.Spooled.{SpooledRecord}
use Rattle.spool.specs.OnDevice.{is_on_device, documents_at}
use Rattle.print_room.specs.Activity.{job_on}
use Rattle.print_room.specs.Report.{has_job}
use Rattle.print_room.specs.State.{State}

-- the job that the device at a place has
abbrev pub job_of : List Device → ℕ → Option ℕ
job_of devices place = option_and_then (λ d. job_on d.activity) (slice_get devices place)

-- the place of the device that has the job of this id
abbrev pub device_of : List Device → ℕ → Option ℕ
device_of devices id = position (λ d. has_job id d.activity) devices

-- a device's job is in the spool, marked as one that a device has, and no other device has it
pub record Agree (devices : List Device) (jobs : List SpooledRecord) : Type 0 where
  pub in_spool : (place id : ℕ) → job_of devices place ≡ Some id → is_on_device id jobs ≡ true
  pub apart : (place other id : ℕ) → job_of devices place ≡ Some id → job_of devices other ≡ Some id → place ≡ other

-- the invariant of a room
pub record IsRoom (state : State) : Type 0 where
  pub agree : Agree state.devices state.spool.jobs
  -- there is a pause flag for each printer
  pub one_each : length state.paused ≡ length state.settings.printers
  -- there is a device for each of the settings, which are within the limits
  pub devices : length state.devices ≡ length state.settings.devices
  pub settings : MeetsLimits state.settings

-- the device at a place has the same job, and the job's documents are unchanged
abbrev pub KeepsAt : ℕ → State → State → Type 0
KeepsAt place old new = (id : ℕ) → job_of old.devices place ≡ Some id → (job_of new.devices place ≡ Some id) × (documents_at id new.spool.jobs ≡ documents_at id old.spool.jobs)

-- each device has the same job, and its job's documents are unchanged
abbrev pub AllKeep : State → State → Type 0
AllKeep old new = (place : ℕ) → KeepsAt place old new

-- the device at a place ends its job, and these are all documents of the job
pub record HandsOut (place : ℕ) (old : State) (documents : List DocumentRecord) (new : State) : Type 0 where
  pub job : ℕ
  pub had : job_of old.devices place ≡ Some job
  pub has_none : job_of new.devices place ≡ None
  pub all : documents ≡ documents_at job old.spool.jobs

-- the effect of a report of the device at a place: each other device keeps its job; the device keeps its job, or ends it and its documents are handed out
pub record KeepsOrEnds (place : ℕ) (old : State) (documents : List DocumentRecord) (new : State) : Type 0 where
  pub others : (other : ℕ) → ¬ (other ≡ place) → KeepsAt other old new
  pub own : (KeepsAt place old new × (documents ≡ [])) ⊎ HandsOut place old documents new
