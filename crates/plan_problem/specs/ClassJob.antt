-- The class problem of a list of jobs and devices.
use Rattle.std.specs.Prelude.{◌≡◌, ◌↔◌, ℕ, ◌<◌, ◌≤◌, List, [], length, map, All, Contains, Option, None, Some, IsSome, IfSome, slice_get, slice_index_or}
use Rattle.std.specs.List.Sorted.{IsStrictlyIncreasing}
use Rattle.base_types.specs.Needs.{JobNeeds}
use Rattle.base_types.specs.Device.{Device}
use Rattle.base_types.specs.declared.limits.TheConstants.Limits.{UNFINISHED_JOBS, DEVICES, WAIT}
use Rattle.plan_problem.specs.Able.{IsAble}
use Rattle.plan_problem.specs.Time.{time_of, IsTime}
use Rattle.plan_problem.specs.Class.{Class, time_in}

-- a job of the class, with its needs
pub record JobOfClass : Type 0 where
  pub id : ℕ
  pub needs : JobNeeds

-- the devices of a job's printer
abbrev pub printer_of : JobNeeds → List (List ℕ) → List ℕ
printer_of needs printers = slice_index_or printers needs.printer []

-- the time of a pair: that of the job on the device exactly if the device is able
pub record IsPairTime (needs : JobNeeds) (place : ℕ) (device : Device) (printer : List ℕ) (entry : Option ℕ) : Type 0 where
  pub able : IsSome entry ↔ IsAble needs place device printer
  pub time : IfSome entry (λ time. time ≡ time_of needs device)

-- the precondition on the jobs, devices and waits of a class
pub record CanBuild (jobs : List JobOfClass) (devices : List Device) (printers : List (List ℕ)) (waits : List ℕ) : Type 0 where
  pub rising : IsStrictlyIncreasing (map (λ job. job.id) jobs)
  pub known_printers : All (λ job. job.needs.printer < length printers) jobs
  pub one_wait_each : length waits ≡ length devices
  pub short_waits : All (λ wait. wait ≤ WAIT) waits
  pub few_jobs : length jobs ≤ UNFINISHED_JOBS
  pub few_devices : length devices ≤ DEVICES

-- the class has exactly these jobs and waits, and exactly the able pairs with their times; a row has no times beyond the devices
pub record IsClassOf (jobs : List JobOfClass) (devices : List Device) (printers : List (List ℕ)) (waits : List ℕ) (c : Class) : Type 0 where
  pub ids : c.ids ≡ map (λ job. job.id) jobs
  pub waits_given : c.waits ≡ waits
  pub pairs : (job : JobOfClass) (place : ℕ) (device : Device) → Contains jobs job → slice_get devices place ≡ Some device → IsPairTime job.needs place device (printer_of job.needs printers) (time_in c job.id place)
  pub beyond : (job place : ℕ) → length devices ≤ place → time_in c job place ≡ None

-- a row of a job: a time for each device
pub record IsRowOf (needs : JobNeeds) (devices : List Device) (printer : List ℕ) (row : List (Option ℕ)) : Type 0 where
  pub one_each : length row ≡ length devices
  pub pairs : (place : ℕ) (device : Device) → slice_get devices place ≡ Some device → IsPairTime needs place device printer (slice_index_or row place None)
  pub times : All (λ entry. IfSome entry IsTime) row
