-- The problem of one class: its jobs, the wait of each device, and the time of each able pair.
use Rattle.std.specs.Prelude.{◌≡◌, ◌==◌, ℕ, ◌≤◌, List, [], length, Option, None, All, IfSome, slice_index, slice_index_or}
use Rattle.std.specs.List.{position_or_len}
use Rattle.std.specs.List.Sorted.{IsStrictlyIncreasing}
use Rattle.base_types.specs.declared.limits.TheConstants.Limits.{UNFINISHED_JOBS, DEVICES, WAIT}
use Rattle.plan_problem.specs.Time.{IsTime}

-- the jobs by rising id; a row of times for each, with no time where the device isn't able; the wait of each device
pub record Class : Type 0 where
  pub ids : List ℕ
  pub rows : List (List (Option ℕ))
  pub waits : List ℕ

-- the place of a job among the class's jobs, or their number if it isn't among them
abbrev pub place_of : List ℕ → ℕ → ℕ
place_of ids job = position_or_len (λ id. id == job) ids

-- the time of a job of the class on a device, if the device is able
abbrev pub time_in : Class → ℕ → ℕ → Option ℕ
time_in c job device = slice_index_or (slice_index_or c.rows (place_of c.ids job) []) device None

-- the ms until a device is free
abbrev pub wait_in : Class → ℕ → ℕ
wait_in c device = slice_index c.waits device

-- the invariant of a class problem
pub record IsClass (c : Class) : Type 0 where
  pub rising : IsStrictlyIncreasing c.ids
  pub one_row_each : length c.rows ≡ length c.ids
  pub one_time_each : All (λ row. length row ≡ length c.waits) c.rows
  pub times : All (λ row. All (λ entry. IfSome entry IsTime) row) c.rows
  pub short_waits : All (λ wait. wait ≤ WAIT) c.waits
  pub few_jobs : length c.ids ≤ UNFINISHED_JOBS
  pub few_devices : length c.waits ≤ DEVICES
