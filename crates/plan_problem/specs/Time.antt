-- The time of a job on a device.
use Rattle.std.specs.Prelude.{ℕ, ◌+◌, ◌*◌, ◌≤◌, unwrap_or, if◌then◌else◌}
use Rattle.base_types.specs.Needs.{JobNeeds}
use Rattle.base_types.specs.Device.{Device}
use Rattle.base_types.specs.declared.limits.TheConstants.Limits.{JOB_TIME}
use Rattle.plan_problem.specs.Able.{is_two_sided}

-- the ms for one impression
abbrev pub rate_of : JobNeeds → Device → ℕ
rate_of needs device = if is_two_sided needs.sides then unwrap_or device.rate_two 0 else device.rate_one

-- the ms for the whole job: the setup once, and each impression of each copy
abbrev pub time_of : JobNeeds → Device → ℕ
time_of needs device = device.setup + needs.impressions * needs.copies * rate_of needs device

-- the range of a job's time
abbrev pub IsTime : ℕ → Type 0
IsTime time = (1 ≤ time) × (time ≤ JOB_TIME)
