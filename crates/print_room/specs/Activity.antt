-- The activity of a device over time: whether it runs, the job that it has and for how long, and when it is free.
use Rattle.std.specs.Prelude.{ℕ, ◌+◌, ◌-◌, ◌≤◌, max, Option, Some, None}
use Rattle.base_types.specs.declared.limits.TheConstants.Limits.{JOB_TIME}
use Rattle.base_types.specs.Device.{Device}
use Rattle.base_types.specs.declared.device.Activity.{Activity}
use Rattle.base_types.specs.declared.device.Activity.TheVariants.{Running, Stopped}

-- the job that a device has
abbrev pub job_on : Activity → Option ℕ
job_on (Running None) = None
job_on (Running (Some printing)) = Some printing.job
job_on (Stopped None) = None
job_on (Stopped (Some interrupted)) = Some interrupted.job

-- The device runs from a moment on: its job ends once the time left has passed.
abbrev pub running_from : ℕ → Activity → Activity
running_from now (Stopped (Some interrupted)) = Running (Some (record { job = interrupted.job; end = now + interrupted.left }))
running_from now (Stopped None) = Running None
running_from now (Running printing) = Running printing

-- The device stops: the time up to the estimated end of its job is left.
abbrev pub stopped_at : ℕ → Activity → Activity
stopped_at now (Running (Some printing)) = Stopped (Some (record { job = printing.job; left = printing.end - now }))
stopped_at now (Running None) = Stopped None
stopped_at now (Stopped interrupted) = Stopped interrupted

-- The device's job takes this much longer.
abbrev pub taking : ℕ → ℕ → Activity → Activity
taking left now (Running (Some printing)) = Running (Some (record { job = printing.job; end = now + left }))
taking left now (Running None) = Running None
taking left now (Stopped (Some interrupted)) = Stopped (Some (record { job = interrupted.job; left = left }))
taking left now (Stopped None) = Stopped None

-- The device has no job any more.
abbrev pub idle : Activity → Activity
idle (Running printing) = Running None
idle (Stopped interrupted) = Stopped None

-- The device's job takes at most JOB_TIME from the moment on.
abbrev pub KeepsTime : ℕ → Activity → Type 0
KeepsTime now (Running (Some printing)) = printing.end ≤ now + JOB_TIME
KeepsTime now (Stopped (Some interrupted)) = interrupted.left ≤ JOB_TIME
KeepsTime now _ = Unit {0}

-- the time in ms that the device's job still takes from the moment on, at least 0
abbrev pub taken_for : ℕ → Activity → ℕ
taken_for now (Running (Some printing)) = printing.end - now
taken_for now (Stopped (Some interrupted)) = interrupted.left
taken_for now _ = 0

-- the time in ms from the moment until the device is free: until its job has ended, and the moment before which it begins no job has come
abbrev pub wait_of : ℕ → Device → ℕ
wait_of now device = max (taken_for now device.activity) (device.not_before - now)
