-- The waits of the devices after a class.
use Rattle.std.specs.Prelude.{ℕ, suc, ◌+◌, ◌*◌, ◌≤◌, List, [], ◌∷◌, length, All}
use Rattle.base_types.specs.declared.limits.TheConstants.Limits.{JOB_TIME}
use Rattle.plan_problem.specs.Class.{Class, wait_in}
use Rattle.plan_prices.specs.Total.{busy_time}

-- the waits of the devices from a device on
abbrev pub waits_from : Class → ℕ → List (List ℕ) → List ℕ
waits_from c device [] = []
waits_from c device (jobs ∷ lists) = (wait_in c device + busy_time c device jobs) ∷ waits_from c (suc device) lists

-- for each device its wait and the times of all its jobs
abbrev pub waits_after : Class → List (List ℕ) → List ℕ
waits_after c way = waits_from c 0 way

-- no wait exceeds the longest wait before the class by more than the jobs of the class can take at most
abbrev pub GrowsByTimes : Class → List ℕ → Type 0
GrowsByTimes c after = (most : ℕ) → All (λ wait. wait ≤ most) c.waits → All (λ wait. wait ≤ most + length c.ids * JOB_TIME) after
