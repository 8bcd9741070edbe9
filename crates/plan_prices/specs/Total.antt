-- The completion times of the jobs of a way, the total of a way, and the best ways: those of the least sum of completion times, for jobs on devices of different speeds (W. A. Horn, Minimizing average flow time with parallel machines, 1973; J. Bruno, E. G. Coffman and R. Sethi, Scheduling independent tasks to reduce mean finishing time, 1974).
use Rattle.std.specs.Prelude.{◌==◌, ℕ, suc, ◌+◌, ◌*◌, ◌≤◌, List, [], ◌∷◌, length, take, unwrap_or}
use Rattle.std.specs.List.{list_any, position_or_len, sum_by}
use Rattle.plan_problem.specs.Class.{Class, place_of, time_in, wait_in}
use Rattle.plan_prices.specs.Way.{IsWay, queue_of}

-- the time of a job on a device that is able; 0 on any other
abbrev pub time_on : Class → ℕ → ℕ → ℕ
time_on c job device = unwrap_or (time_in c job device) 0

-- the time that a list of jobs takes on a device
abbrev pub busy_time : Class → ℕ → List ℕ → ℕ
busy_time c device [] = 0
busy_time c device (job ∷ jobs) = time_on c job device + busy_time c device jobs

-- the device whose list has a job
abbrev pub device_in : List (List ℕ) → ℕ → ℕ
device_in way job = position_or_len (list_any (λ id. id == job)) way

-- the jobs of a list up to and with a job
abbrev pub up_to : ℕ → List ℕ → List ℕ
up_to job jobs = take (suc (place_of jobs job)) jobs

-- The completion time of a job of a way, in ms from the moment from which the waits are counted: the wait of its device, and the times of the jobs of the device's list up to and with the job.
unfoldable pub completion_of : Class → List (List ℕ) → ℕ → ℕ
completion_of c way job = wait_in c (device_in way job) + busy_time c (device_in way job) (up_to job (queue_of way (device_in way job)))

-- the sum of the completion times of all jobs
unfoldable pub total_of : Class → List (List ℕ) → ℕ
total_of c way = sum_by (completion_of c way) c.ids

-- no way of the class has a smaller total
pub record IsBest (c : Class) (way : List (List ℕ)) : Type 0 where
  pub is_way : IsWay c way
  pub least : (other : List (List ℕ)) → IsWay c other → total_of c way ≤ total_of c other

-- the total by places: the job at place k from the end of a list adds the wait of its device once, and its own time k times, since k jobs wait for it, itself counted
abbrev pub list_cost : Class → ℕ → ℕ → List ℕ → ℕ
list_cost c device free [] = 0
list_cost c device free (job ∷ jobs) = (free + suc (length jobs) * time_on c job device) + list_cost c device free jobs

-- the total by places of the lists of the devices, from a device on
abbrev pub cost_from : Class → ℕ → List (List ℕ) → ℕ
cost_from c device [] = 0
cost_from c device (jobs ∷ lists) = list_cost c device (wait_in c device) jobs + cost_from c (suc device) lists

abbrev pub total_by_places : Class → List (List ℕ) → ℕ
total_by_places c way = cost_from c 0 way
