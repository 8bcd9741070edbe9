-- The prices that prove a way best: a feasible dual of the assignment of jobs to places.
use Rattle.std.specs.Prelude.{◌≡◌, ℕ, suc, ◌+◌, ◌*◌, ◌<◌, List, [], ◌∷◌, length, Some, slice_index_or, ℤ, pos, ◌+ℤ◌, ◌≤ℤ◌}
use Rattle.plan_problem.specs.Class.{Class, place_of, time_in, wait_in}
use Rattle.plan_prices.specs.Way.{IsWay, queue_of}
use Rattle.plan_prices.specs.Total.{total_of}

-- a price for each job, in the order of the class, and a price for each used place of each device, the last place first
pub record PriceLists : Type 0 where
  pub jobs : List ℤ
  pub places : List (List ℤ)

abbrev pub sum_signed : List ℤ → ℤ
sum_signed [] = pos 0
sum_signed (price ∷ prices) = price +ℤ sum_signed prices

abbrev pub sum_lists : List (List ℤ) → ℤ
sum_lists [] = pos 0
sum_lists (prices ∷ lists) = sum_signed prices +ℤ sum_lists lists

-- the price of a job
abbrev pub job_price : List ℕ → List ℤ → ℕ → ℤ
job_price ids prices job = slice_index_or prices (place_of ids job) (pos 0)

-- the prices of a device's places
abbrev pub places_on : List (List ℤ) → ℕ → List ℤ
places_on places device = slice_index_or places device []

-- the price of the place with `after` places after it; 0 if it isn't used
abbrev pub place_price : List (List ℤ) → ℕ → ℕ → ℤ
place_price places device after = slice_index_or (places_on places device) after (pos 0)

-- no place has a positive price; for each able device, at the used places and the next one, the price of a job and that of the place together are at most what the job costs there; and all prices add up to the total of the way
pub record AreFair (c : Class) (way : List (List ℕ)) (prices : PriceLists) : Type 0 where
  pub one_each_job : length prices.jobs ≡ length c.ids
  pub one_list_each : length prices.places ≡ length way
  pub one_each_place : (device : ℕ) → length (places_on prices.places device) ≡ length (queue_of way device)
  pub not_positive : (device after : ℕ) → place_price prices.places device after ≤ℤ pos 0
  pub used : (job device time after : ℕ) → time_in c job device ≡ Some time → after < length (queue_of way device) → (job_price c.ids prices.jobs job +ℤ place_price prices.places device after) ≤ℤ pos (wait_in c device + suc after * time)
  pub next : (job device time : ℕ) → time_in c job device ≡ Some time → job_price c.ids prices.jobs job ≤ℤ pos (wait_in c device + suc (length (queue_of way device)) * time)
  pub sums : sum_signed prices.jobs +ℤ sum_lists prices.places ≡ pos (total_of c way)

-- a way of the class with fair prices and its total
pub record IsProved (c : Class) (way : List (List ℕ)) (prices : PriceLists) (total : ℕ) : Type 0 where
  pub is_way : IsWay c way
  pub fair : AreFair c way prices
  pub stated : total ≡ total_of c way
