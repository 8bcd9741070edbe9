-- The parts of the definition of fair prices, as a checker tests them one by one.
use Rattle.std.specs.Prelude.{◌≡◌, ℕ, suc, ◌+◌, ◌*◌, ◌<◌, List, length, Some, All, slice_index_or, ℤ, pos, ◌+ℤ◌, ◌≤ℤ◌}
use Rattle.plan_problem.specs.Class.{Class, time_in, wait_in}
use Rattle.plan_prices.specs.Way.{queue_of, AllNamed}
use Rattle.plan_prices.specs.Total.{total_of}
use Rattle.plan_prices.specs.Prices.{PriceLists, sum_signed, sum_lists, job_price, places_on}

-- each used place of each device has exactly one price
abbrev pub AllPlacesPriced : List (List ℕ) → List (List ℤ) → Type 0
AllPlacesPriced way places = (device : ℕ) → length (places_on places device) ≡ length (queue_of way device)

-- each job is in a list of the way, and each job and each used place has a price
pub record NoneMissing (c : Class) (way : List (List ℕ)) (prices : PriceLists) : Type 0 where
  pub jobs : AllNamed c way
  pub job_prices : length prices.jobs ≡ length c.ids
  pub place_prices : AllPlacesPriced way prices.places

-- no place has a positive price
abbrev pub NonePositive : List (List ℤ) → Type 0
NonePositive places = All (λ prices. All (λ price. price ≤ℤ pos 0) prices) places

-- the price of a job with this time on a device with this wait and these place prices: together with the price of each used place it is at most what the job costs there, and by itself at most what the job costs at the next place
pub record IsFairOn (wait time : ℕ) (price : ℤ) (places : List ℤ) : Type 0 where
  pub used : (after : ℕ) → after < length places → (price +ℤ slice_index_or places after (pos 0)) ≤ℤ pos (wait + suc after * time)
  pub next : price ≤ℤ pos (wait + suc (length places) * time)

-- the price of each job is fair on the device, if the device is able to print the job
abbrev pub AllFairOn : Class → ℕ → List ℤ → List ℤ → Type 0
AllFairOn c device prices places = (job time : ℕ) → time_in c job device ≡ Some time → IsFairOn (wait_in c device) time (job_price c.ids prices job) places

-- no price of a job is too high on any device
abbrev pub NoneTooHigh : Class → PriceLists → Type 0
NoneTooHigh c prices = (device : ℕ) → device < length prices.places → AllFairOn c device prices.jobs (places_on prices.places device)

-- the stated total is that of the way, and the sum of all prices
pub record TotalsAgree (c : Class) (way : List (List ℕ)) (prices : PriceLists) (total : ℕ) : Type 0 where
  pub way_total : total ≡ total_of c way
  pub price_sum : sum_signed prices.jobs +ℤ sum_lists prices.places ≡ pos total
