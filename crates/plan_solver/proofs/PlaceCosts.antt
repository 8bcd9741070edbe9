-- The costs of the places of a device for a job, the last place first.
use Rattle.std.proofs.Common.{◌≡◌, ℕ, ◌+◌, ◌-◌, ◌*◌, ◌<◌, ◌≤◌, List, suc, add-one, length, min, get_or, refl, arith}
use Rattle.std.proofs.Math.Nat.{mul-le-mul_right, suc-mul}
use Rattle.plan_solver.specs.declared.costs.Place.{Place}
use Rattle.plan_solver.specs.declared.costs.TheConstants.{UNABLE}
use Rattle.plan_solver.specs.Costs.{cost_at, nowhere}
use Rattle.plan_solver.specs.DeviceColumns.{AreColumnsOf}
use Rattle.plan_solver.specs.AllPlaces.{place_on}

pub times_more : (after time : ℕ) → (after + 1) * time ≡ after * time + time
times_more after time = rw add-one (omega (arith, suc-mul after time))

times_le : (after k time : ℕ) → after ≤ k → (after + 1) * time ≤ suc k * time
times_le after k time le = mul-le-mul_right time (let more : after + 1 ≤ suc k = omega arith in more)

-- the cost at a place of this device
cost_here : (waits row : List ℕ) (place : Place) (device : ℕ) → place.device ≡ device → cost_at waits row place ≡ min (get_or waits device UNABLE + suc place.after * get_or row device UNABLE) UNABLE
unfolding cost_at
cost_here waits row place device e = rw e refl

too_dear : (wait work more charge base price dual E cost : ℕ) → charge ≤ wait + work → work ≤ more → (E + price) - base ≤ charge → E + price ≤ base + UNABLE → cost ≡ min (wait + more) UNABLE → price ≤ cost + dual → E ≤ base + (cost + dual - price)
too_dear wait work more charge base price dual E cost low grows dear reach is fair = omega arith

-- once a place is too dear, so is each place before it
pub dear_on : (waits row : List ℕ) (place : Place) (device after charge base price dual E : ℕ) → place.device ≡ device → after ≤ place.after → charge ≤ get_or waits device UNABLE + (after + 1) * get_or row device UNABLE → (E + price) - base ≤ charge → E + price ≤ base + UNABLE → price ≤ cost_at waits row place + dual → E ≤ base + (cost_at waits row place + dual - price)
dear_on waits row place device after charge base price dual E on le low dear reach fair =
    too_dear _ _ _ charge base price dual E _ low (times_le after place.after (get_or row device UNABLE) le) dear reach (cost_here waits row place device on) fair

-- a place that isn't costs just its charge
cost_is : (waits row : List ℕ) (place : Place) (device after charge : ℕ) → place ≡ place_on device after → charge ≡ get_or waits device UNABLE + (after + 1) * get_or row device UNABLE → charge ≤ UNABLE → cost_at waits row place ≡ charge
unfolding cost_at
cost_is waits row place device after charge is e low = rw (is, ← add-one) (omega arith)

-- the place that the columns of a device come to, where it isn't too dear
pub placed : (waits row : List ℕ) (columns : List Place) (device_columns : List ℕ) (device after n charge time next base price E : ℕ) → AreColumnsOf device columns device_columns → after < length device_columns → length columns ≡ n
    → charge ≡ get_or waits device UNABLE + after * get_or row device UNABLE → time ≡ get_or row device UNABLE → next ≡ min (charge + time) 18446744073709551615 → next < (E + price) - base → E + price ≤ base + UNABLE
    → (get_or device_columns after 0 < n) × (get_or columns (get_or device_columns after 0) nowhere ≡ place_on device after) × (next ≡ get_or waits device UNABLE + (after + 1) * get_or row device UNABLE) × (next ≤ UNABLE) × (cost_at waits row (get_or columns (get_or device_columns after 0) nowhere) ≡ next)
placed waits row columns device_columns device after n charge time next base price E h lt len ec et en less reach =
    let sum : next ≡ get_or waits device UNABLE + (after + 1) * get_or row device UNABLE = omega (arith, times_more after (get_or row device UNABLE)) in
    let low : next ≤ UNABLE = omega arith in
    (omega (arith, h.known after lt), h.places after lt, sum, low, cost_is waits row (get_or columns (get_or device_columns after 0) nowhere) device after next (h.places after lt) sum low)

-- the charge up to a place, whether it fits or not
pub charged : (waits row : List ℕ) (device after charge time next : ℕ) → charge ≡ get_or waits device UNABLE + after * get_or row device UNABLE → time ≡ get_or row device UNABLE → next ≡ min (charge + time) 18446744073709551615 → next ≤ get_or waits device UNABLE + (after + 1) * get_or row device UNABLE
charged waits row device after charge time next ec et en = omega (arith, times_more after (get_or row device UNABLE))

-- the rest of the most that a place may be charged
pub left_more : (waits row : List ℕ) (device after left time most : ℕ) → left ≡ most - (get_or waits device UNABLE + after * get_or row device UNABLE) → time ≡ get_or row device UNABLE → left - time ≡ most - (get_or waits device UNABLE + (after + 1) * get_or row device UNABLE)
left_more waits row device after left time most is et = omega (arith, is, et, times_more after (get_or row device UNABLE))

pub left_none : (waits row : List ℕ) (device after left time most : ℕ) → left ≡ most - (get_or waits device UNABLE + after * get_or row device UNABLE) → time ≡ get_or row device UNABLE → left ≤ time → most ≤ get_or waits device UNABLE + (after + 1) * get_or row device UNABLE
left_none waits row device after left time most is et none = omega (arith, is, et, none, times_more after (get_or row device UNABLE))

pub left_placed : (waits row : List ℕ) (columns : List Place) (device_columns : List ℕ) (device after n left time base price E most : ℕ) → AreColumnsOf device columns device_columns → after < length device_columns → length columns ≡ n
    → left ≡ most - (get_or waits device UNABLE + after * get_or row device UNABLE) → time ≡ get_or row device UNABLE → time < left → most ≡ (E + price) - base → E + price ≤ base + UNABLE
    → (get_or device_columns after 0 < n) × (get_or columns (get_or device_columns after 0) nowhere ≡ place_on device after) × (cost_at waits row (get_or columns (get_or device_columns after 0) nowhere) ≡ most - (left - time))
left_placed waits row columns device_columns device after n left time base price E most h lt len is et short most_is reach =
    let p = placed waits row columns device_columns device after n (most - left) time (most - (left - time)) base price E h lt len (omega (arith, is, short)) et (omega (arith, is, short, most_is, reach)) (omega (arith, is, short, most_is)) reach in
    (p.0, p.1, p.4)

fair_enough : (wait work more price dual cost : ℕ) → price ≤ wait + work → work ≤ more → price ≤ UNABLE → cost ≡ min (wait + more) UNABLE → price ≤ cost + dual
fair_enough wait work more price dual cost low grows high is = omega arith

-- once a place alone costs as much as a job is charged, so does each place before it
pub fair_on : (waits row : List ℕ) (place : Place) (device after price dual : ℕ) → place.device ≡ device → after ≤ place.after → price ≤ get_or waits device UNABLE + (after + 1) * get_or row device UNABLE → price ≤ UNABLE → price ≤ cost_at waits row place + dual
fair_on waits row place device after price dual on le low high =
    fair_enough _ _ _ price dual _ low (times_le after place.after (get_or row device UNABLE) le) high (cost_here waits row place device on)
