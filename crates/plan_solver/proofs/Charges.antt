-- The cost of a place for a job.
use Rattle.std.proofs.Common.{◌≡◌, ℕ, ◌+◌, ◌*◌, ◌≤◌, suc, List, Option, Some, None, min, get_or, arith}
use Rattle.std.proofs.Math.Nat.{suc-mul}
use Rattle.plan_solver.specs.declared.costs.Costs.{Costs}
use Rattle.plan_solver.specs.declared.costs.Place.{Place}
use Rattle.plan_solver.specs.declared.costs.TheConstants.{UNABLE}
use Rattle.plan_solver.specs.Costs.{cost_at, cost_of}

-- with a time, or without one
abbrev pub cost_with : Option ℕ → ℕ → ℕ → ℕ
cost_with None wait after = UNABLE
cost_with (Some time) wait after = min (wait + suc after * time) UNABLE

pub cost_at-low : (waits : List ℕ) (row : List ℕ) (place : Place) → cost_at waits row place ≤ UNABLE
unfolding cost_at
cost_at-low waits row place = omega arith

-- no place costs more than a place that the job can't have
pub cost_of-low : (costs : Costs) (job : ℕ) (place : Place) → cost_of costs job place ≤ UNABLE
cost_of-low costs job place = cost_at-low _ _ place

-- without a time, or without a wait
pub unable : (wait after : ℕ) → min (wait + suc after * UNABLE) UNABLE ≡ UNABLE
unable wait after = omega (arith, suc-mul after UNABLE)

pub cost_at-untimed : (waits : List ℕ) (row : List ℕ) (place : Place) → get_or row place.device UNABLE ≡ UNABLE → cost_at waits row place ≡ UNABLE
unfolding cost_at
cost_at-untimed waits row place e = rw e (unable (get_or waits place.device UNABLE) place.after)

pub cost_at-unknown : (waits : List ℕ) (row : List ℕ) (place : Place) → get_or waits place.device UNABLE ≡ UNABLE → cost_at waits row place ≡ UNABLE
unfolding cost_at
cost_at-unknown waits row place e = rw e (omega arith)

-- with a time and a wait
pub cost_at-some : (waits : List ℕ) (row : List ℕ) (place : Place) (time wait cost : ℕ) → get_or row place.device UNABLE ≡ time → get_or waits place.device UNABLE ≡ wait → cost ≡ min (wait + suc place.after * time) UNABLE → cost ≡ cost_at waits row place
unfolding cost_at
cost_at-some waits row place time wait cost et ew e = rw (et, ew) e
