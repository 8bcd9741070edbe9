-- The cost of a job at a place of a device, counted from the end of the device's list: the device's wait once, and the job's time for itself and for each job after it.
use Rattle.std.specs.Prelude.{ℕ, ◌+◌, ◌*◌, List, [], min, slice_index_or, suc}
use Rattle.plan_solver.specs.declared.costs.Costs.{Costs}
use Rattle.plan_solver.specs.declared.costs.Place.{Place}
use Rattle.plan_solver.specs.declared.costs.TheConstants.{UNABLE}

-- the cost at a place of one of the devices; a device that isn't able has the time UNABLE, and the cost is at most UNABLE
unfoldable pub cost_at : List ℕ → List ℕ → Place → ℕ
cost_at waits row place = min (slice_index_or waits place.device UNABLE + suc place.after * slice_index_or row place.device UNABLE) UNABLE

-- the times of a job
abbrev pub row_of : Costs → ℕ → List ℕ
row_of costs job = slice_index_or costs.rows.items job []

-- the cost of a job at a place
abbrev pub cost_of : Costs → ℕ → Place → ℕ
cost_of costs job place = cost_at costs.waits.items (row_of costs job) place

-- the value that is read past the end of a list of places
abbrev pub nowhere : Place
nowhere = record { device = 0; after = 0 }
