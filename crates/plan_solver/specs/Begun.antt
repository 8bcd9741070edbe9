-- The jobs that are in columns before the search begins, and the jobs that are left.
use Rattle.std.specs.Prelude.{◌≡◌, ℕ, ◌+◌, ◌<◌, ◌≤◌, List, [], ◌++◌, length, slice_index, slice_index_or, vec_len}
use Rattle.std.specs.List.{range_with_len}
use Rattle.std.specs.List.Sorted.{IsPermutation}
use Rattle.plan_solver.specs.declared.begun.Begun.{Begun}
use Rattle.plan_solver.specs.declared.costs.Costs.{Costs}
use Rattle.plan_solver.specs.declared.matching.Matching.{Matching}
use Rattle.plan_solver.specs.Costs.{cost_of, nowhere}
use Rattle.plan_solver.specs.AllPlaces.{place_on}
use Rattle.plan_solver.specs.DeviceColumns.{AreByDevice}
use Rattle.plan_solver.specs.Layout.{IsLaid, ShowsNext}
use Rattle.plan_solver.specs.Matching.{HasRoom, IsFairlyMatched, IsTight}

-- columns without gaps, each job charged the cost of its place and the dual together, and the next places free; the prices may be unfair
pub record IsLaidOut (costs : Costs) (b : Begun) : Type 0 where
  pub jobs : vec_len b.matching.jobs ≡ vec_len b.matching.columns
  pub prices : vec_len b.matching.prices ≡ vec_len b.matching.columns
  pub duals : vec_len b.matching.duals ≡ vec_len b.matching.columns
  pub tight : IsTight (cost_of costs) b.matching.jobs.items b.matching.prices.items b.matching.columns.items b.matching.duals.items
  pub laid : IsLaid (vec_len costs.waits) b.matching.columns.items
  pub by_device : AreByDevice (vec_len costs.waits) b.matching.columns.items b.by_device.items
  pub shows : ShowsNext (vec_len costs.waits) b.matching.columns.items b.free.items
  pub one_each : vec_len b.slacks ≡ vec_len costs.waits

-- the charge of the job at q is at most the cost of any column's place and that column's dual together
abbrev pub IsFairAt : Costs → Matching → ℕ → Type 0
IsFairAt costs s q = (c : ℕ) → c < vec_len s.columns → slice_index s.prices.items q ≤ cost_of costs (slice_index s.jobs.items q) (slice_index_or s.columns.items c nowhere) + slice_index s.duals.items c

-- the charge of the job at q is at most the cost of the next place of any device, the place before that device's columns
abbrev pub IsFairBeside : Costs → List (List ℕ) → Matching → ℕ → Type 0
IsFairBeside costs by_device s q = (device : ℕ) → device < vec_len costs.waits → slice_index s.prices.items q ≤ cost_of costs (slice_index s.jobs.items q) (place_on device (length (slice_index_or by_device device [])))

-- the invariant of the matching between two jobs, where each job has a column or is left
pub record IsBegun (costs : Costs) (b : Begun) : Type 0 where
  pub matched : IsFairlyMatched (cost_of costs) b.matching b.free.items
  pub laid : IsLaid (vec_len costs.waits) b.matching.columns.items
  pub by_device : AreByDevice (vec_len costs.waits) b.matching.columns.items b.by_device.items
  pub shows : ShowsNext (vec_len costs.waits) b.matching.columns.items b.free.items
  pub one_each : vec_len b.slacks ≡ vec_len costs.waits
  pub room : HasRoom (cost_of costs) b.matching.jobs.items b.matching.prices.items b.free.items b.slacks.items
  pub all : IsPermutation (range_with_len 0 (vec_len costs.rows)) (b.matching.jobs.items ++ b.left.items)
