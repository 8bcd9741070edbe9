use Rattle.std.proofs.Common.{◌≡◌, ◌<◌, All, vec_len, take}
use Rattle.std.specs.List.Sorted.{IsPermutation}
use Rattle.plan_solver.specs.Costs.{cost_of}
use Rattle.plan_solver.specs.Matching.{IsFairlyMatched}
use Rattle.plan_solver.specs.DeviceColumns.{AreByDevice}
use Rattle.plan_solver.specs.Layout.{IsLaid}
use Rattle.plan_solver.specs.AllPlaces.{ShowsAll}
use Rattle.plan_solver.proofs.all_places.solve_densely.Given as goal

abbrev pub invariant-loop-place : goal.invariant-loop-place
invariant-loop-place l = record {
  known : All (λ j. j < vec_len l.costs.rows) l.matching.jobs.items;
  count : vec_len l.matching.columns ≡ l.place;
  matched : IsFairlyMatched (cost_of l.costs) l.matching l.free.items;
  laid : IsLaid (vec_len l.costs.waits) l.matching.columns.items;
  by_device : AreByDevice (vec_len l.costs.waits) l.matching.columns.items l.by_device.items;
  shows : ShowsAll l.costs l.matching.columns.items l.free.items;
  all : IsPermutation (take l.place l.order.items) l.matching.jobs.items;
}
