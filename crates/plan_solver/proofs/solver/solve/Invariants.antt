use Rattle.std.proofs.Common.{◌≡◌, ◌++◌, vec_len, take}
use Rattle.std.specs.List.Sorted.{IsPermutation}
use Rattle.plan_solver.specs.Costs.{cost_of}
use Rattle.plan_solver.specs.Matching.{HasRoom, IsFairlyMatched}
use Rattle.plan_solver.specs.DeviceColumns.{AreByDevice}
use Rattle.plan_solver.specs.Layout.{IsLaid, ShowsNext}
use Rattle.plan_solver.proofs.solver.solve.Given as goal

abbrev pub invariant-loop-place : goal.invariant-loop-place
invariant-loop-place l = record {
  matched : IsFairlyMatched (cost_of l.costs) l.matching l.free.items;
  laid : IsLaid (vec_len l.costs.waits) l.matching.columns.items;
  by_device : AreByDevice (vec_len l.costs.waits) l.matching.columns.items l.by_device.items;
  shows : ShowsNext (vec_len l.costs.waits) l.matching.columns.items l.free.items;
  one_each : vec_len l.slacks ≡ vec_len l.costs.waits;
  room : HasRoom (cost_of l.costs) l.matching.jobs.items l.matching.prices.items l.free.items l.slacks.items;
  all : IsPermutation (l.initial.matching.jobs.items ++ take l.place l.left.items) l.matching.jobs.items;
}
