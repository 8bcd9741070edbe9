use Rattle.std.proofs.Common.{◌++◌, take}
use Rattle.std.specs.List.Sorted.{IsPermutation}
use Rattle.plan_solver.specs.Begun.{IsLaidOut}
use Rattle.plan_solver.proofs.begun.laid_out.Given as goal

abbrev pub invariant-loop-place : goal.invariant-loop-place
invariant-loop-place l = record {
  laid_out : IsLaidOut l.costs l.begun;
  jobs : IsPermutation (take l.place l.order) (l.begun.matching.jobs.items ++ l.begun.left.items);
}
