use Rattle.std.proofs.Common.{◌≡◌, drop}
use Rattle.plan_solver.specs.Marks.{mark_of, mixed_all}
use Rattle.plan_solver.proofs.marks.mark.Given as goal

abbrev pub invariant-loop-time : goal.invariant-loop-time
invariant-loop-time l = mixed_all l.mark (drop l.time-index l.times) ≡ mark_of l.times
