use Rattle.std.proofs.Common.{◌≡◌, map, take, pos}
use Rattle.plan_solver.proofs.answer.signed.Given as goal

abbrev pub invariant-loop-value : goal.invariant-loop-value
invariant-loop-value l = l.signed.items ≡ map pos (take l.value-index l.values)
