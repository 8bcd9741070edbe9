use Rattle.std.proofs.Common.{◌≡◌}
use Rattle.plan_solver.proofs.begun.begin_by.Given as goal

abbrev pub invariant-loop : goal.invariant-loop
invariant-loop l = l.order ≡ l.initial.order
