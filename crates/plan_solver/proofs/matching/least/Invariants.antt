use Rattle.std.proofs.Common.{ℕ, ◌<◌, ◌≤◌, get_or}
use Rattle.plan_solver.specs.declared.costs.TheConstants.{UNABLE}
use Rattle.plan_solver.proofs.matching.least.Given as goal

abbrev pub invariant-loop-slack : goal.invariant-loop-slack
invariant-loop-slack l = (l.least ≤ UNABLE) × ((f : ℕ) → f < l.slack-index → l.least ≤ get_or l.slacks f 0)
