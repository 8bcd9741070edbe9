use Rattle.std.proofs.Common.{◌≡◌, ℕ, ◌<◌, get_or}
use Rattle.plan_solver.proofs.fit.clear_slacks.Given as goal

abbrev pub invariant-loop-slack : goal.invariant-loop-slack
invariant-loop-slack l = (k : ℕ) → k < l.slack-index → get_or l.slacks k 0 ≡ 0
