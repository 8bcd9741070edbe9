use Rattle.std.proofs.Common.{◌≡◌, ℕ, ◌+◌, ◌<◌, ◌≤◌, vec_len, get_or}
use Rattle.std.specs.Option.{unwrap_or}
use Rattle.plan_problem.specs.Class.{time_in}
use Rattle.plan_solver.specs.declared.costs.TheConstants.{UNABLE}
use Rattle.plan_solver.proofs.times.read_row.Given as goal

abbrev pub invariant-loop-place : goal.invariant-loop-place
invariant-loop-place g l = record {
  len : vec_len l.entries ≡ l.place;
  read : (d : ℕ) → d < l.place → get_or l.entries.items d UNABLE ≡ unwrap_or (time_in (g.T.Times.class l.fn.times) l.job d) UNABLE;
  same : g.T.Times.class l.times ≡ g.T.Times.class l.fn.times;
  looked : g.T.Times.looked l.times ≤ g.T.Times.looked l.fn.times + l.place;
}
