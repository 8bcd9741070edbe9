use Rattle.std.proofs.Common.{◌≡◌, ℕ, ◌+◌, ◌*◌, ◌<◌, ◌≤◌, [], All, length, vec_len, get_or}
use Rattle.std.specs.Option.{unwrap_or}
use Rattle.plan_problem.specs.Class.{time_in}
use Rattle.plan_solver.specs.declared.costs.TheConstants.{UNABLE}
use Rattle.plan_solver.proofs.times.read.Given as goal

abbrev pub invariant-loop-place : goal.invariant-loop-place
invariant-loop-place g l = record {
  len : vec_len l.rows ≡ l.place;
  read : (j d : ℕ) → j < l.place → d < vec_len l.waits → get_or (get_or l.rows.items j []) d UNABLE ≡ unwrap_or (time_in (g.T.Times.class l.fn.times) (get_or l.ids.items j 0) d) UNABLE;
  widths : All (λ row. length row ≡ vec_len l.waits) l.rows.items;
  same : g.T.Times.class l.times ≡ g.T.Times.class l.fn.times;
  looked : g.T.Times.looked l.times ≤ g.T.Times.looked l.fn.times + l.place * vec_len l.waits;
}
