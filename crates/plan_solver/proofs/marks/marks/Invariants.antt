use Rattle.std.proofs.Common.{◌≡◌, ℕ, ◌<◌, vec_len, get_or}
use Rattle.plan_solver.specs.Costs.{row_of}
use Rattle.plan_solver.specs.Marks.{mark_of}
use Rattle.plan_solver.proofs.marks.marks.Given as goal

abbrev pub invariant-loop-job : goal.invariant-loop-job
invariant-loop-job l = (vec_len l.marks ≡ l.job) × ((j : ℕ) → j < l.job → get_or l.marks.items j 0 ≡ mark_of (row_of l.costs j))
