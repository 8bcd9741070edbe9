use Rattle.std.proofs.Common.{ℕ, ◌<◌, get_or, IsSome}
use Rattle.plan_problem.specs.Class.{time_in}
use Rattle.plan_prices.proofs.way_facts.is_able.Given as goal

abbrev pub invariant-loop-job : goal.invariant-loop-job
invariant-loop-job l = (k : ℕ) (d : ℕ) → k < l.job-index → IsSome (time_in l.class (get_or l.jobs k d) l.device)
