use Rattle.std.proofs.Common.{ℕ, ◌<◌, get_or, length}
use Rattle.plan_problem.specs.Class.{place_of}
use Rattle.plan_prices.proofs.way_facts.knows.Given as goal

abbrev pub invariant-loop-job : goal.invariant-loop-job
invariant-loop-job l = (k : ℕ) (d : ℕ) → k < l.job-index → place_of l.class.ids (get_or l.jobs k d) < length l.class.ids
