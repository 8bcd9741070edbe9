use Rattle.std.proofs.Common.{ℕ, ◌+◌, ◌<◌, ◌≤◌, get_or}
use Rattle.plan_solver.specs.Costs.{cost_of}
use Rattle.plan_solver.proofs.matching.slack.Given as goal

abbrev pub invariant-loop-q : goal.invariant-loop-q
invariant-loop-q l = (q : ℕ) → q < l.q → get_or l.matching.prices.items q 0 + l.least ≤ cost_of l.costs (get_or l.matching.jobs.items q 0) l.place
