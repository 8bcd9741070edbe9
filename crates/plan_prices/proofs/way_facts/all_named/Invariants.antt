use Rattle.std.proofs.Common.{ℕ, ◌<◌, ◌≤◌, get_or}
use Rattle.plan_prices.specs.Way.{times_named}
use Rattle.plan_prices.proofs.way_facts.all_named.Given as goal

abbrev pub invariant-loop-job : goal.invariant-loop-job
invariant-loop-job l = (k : ℕ) (d : ℕ) → k < l.job-index → 1 ≤ times_named l.way (get_or l.class.ids k d)
