use Rattle.std.proofs.Common.{◌≡◌, ◌+◌, drop}
use Rattle.plan_problem.specs.Class.{wait_in}
use Rattle.plan_prices.specs.Total.{busy_time}
use Rattle.plan_prices.proofs.way_waits.free_after.Given as goal

abbrev pub invariant-loop-job : goal.invariant-loop-job
invariant-loop-job l = l.free + busy_time l.class l.device (drop l.job-index l.jobs) ≡ wait_in l.class l.device + busy_time l.class l.device l.jobs
