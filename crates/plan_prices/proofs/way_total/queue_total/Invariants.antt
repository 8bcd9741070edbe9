use Rattle.std.proofs.Common.{◌≡◌, ◌+◌, drop}
use Rattle.plan_problem.specs.Class.{wait_in}
use Rattle.plan_prices.proofs.Totals.{list_total}
use Rattle.plan_prices.proofs.way_total.queue_total.Given as goal

abbrev pub invariant-loop-job : goal.invariant-loop-job
invariant-loop-job l = l.sum + list_total l.class l.device l.free (drop l.job-index l.jobs) ≡ list_total l.class l.device (wait_in l.class l.device) l.jobs
