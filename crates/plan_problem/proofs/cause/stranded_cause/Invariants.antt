use Rattle.std.proofs.Common.{◌≡◌, max, drop}
use Rattle.plan_problem.specs.Cause.{devices_of, filters_of, order_of}
use Rattle.plan_problem.proofs.Stages.{stage_of}
use Rattle.plan_problem.proofs.cause.stranded_cause.Given as goal

abbrev pub invariant-loop-device : goal.invariant-loop-device
invariant-loop-device l = max (order_of l.cause) (stage_of (filters_of l.needs) (devices_of (drop l.device-index l.printer) l.devices)) ≡ stage_of (filters_of l.needs) (devices_of l.printer l.devices)
