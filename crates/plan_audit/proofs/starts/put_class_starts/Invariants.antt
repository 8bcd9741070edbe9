use Rattle.std.proofs.Common.{◌≡◌, ◌++◌, drop}
use Rattle.plan_audit.specs.Check.{job_starts}
use Rattle.plan_audit.proofs.starts.put_class_starts.Given as goal

abbrev pub invariant-loop-job : goal.invariant-loop-job
invariant-loop-job l = l.output.items ++ job_starts l.devices l.class (drop l.job-index l.job-items) ≡ l.initial.output.items ++ job_starts l.devices l.class l.job-items
