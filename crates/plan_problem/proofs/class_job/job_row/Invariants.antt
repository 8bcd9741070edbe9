use Rattle.plan_problem.proofs.Rows.{RowSoFar}
use Rattle.plan_problem.proofs.class_job.job_row.Given as goal

abbrev pub invariant-loop-place : goal.invariant-loop-place
invariant-loop-place l = RowSoFar l.needs l.devices l.printer l.place l.times.items
