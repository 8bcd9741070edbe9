use Rattle.plan_problem.proofs.Rows.{RowsSoFar}
use Rattle.plan_problem.proofs.class_job.build.Given as goal

abbrev pub invariant-loop-job : goal.invariant-loop-job
invariant-loop-job l = RowsSoFar l.jobs l.devices l.printers l.job-index l.ids.items l.rows.items
