use Rattle.std.proofs.Common.{◌≡◌, ◌++◌, drop}
use Rattle.plan_text.specs.Writing.{lines_text, job_lines}
use Rattle.plan_text.proofs.write_plan.put_jobs.Given as goal

abbrev pub invariant-loop-place : goal.invariant-loop-place
invariant-loop-place l = l.output.items ++ lines_text (job_lines (drop l.place l.ids) (drop l.place l.rows)) ≡ l.initial.output.items ++ lines_text (job_lines l.ids l.rows)
