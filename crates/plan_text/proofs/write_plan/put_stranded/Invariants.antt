use Rattle.std.proofs.Common.{◌≡◌, ◌++◌, drop}
use Rattle.plan_text.specs.Writing.{lines_text, stranded_lines}
use Rattle.plan_text.proofs.write_plan.put_stranded.Given as goal

abbrev pub invariant-loop-job : goal.invariant-loop-job
invariant-loop-job l = l.output.items ++ lines_text (stranded_lines (drop l.job-index l.stranded)) ≡ l.initial.output.items ++ lines_text (stranded_lines l.stranded)
