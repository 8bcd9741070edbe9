use Rattle.std.proofs.Common.{◌≡◌, ◌++◌, drop}
use Rattle.traces.specs.Printed.{stranded_words}
use Rattle.traces.proofs.print.put_stranded_jobs.Given as goal

abbrev pub invariant-loop-job : goal.invariant-loop-job
invariant-loop-job l = l.output.items ++ stranded_words (drop l.job-index l.stranded) ≡ l.initial.output.items ++ stranded_words l.stranded
