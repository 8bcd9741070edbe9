use Rattle.std.proofs.Common.{◌≡◌, ◌++◌, vec_len}
use Rattle.plan_solver.specs.Answer.{queue_of_columns}
use Rattle.plan_solver.proofs.answer.queue.Given as goal

abbrev pub invariant-loop-column : goal.invariant-loop-column
invariant-loop-column l = l.jobs.items ++ queue_of_columns l.device l.ids l.matching.columns.items l.matching.jobs.items l.column ≡ queue_of_columns l.device l.ids l.matching.columns.items l.matching.jobs.items (vec_len l.matching.columns)
