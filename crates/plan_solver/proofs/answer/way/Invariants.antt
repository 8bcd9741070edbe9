use Rattle.std.proofs.Common.{◌≡◌, vec_len, ℕ}
use Rattle.plan_solver.specs.Answer.{of_devices, queue_of_columns}
use Rattle.plan_solver.proofs.answer.way.Given as goal

abbrev pub invariant-loop-device : goal.invariant-loop-device
invariant-loop-device l = l.queues.items ≡ of_devices (λ (d : ℕ). queue_of_columns d l.entries.ids.items l.matching.columns.items l.matching.jobs.items (vec_len l.matching.columns)) l.device
