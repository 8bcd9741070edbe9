use Rattle.spool.specs.Leading.{AllFinished}
use Rattle.spool.proofs.spool.Spool.count_finished.Given as goal

abbrev pub invariant-loop-place : goal.invariant-loop-place
invariant-loop-place l = AllFinished l.place l.self.jobs
