use Rattle.std.proofs.Common.{◌≡◌, length}
use Rattle.spool.specs.Kept.{retained}
use Rattle.spool.proofs.spool.Spool.forget.Given as goal

abbrev pub invariant-loop-place : goal.invariant-loop-place
invariant-loop-place l = (retained l.self.jobs ≡ retained l.initial.self.jobs) × (l.self.next ≡ l.initial.self.next)

abbrev pub decreases-loop-place : goal.decreases-loop-place
decreases-loop-place l = length l.self.jobs
