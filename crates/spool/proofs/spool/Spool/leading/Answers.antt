use Rattle.std.proofs.Common.{◌≤◌, length, subst}
use Rattle.spool.specs.Jobs.{SpoolRecord, jobs_of}
use Rattle.spool.proofs.FinishedFirst.{first_inside}
use Rattle.spool.proofs.spool.Spool.leading.Goals as goal

pub returns-clause-inside : goal.returns-clause-inside
returns-clause-inside c = subst (λ (s : SpoolRecord). c.self.inside.leading ≤ length s.jobs) c.self.view_is (first_inside c.self.inside.leading (jobs_of c.self.inside.entries.entries) c.self.invariant.5)
