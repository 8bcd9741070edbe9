use Rattle.spool.proofs.SpoolOfEntries.{is_spool}
use Rattle.spool.proofs.spool.Spool.jobs.Goals as goal

pub returns-clause-kept : goal.returns-clause-kept
returns-clause-kept c = is_spool c.self.inside.next c.self.inside.entries.entries c.args.self.now c.self.invariant.0 c.self.invariant.2 c.self.invariant.3 c.self.invariant.4 c.self.view_is
