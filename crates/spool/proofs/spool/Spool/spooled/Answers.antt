use Rattle.std.proofs.Common.{subst, IfSome}
use Rattle.spool.specs.Jobs.{SpoolRecord, jobs_of, spooled_at}
use Rattle.spool.specs.Sound.{IsSound}
use Rattle.spool.proofs.Sound.{sound_found}
use Rattle.spool.proofs.Entries.{found_at}
use Rattle.spool.proofs.spool.Spool.spooled.Goals as goal

pub returns-clause-value : goal.returns-clause-value
returns-clause-value c = found_at c.args.id c.number.result c.self.inside.next c.self.inside.entries.entries c.args.self.now _ c.number.ensures.value c.self.invariant.0 c.self.view_is c.get.ensures.value

pub returns-clause-sound : goal.returns-clause-sound
returns-clause-sound c =
    subst (λ (s : SpoolRecord). IfSome (spooled_at c.args.id s.jobs) IsSound) c.self.view_is (sound_found c.args.id (jobs_of c.self.inside.entries.entries) c.self.invariant.4)
