use Rattle.daemon.specs.Journaling.{KeepsFiled}
use Rattle.daemon.proofs.journaled_run.store_all.Given as goal

abbrev pub invariant-loop : goal.invariant-loop
invariant-loop g l = KeepsFiled l.initial.server (g.T.Storage.stored l.initial.storage) l.server (g.T.Storage.stored l.storage)
