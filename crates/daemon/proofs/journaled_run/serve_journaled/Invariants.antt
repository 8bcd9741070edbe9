use Rattle.daemon.specs.Journaling.{KeepsFiled}
use Rattle.daemon.proofs.journaled_run.serve_journaled.Given as goal

abbrev pub invariant-loop-taken : goal.invariant-loop-taken
invariant-loop-taken g l = KeepsFiled l.initial.server (g.T.Storage.stored l.initial.storage) l.server (g.T.Storage.stored l.storage)
