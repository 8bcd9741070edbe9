use Rattle.std.proofs.Common.{◌≡◌, [], Some, false}
use Rattle.journal.specs.File.{KeepsPlayed}
use Rattle.journal.proofs.serving.serve.Given as goal

abbrev pub invariant-loop : goal.invariant-loop
invariant-loop g l = (l.wire.notes ≡ record { lines = Some []; heads = false }) × KeepsPlayed (g.T.Storage.stored l.initial.storage) l.initial.engine (g.T.Storage.stored l.storage) l.engine
