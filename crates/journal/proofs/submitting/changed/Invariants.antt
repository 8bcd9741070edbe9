use Rattle.std.proofs.Common.{All, take}
use Rattle.journal.specs.Resubmitting.{IsKept}
use Rattle.journal.proofs.submitting.changed.Given as goal

abbrev pub invariant-loop-one : goal.invariant-loop-one
invariant-loop-one l = All (IsKept l.engine.core) (take l.one-index l.resubmitted)
