use Rattle.std.proofs.Common.{◌≡◌, filter, take}
use Rattle.journal.specs.Pausing.{is_unpaused}
use Rattle.journal.proofs.pausing.unpaused_printers.Given as goal

abbrev pub invariant-loop-name : goal.invariant-loop-name
invariant-loop-name l = l.left.items ≡ filter (is_unpaused l.engine.core) (take l.name-index l.names)
