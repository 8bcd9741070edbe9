use Rattle.std.proofs.Common.{◌≡◌, ◌++◌, map, take}
use Rattle.server.specs.declared.note_log.LoggedNote.TheVariants as handle
use Rattle.server.proofs.note_log.put_started.Given as goal

abbrev pub invariant-loop-start : goal.invariant-loop-start
invariant-loop-start l = l.notes.items ≡ l.initial.notes.items ++ map handle.Began (take l.start-index l.started)
