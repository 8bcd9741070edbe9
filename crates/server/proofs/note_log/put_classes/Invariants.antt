use Rattle.std.proofs.Common.{◌≡◌, ◌++◌, map, take}
use Rattle.server.specs.NoteLog.{class_word}
use Rattle.server.proofs.note_log.put_classes.Given as goal

abbrev pub invariant-loop-class : goal.invariant-loop-class
invariant-loop-class l = l.notes.items ≡ l.initial.notes.items ++ map class_word (take l.class-index l.classes)
