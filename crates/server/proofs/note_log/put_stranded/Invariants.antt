use Rattle.std.proofs.Common.{◌≡◌, ◌++◌, map, take}
use Rattle.server.specs.declared.note_log.LoggedNote.TheVariants as handle
use Rattle.server.proofs.note_log.put_stranded.Given as goal

abbrev pub invariant-loop-job : goal.invariant-loop-job
invariant-loop-job l = l.notes.items ≡ l.initial.notes.items ++ map handle.Stranded (take l.job-index l.stranded)
