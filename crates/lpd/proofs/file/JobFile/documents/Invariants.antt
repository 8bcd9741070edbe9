use Rattle.std.proofs.Common.{◌≡◌, map, take}
use Rattle.lpd.specs.Pending.{document_of}
use Rattle.lpd.proofs.file.JobFile.documents.Given as goal

abbrev pub invariant-loop-print : goal.invariant-loop-print
invariant-loop-print l = l.documents.items ≡ map (document_of l.files) (take l.print-index l.print-items)
