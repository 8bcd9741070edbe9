use Rattle.std.proofs.Common.{◌≡◌, map, take}
use Rattle.spool.proofs.new_job.formats_of.Given as goal

abbrev pub invariant-loop-document : goal.invariant-loop-document
invariant-loop-document l = l.formats.items ≡ map (λ d. d.format) (take l.document-index l.documents)
