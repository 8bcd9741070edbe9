use Rattle.std.proofs.Common.{◌≡◌, drop}
use Rattle.journal.proofs.same.same_documents.Given as goal

abbrev pub invariant-loop-document : goal.invariant-loop-document
invariant-loop-document l = drop l.document-index l.first ≡ l.rest → l.first ≡ l.second
