use Rattle.std.proofs.Common.{◌≡◌, take}
use Rattle.journal.proofs.saving.shared_documents.Given as goal

abbrev pub invariant-loop-document : goal.invariant-loop-document
invariant-loop-document l = l.same.items ≡ take l.document-index l.documents
