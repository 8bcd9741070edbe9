use Rattle.journal.proofs.Played.{filed_after}
use Rattle.journal.proofs.law.turns_append_to_files.Goals as goal

pub returns : goal.returns
returns c trace file moment hs text is turn = filed_after moment hs text turn trace file is
