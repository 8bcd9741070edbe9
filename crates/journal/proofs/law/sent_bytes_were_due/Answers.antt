use Rattle.journal.proofs.Sent.{sent_were_due}
use Rattle.journal.proofs.law.sent_bytes_were_due.Goals as goal

pub returns : goal.returns
returns c = sent_were_due
