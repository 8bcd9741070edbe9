use Rattle.promises.proofs.CarriedBytes.{is_carried}
use Rattle.promises.proofs.bytes.due_was_carried.Goals as goal

pub returns : goal.returns
returns c opening trace ledger runs new = is_carried opening trace ledger runs new
