use Rattle.promises.proofs.DueByTurns.{are_sent}
use Rattle.promises.proofs.bytes.devices_are_sent_their_orders.Goals as goal

pub returns : goal.returns
returns c opening trace ledger runs = are_sent opening trace ledger runs
