use Rattle.promises.proofs.Calls.{accounted}
use Rattle.promises.proofs.bytes.due_after_calls.Goals as goal

pub returns : goal.returns
returns g c opening calls u v old new starts made = accounted g.W.Wire.polled g.N.Observer.notified opening calls u v old new starts made
