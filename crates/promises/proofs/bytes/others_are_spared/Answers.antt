use Rattle.promises.proofs.OtherConnections.{spares_all}
use Rattle.promises.proofs.bytes.others_are_spared.Goals as goal

pub returns : goal.returns
returns c moment = spares_all moment
