use Rattle.adapter_core.proofs.Written.{parsed_all}
use Rattle.adapter_core.proofs.protocol_law.orders_read_back.Goals as goal

pub returns : goal.returns
returns c = parsed_all
