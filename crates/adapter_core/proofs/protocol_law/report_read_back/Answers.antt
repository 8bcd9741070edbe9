use Rattle.adapter_core.proofs.ReadBack.{read_back}
use Rattle.adapter_core.proofs.protocol_law.report_read_back.Goals as goal

pub returns : goal.returns
returns c = read_back
