use Rattle.adapter_core.proofs.PjlSegmentation.{cut}
use Rattle.adapter_core.proofs.pjl_law.segmentation_keeps_statuses.Goals as goal

pub returns : goal.returns
returns c = cut
