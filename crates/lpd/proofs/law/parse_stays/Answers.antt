use Rattle.lpd.proofs.ReaderPlace.{all_stays, fault_stays}
use Rattle.lpd.proofs.law.parse_stays.Goals as goal

pub returns-clause-prefix : goal.returns-clause-prefix
returns-clause-prefix c = all_stays

pub returns-clause-fault : goal.returns-clause-fault
returns-clause-fault c = fault_stays
