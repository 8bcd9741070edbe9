use Rattle.ipp_codec.proofs.FaultStays.{part_stays, bytes_stay}
use Rattle.ipp_codec.proofs.law.fault_stays.Goals as goal

pub returns-clause-part : goal.returns-clause-part
returns-clause-part c = part_stays

pub returns-clause-bytes : goal.returns-clause-bytes
returns-clause-bytes c = bytes_stay
