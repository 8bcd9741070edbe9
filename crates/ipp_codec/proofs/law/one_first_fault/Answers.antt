use Rattle.ipp_codec.proofs.Once.{fault_excludes, one_fault}
use Rattle.ipp_codec.proofs.law.one_first_fault.Goals as goal

pub returns-clause-one : goal.returns-clause-one
returns-clause-one c = one_fault

pub returns-clause-no_spelling : goal.returns-clause-no_spelling
returns-clause-no_spelling c = fault_excludes
