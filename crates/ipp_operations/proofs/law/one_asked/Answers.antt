use Rattle.ipp_operations.proofs.Once.{same_asked}
use Rattle.ipp_operations.proofs.law.one_asked.Goals as goal

pub returns : goal.returns
returns c = same_asked (record {
  one_spelling = c.one_spelling.ensures;
  one_fault = c.one_first_fault.ensures.one;
  no_fault = c.one_first_fault.ensures.no_spelling;
})
