use Rattle.ipp_codec.proofs.Once.{one_spelling}
use Rattle.ipp_codec.proofs.law.one_spelling.Goals as goal

pub returns : goal.returns
returns c = one_spelling
