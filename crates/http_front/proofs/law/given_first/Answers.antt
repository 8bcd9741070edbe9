use Rattle.http_front.proofs.ReaderPlace.{first_stays, has_read_rest}
use Rattle.http_front.proofs.law.given_first.Goals as goal

pub returns-clause-first : goal.returns-clause-first
returns-clause-first c = first_stays

pub returns-clause-rest : goal.returns-clause-rest
returns-clause-rest c = has_read_rest
