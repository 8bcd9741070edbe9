use Rattle.device_link.proofs.Streams.{first_stays, reads_rest}
use Rattle.device_link.proofs.law.given_first.Goals as goal

pub returns-clause-first : goal.returns-clause-first
returns-clause-first c = first_stays

pub returns-clause-rest : goal.returns-clause-rest
returns-clause-rest c = reads_rest
