use Rattle.device_link.proofs.Streams.{first_one, none_follows}
use Rattle.device_link.proofs.law.one_prefix.Goals as goal

pub returns-clause-one : goal.returns-clause-one
returns-clause-one c = first_one

pub returns-clause-last : goal.returns-clause-last
returns-clause-last c = none_follows
