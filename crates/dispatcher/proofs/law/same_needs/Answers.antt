use Rattle.dispatcher.proofs.Once.{same_query, same_needs}
use Rattle.dispatcher.proofs.law.same_needs.Goals as goal

pub returns-clause-query : goal.returns-clause-query
returns-clause-query c = same_query

pub returns-clause-memory : goal.returns-clause-memory
returns-clause-memory c = same_needs
