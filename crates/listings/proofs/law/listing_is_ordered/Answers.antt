use Rattle.listings.proofs.JobsByTurn.{by_turn_permutes, by_turn_in_order}
use Rattle.listings.proofs.law.listing_is_ordered.Goals as goal

pub returns-clause-same : goal.returns-clause-same
returns-clause-same c = by_turn_permutes

pub returns-clause-ordered : goal.returns-clause-ordered
returns-clause-ordered c = by_turn_in_order
