use Rattle.dispatcher.proofs.Spelt.{jobs_spelt}
use Rattle.dispatcher.proofs.get_jobs.listed_groups.Goals as goal

pub from_vec-requires : goal.from_vec-requires
from_vec-requires c = jobs_spelt c.args.wanted.now c.args.now c.args.requested.now c.args.room.now _ c.in_ok-groups.ensures
