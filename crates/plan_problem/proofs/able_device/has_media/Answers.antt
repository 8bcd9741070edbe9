use Rattle.std.proofs.Common.{rules}
use Rattle.plan_problem.proofs.Filters.{has_media_from}
use Rattle.plan_problem.proofs.able_device.has_media.Goals as goal

pub returns : goal.returns
returns c = has_media_from c.args.needs.now c.args.now.now c.deref.result.now c.as_bytes-wanted.result.now c.has_loaded.result (search rules) (search rules) c.has_loaded.ensures
