use Rattle.std.proofs.Common.{rules}
use Rattle.spool.proofs.FinishedFirst.{first_more}
use Rattle.spool.proofs.spool.Spool.count_finished.Goals as goal

pub loop-place-preserved : goal.loop-place-preserved
loop-place-preserved c = first_more c.loop-place.place c.args.self.now.jobs (search rules) (search rules) (search rules) (search rules) c.loop-place.invariant
