use Rattle.std.proofs.Common.{sym, arith}
use Rattle.spool.proofs.RemovedJobs.{few_kept}
use Rattle.spool.proofs.spool.Spool.outdated.Goals as goal

pub returns-then-retired-le-FINISHED_JOBS_KEPT : goal.returns-then-retired-le-FINISHED_JOBS_KEPT
returns-then-retired-le-FINISHED_JOBS_KEPT c =
    sym (few_kept c.args.self.now.jobs (omega (arith, c.retired.ensures, c.if-retired-le-FINISHED_JOBS_KEPT.true)))
