use Rattle.journal.proofs.KeptJobs.{kept_at}
use Rattle.journal.proofs.submitting.is_kept.Goals as goal

pub returns-in-Some-spooled_at : goal.returns-in-Some-spooled_at
returns-in-Some-spooled_at c same =
    kept_at c.args.engine.now.core.settings c.settings.result.now c.args.engine.now.core.spool.jobs c.args.resubmitted.now.job c.args.resubmitted.now.new c.in-Some.id c.in-Some-spooled_at.spooled.now
    c.in-Some.is c.settings.ensures c.in-Some-spooled_at.ensures (c.is_same.ensures same)
