use Rattle.journal.proofs.SameJobs.{same_further}
use Rattle.journal.proofs.same.same_to.Goals as goal

pub returns-clause-same : goal.returns-clause-same
returns-clause-same c before =
    same_further c.args.first.now c.args.second.now c.args.start c.in_ok-count.count _ _ c.segment-segment.ensures c.segment-other.ensures c.in_ok-count.ensures.within.1 c.in_ok-count.ensures.within.2 c.in_ok-count.ensures.same before
