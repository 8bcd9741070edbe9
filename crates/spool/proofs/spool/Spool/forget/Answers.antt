use Rattle.std.proofs.Common.{◌∙◌, ap, sym}
use Rattle.spool.specs.Kept.{retained}
use Rattle.spool.specs.Jobs.{SpoolRecord}
use Rattle.spool.proofs.RemovedJobs.{retained_gone, all_kept, spool_is}
use Rattle.spool.proofs.spool.Spool.forget.Goals as goal

pub loop-place-preserved : goal.loop-place-preserved
loop-place-preserved c =
    let gone = ap (λ (s : SpoolRecord). retained s.jobs) c.remove.ensures ∙ retained_gone c.loop-place.self.jobs c.in-Some.place (sym c.outdated.ensures ∙ c.in-Some.is) in
    (gone ∙ c.loop-place.invariant.0, ap (λ (s : SpoolRecord). s.next) c.remove.ensures ∙ c.loop-place.invariant.1)

pub returns : goal.returns
returns c =
    let all = all_kept c.loop-place.self.jobs (sym c.outdated.ensures ∙ c.in_default.is) in
    c.note_finished.ensures
    ∙ spool_is c.loop-place.self (retained c.args.self.now.jobs) c.args.self.now.next (sym all ∙ c.loop-place.invariant.0) c.loop-place.invariant.1
