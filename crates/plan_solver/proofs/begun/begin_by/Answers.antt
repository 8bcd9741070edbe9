use Rattle.std.proofs.Common.{◌++◌, List, ℕ, subst}
use Rattle.std.specs.List.Sorted.{IsPermutation}
use Rattle.std.proofs.lemmas.List.Sorted.{IsPermutation-trans}
use Rattle.plan_solver.proofs.LaidOutJobs.{begun_by}
use Rattle.plan_solver.proofs.begun.begin_by.Goals as goal

pub returns-then-fits : goal.returns-then-fits
returns-then-fits c =
    let laid = c.in_ok-begun.ensures {u = tt} in
    let fit = c.fits.ensures in
    let begun = c.in_ok-begun.begun in
    let all = subst (λ (l : List ℕ). IsPermutation l (begun.matching.jobs.items ++ begun.left.items)) c.deref-in-loop.ensures.value laid.jobs in
    begun_by c.args.costs.now begun c.fits.new.begun laid.laid_out fit.same fit.one_each (fit.fair c.if-fits.true) (fit.room c.if-fits.true) (IsPermutation-trans _ _ _ (c.in_ok-order.ensures {u = tt}) all)
