use Rattle.std.proofs.Common.{◌≡◌, [], ◌∷◌, ◌++◌}
use Rattle.std.specs.List.Sorted.{IsPermutation}
use Rattle.std.proofs.lemmas.Result.{on_ok_weaker}
use Rattle.plan_solver.proofs.LaidOutJobs.{matched_more}
use Rattle.plan_solver.proofs.begun.match_or_leave.Goals as goal

pub returns-in-Some-clause-jobs : goal.returns-in-Some-clause-jobs
returns-in-Some-clause-jobs c =
    let old = c.args.begun.now in
    let new = c.match_at.new.begun in
    on_ok_weaker c.match_at.result (λ (e : (new.matching.jobs.items ≡ old.matching.jobs.items ++ c.args.job ∷ []) × (new.left ≡ old.left)).
    let moved : IsPermutation ((old.matching.jobs.items ++ old.left.items) ++ c.args.job ∷ []) (new.matching.jobs.items ++ new.left.items) = rw (e.0, e.1) (matched_more old.matching.jobs.items old.left.items c.args.job) in
    moved) c.match_at.ensures.jobs
