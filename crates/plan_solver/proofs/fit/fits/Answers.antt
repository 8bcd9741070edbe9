use Rattle.std.proofs.Common.{ℕ, ◌<◌, List, subst, vec_len}
use Rattle.plan_solver.specs.Begun.{IsFairBeside}
use Rattle.plan_solver.proofs.LaidOutJobs.{fair_free_from}
use Rattle.plan_solver.proofs.fit.fits.Goals as goal

pub renew_slacks-requires-clause-fair : goal.renew_slacks-requires-clause-fair
renew_slacks-requires-clause-fair c =
    let s = c.args.begun.now.matching in
    fair_free_from c.args.costs.now c.args.begun.now c.requires
    (subst (λ (l : List (List ℕ)). (q : ℕ) → q < vec_len s.columns → IsFairBeside c.args.costs.now l s q) c.deref.ensures.value (c.all_fair.ensures.next c.if-not-all_fair.false))
