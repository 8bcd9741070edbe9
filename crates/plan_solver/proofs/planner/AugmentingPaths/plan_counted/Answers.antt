use Rattle.std.proofs.lemmas.Result.{IfOk-weaker}
use Rattle.plan_prices.proofs.Duality.{best_from_fair}
use Rattle.plan_solver.proofs.planner.AugmentingPaths.plan_counted.Goals as goal

pub returns-clause-best : goal.returns-clause-best
returns-clause-best g c =
    IfOk-weaker c.plan.result _ _ (λ p is. best_from_fair (g.T.Times.class c.args.times.now) p.priced.way p.priced.prices c.plan.ensures.class is.is_way is.fair) c.plan.ensures.proved
