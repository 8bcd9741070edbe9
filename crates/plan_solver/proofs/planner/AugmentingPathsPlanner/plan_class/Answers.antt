use Rattle.plan_solver.proofs.planner.AugmentingPathsPlanner.plan_class.Goals as goal

pub plan_counted-requires-clause-able : goal.plan_counted-requires-clause-able
plan_counted-requires-clause-able c = rw c.new-counted.ensures.class c.requires
