use Rattle.plan_solver.proofs.planner.DenseAugmentingPathsPlanner.plan_class.Goals as goal

pub plan-requires-clause-able : goal.plan-requires-clause-able
plan-requires-clause-able c = rw c.new-counted.ensures.class c.requires
