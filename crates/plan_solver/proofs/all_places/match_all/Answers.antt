use Rattle.std.proofs.Common.{arith}
use Rattle.plan_solver.proofs.all_places.match_all.Goals as goal

pub solve-requires : goal.solve-requires
solve-requires c = λ lt. omega (arith, (c.requires.placed 0 lt).1)
