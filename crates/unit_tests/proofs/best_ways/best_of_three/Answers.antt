use Rattle.std.proofs.Common.{refl}
use Rattle.unit_tests.proofs.best_ways.best_of_three.Goals as goal

pub plan_counted-requires-clause-able : goal.plan_counted-requires-clause-able
plan_counted-requires-clause-able g c = rw c.new-counted.ensures.class ((c.if-not-each_able.ensures {u = tt}).0 refl)
