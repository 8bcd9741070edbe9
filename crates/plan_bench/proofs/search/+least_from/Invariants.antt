use Rattle.plan_bench.proofs.search.+least_from.Given as goal

abbrev pub decreases-least_from : goal.decreases-least_from
decreases-least_from l = l.left
