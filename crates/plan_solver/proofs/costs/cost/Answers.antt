use Rattle.std.proofs.Common.{arith, sym}
use Rattle.std.proofs.lemmas.Grind.{elements}
use Rattle.plan_solver.proofs.Charges.{cost_at-some, cost_at-unknown, cost_at-untimed}
use Rattle.plan_solver.proofs.costs.cost.Goals as goal

pub returns-in-Some-Some-clause-value : goal.returns-in-Some-Some-clause-value
returns-in-Some-Some-clause-value c =
    let s = c.in-Some-Some in
    cost_at-some c.args.waits.now c.args.row.now c.args.place s.time.now s.wait.now _ (grind (arith, elements)) (grind (arith, elements)) c.cost_with.ensures

pub returns-in_default-clause-value : goal.returns-in_default-clause-value
returns-in_default-clause-value c = sym (cost_at-unknown c.args.waits.now c.args.row.now c.args.place (grind (arith, elements)))

pub returns-in_default-2-clause-value : goal.returns-in_default-2-clause-value
returns-in_default-2-clause-value c = sym (cost_at-untimed c.args.waits.now c.args.row.now c.args.place (grind (arith, elements)))
