use Rattle.std.proofs.Common.{◌≡◌, ◌<◌, ◌∙◌, length, vec_len, get_or, refl, arith}
use Rattle.std.proofs.lemmas.List.{get_or_read}
use Rattle.plan_solver.specs.Costs.{cost_of, nowhere}
use Rattle.plan_solver.proofs.Queues.{cost_of_columns-fits}
use Rattle.plan_solver.proofs.answer.total.Goals as goal

pub overflow_add-sum : goal.overflow_add-sum
overflow_add-sum c =
    let s = c.args.matching.now in
    let costs = c.args.costs.now in
    let column = c.loop-column.column in
    let below : column < length s.columns.items = omega (arith, c.loop-column-test.true, c.len-column-end.ensures, s.columns.ok.0) in
    let place : c.index-in-loop-column.result.now ≡ get_or s.columns.items column nowhere = get_or_read s.columns.items column _ below c.index-in-loop-column.ensures nowhere in
    let job : c.index.result.now ≡ get_or s.jobs.items column 0 = get_or_read s.jobs.items column _ (omega (arith, below, c.requires.len, s.columns.ok.0, s.jobs.ok.0)) c.index.ensures 0 in
    let cost : c.cost-sum.result ≡ cost_of costs (get_or s.jobs.items column 0) (get_or s.columns.items column nowhere) = c.cost-sum.ensures.value ∙ rw (c.deref.ensures.value, c.row.ensures, job, place) refl in
    omega (arith, cost_of_columns-fits costs s.columns.items s.jobs.items column (vec_len s.columns) c.cost-sum.result (omega (arith, below, s.columns.ok.0)) cost, c.loop-column.invariant, c.requires.fits)
