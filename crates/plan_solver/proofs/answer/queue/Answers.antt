use Rattle.std.proofs.Common.{◌≡◌, ◌-◌, ◌<◌, ap, sym, ◌∙◌, length, get_or, arith}
use Rattle.std.proofs.lemmas.List.{get_or_read}
use Rattle.plan_solver.specs.declared.costs.Place.{Place}
use Rattle.plan_solver.specs.Costs.{nowhere}
use Rattle.plan_solver.proofs.Queues.{queue_more}
use Rattle.plan_solver.proofs.answer.queue.Goals as goal

pub loop-column-preserved-in-Continue-1 : goal.loop-column-preserved-in-Continue-1
loop-column-preserved-in-Continue-1 c =
    let s = c.args.matching.now in
    let column = c.loop-column.column - 1 in
    let below : column < length s.columns.items = omega (arith, c.loop-column-test.true, c.loop-column.auto.column, c.len-column.ensures, s.columns.ok.0) in
    let place : c.index.result.now ≡ get_or s.columns.items column nowhere = get_or_read s.columns.items column _ below c.index.ensures nowhere in
    let job : c.index-then-index-device.result.now ≡ get_or s.jobs.items column 0 = get_or_read s.jobs.items column _ (omega (arith, below, c.requires.jobs_len, s.columns.ok.0, s.jobs.ok.0)) c.index-then-index-device.ensures 0 in
    let known : c.index-then-index-device.result.now < length c.args.ids.now = rw job (c.requires.known column (omega (arith, below, c.requires.jobs_len, s.columns.ok.0))) in
    queue_more c.args.device c.args.ids.now s.columns.items s.jobs.items c.loop-column.column column c.index-ids-index.result c.loop-column.jobs.items _ _
    (omega (arith, c.loop-column-test.true))
    (ap (λ (p : Place). p.device) (sym place) ∙ omega (arith, c.if-index-device.true))
    (get_or_read c.args.ids.now c.index-then-index-device.result.now _ known c.index-ids-index.is 0 ∙ ap (λ k. get_or c.args.ids.now k 0) job)
    (c.in_ok-push.ensures {u = tt}).items
    c.loop-column.invariant
