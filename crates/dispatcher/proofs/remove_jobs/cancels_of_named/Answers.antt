use Rattle.std.proofs.Common.{◌∙◌, ◌++◌, [], ap, subst}
use Rattle.std.specs.Prelude.{◌≢◌}
use Rattle.job_objects.specs.Job.{JobRecord}
use Rattle.dispatcher.specs.RemoveJobs.{cancels_if_named}
use Rattle.dispatcher.proofs.RemovalCancels.{added, on_err_so, some_sent}
use Rattle.dispatcher.proofs.remove_jobs.cancels_of_named.Goals as goal

pub returns-in_err-add_cancel-clause-err : goal.returns-in_err-add_cancel-clause-err
returns-in_err-add_cancel-clause-err c =
    let some = subst (λ (j : JobRecord). cancels_if_named c.args.printer c.args.request.now c.args.room.now j ≢ []) c.job.ensures (c.in_err-add_cancel.ensures {u = tt}).err in
    on_err_so c.from_residual.result (some_sent c.args.printer c.args.request.now c.args.room.now c.jobs-spooled-items.result.now c.loop-spooled.spooled-index c.spooled-item.result c.loop-spooled.cancels.items _ c.loop-spooled-test.true c.spooled-item.is some c.loop-spooled.invariant)

pub loop-spooled-preserved : goal.loop-spooled-preserved
loop-spooled-preserved c =
    let more = (c.in_ok-add_cancel.ensures {u = tt}).ok ∙ ap (λ (j : JobRecord). c.loop-spooled.cancels.items ++ cancels_if_named c.args.printer c.args.request.now c.args.room.now j) c.job.ensures in
    added c.args.printer c.args.request.now c.args.room.now c.jobs-spooled-items.result.now c.loop-spooled.spooled-index c.spooled-item.result c.loop-spooled.cancels.items c.add_cancel.new.cancels.items _ c.loop-spooled-test.true c.spooled-item.is more c.loop-spooled.invariant
