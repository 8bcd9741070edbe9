use Rattle.std.proofs.Common.{ℕ, List, Option, ap, subst, rules}
use Rattle.base_types.specs.Needs.{JobNeeds}
use Rattle.plan_problem.specs.ClassJob.{JobOfClass}
use Rattle.plan_problem.specs.Alike.{FromAlike}
use Rattle.plan_problem.proofs.Rows.{rows_more, tells_alike, built_is_class, built_is_class_of}
use Rattle.plan_problem.proofs.class_job.build.Goals as goal

pub loop-job-preserved : goal.loop-job-preserved
loop-job-preserved c =
    rw (c.in_ok-push.ensures.items, c.in_ok-push-2.ensures.items)
    (rows_more c.args.jobs.now c.args.devices.now c.args.printers.now c.loop-job.job-index c.loop-job.ids.items c.loop-job.rows.items c.job.inside.id c.job-item.result c.in_ok-row.row
    c.loop-job.invariant (search rules) (search rules) (ap (λ j. j.id) c.job.view_is) c.in_ok-row.ensures)

pub job_row-requires-clause-alike : goal.job_row-requires-clause-alike
job_row-requires-clause-alike c =
    let jobs : List JobOfClass = c.args.jobs.now in
    let rows : List (List (Option ℕ)) = c.loop-job.rows.items in
    let needs : JobNeeds = c.job-item.result.needs in
    let times : List (Option ℕ) = c.times_of_alike-alike.result.now in
    let alike : FromAlike jobs rows needs times =
    subst (λ (wanted : JobNeeds). FromAlike jobs rows wanted times) (ap (λ j. j.needs) c.job.view_is)
    (subst (λ (known : List (List (Option ℕ))). FromAlike jobs known c.job.inside.needs.now times) c.deref.ensures.value c.times_of_alike-alike.ensures) in
    tells_alike jobs c.args.devices.now c.args.printers.now c.loop-job.job-index c.loop-job.ids.items rows needs times c.loop-job.invariant alike

pub from_rows-requires : goal.from_rows-requires
from_rows-requires c = built_is_class c.args.jobs.now c.args.devices.now c.args.printers.now c.args.waits.items c.loop-job.job-index c.loop-job.ids.items c.loop-job.rows.items c.requires c.loop-job.invariant (search rules)

pub returns : goal.returns
returns c = rw c.from_rows.ensures (built_is_class_of c.args.jobs.now c.args.devices.now c.args.printers.now c.args.waits.items c.loop-job.job-index c.loop-job.ids.items c.loop-job.rows.items c.requires c.loop-job.invariant (search rules))
