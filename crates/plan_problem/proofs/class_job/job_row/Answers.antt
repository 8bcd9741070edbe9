use Rattle.std.proofs.Common.{◌≡◌, ◌∙◌, ℕ, List, Some, sym, ap, subst, rules}
use Rattle.std.specs.Prelude.{slice_get}
use Rattle.std.proofs.lemmas.Option.{slice_get-get_or}
use Rattle.base_types.specs.Device.{Device}
use Rattle.base_types.specs.Needs.{JobNeeds}
use Rattle.plan_problem.specs.Alike.{TellsAble}
use Rattle.plan_problem.specs.ClassJob.{printer_of}
use Rattle.plan_problem.proofs.Rows.{row_more, row_of_job, printer_is}
use Rattle.plan_problem.proofs.class_job.job_row.Goals as goal

pub pair_time-requires : goal.pair_time-requires
pair_time-requires c =
    let needs : c.job.inside.needs.now ≡ c.args.job.now.needs = ap (λ j. j.needs) c.job.view_is in
    let printer : c.index-printers-place.result ≡ printer_of c.args.job.now.needs c.args.printers.now = printer_is c.args.job.now.needs c.args.printers.now c.place.result c.index-printers-place.result (search rules) c.requires.known_printer c.index-printers-place.is in
    let place : ℕ = c.loop-place.place in
    let device : Device = c.index-devices-place.result in
    let found : slice_get c.args.devices.now place ≡ Some device = slice_get-get_or c.args.devices.now place device c.loop-place-test.true ∙ ap Some (sym c.index-devices-place.is) in
    subst (λ (at : ℕ). TellsAble c.job.inside.needs.now at device c.index-printers-place.result c.args.alike.now) (sym c.new-place.ensures)
    (subst (λ (wanted : JobNeeds). TellsAble wanted place device c.index-printers-place.result c.args.alike.now) (sym needs)
    (subst (λ (set : List ℕ). TellsAble c.args.job.now.needs place device set c.args.alike.now) (sym printer) (c.requires.alike place device found)))

pub loop-place-preserved : goal.loop-place-preserved
loop-place-preserved c =
    rw c.in_ok-push.ensures.items
    (row_more c.job.inside.needs.now c.args.devices.now c.index-printers-place.result c.loop-place.place c.loop-place.times.items c.new-place.result c.index-devices-place.result c.pair_time.result
    c.loop-place.invariant (search rules) (search rules) (search rules) c.pair_time.ensures.pair c.pair_time.ensures.in_range)

pub returns : goal.returns
returns c =
    let needs : c.job.inside.needs.now ≡ c.args.job.now.needs = ap (λ j. j.needs) c.job.view_is in
    let printer = printer_is c.args.job.now.needs c.args.printers.now c.place.result c.index-printers-place.result (search rules) c.requires.known_printer c.index-printers-place.is in
    rw c.new.ensures (row_of_job c.args.job.now.needs c.args.devices.now c.args.printers.now c.job.inside.needs.now c.index-printers-place.result c.loop-place.place c.loop-place.times.items needs printer c.loop-place.invariant (search rules))
