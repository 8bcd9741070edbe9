use Rattle.std.proofs.Common.{◌≤◌, subst, sym, All}
use Rattle.std.proofs.lemmas.List.Elements.{All-append}
use Rattle.base_types.specs.declared.limits.TheConstants.Limits.{JOB_TIME}
use Rattle.print_room.specs.declared.started.Started.{Started}
use Rattle.print_room.proofs.Starts.{starts_step, all_option}
use Rattle.print_room.proofs.starting.starts_of.Goals as goal

pub loop-place-preserved : goal.loop-place-preserved
loop-place-preserved c =
    let Short : Started → Type 0 = λ start. start.time ≤ JOB_TIME in
    let found = c.start_on.ensures in
    let grown = c.in_ok-add_start.ensures {u = tt} in
    let before = c.loop-place.invariant in (
      starts_step c.args.now c.args.classes.now c.args.devices.now c.loop-place.place _ _ _ _ _ _ c.loop-place-test.true c.index-devices-place.is c.new.ensures found.start grown before.0,
      subst (All Short) (sym grown) (All-append Short _ _ before.1 (all_option Short _ found.short)),
    )
