use Rattle.std.proofs.Common.{◌≡◌, ◌∙◌, ℕ, ap}
use Rattle.print_room.specs.Dispatch.{beginning}
use Rattle.print_room.proofs.Starts.{begins_next, begins_devices}
use Rattle.print_room.proofs.JobsCanBegin.{can_next}
use Rattle.print_room.proofs.room.PrintRoom.start_all.Goals as goal

pub loop-start-preserved : goal.loop-start-preserved
loop-start-preserved c =
    let last = c.args.self.now.last in
    let so_far = c.loop-start.invariant in
    let is : c.begin.new.self ≡ beginning last c.start-item.result c.loop-start.self = c.begin.ensures ∙ ap (λ (now : ℕ). beginning now c.start-item.result c.loop-start.self) so_far.1 in (
      rw is (begins_next last c.loop-start.start-index c.deref-start-items.result.now c.start-item.result c.loop-start.self _ c.loop-start-test.true c.start-item.is so_far.0),
      rw is so_far.1,
      rw is (begins_devices last c.start-item.result c.loop-start.self ∙ so_far.2),
      rw is (can_next last c.loop-start.start-index c.deref-start-items.result.now c.start-item.result c.loop-start.self c.loop-start-test.true c.start-item.is so_far.3).1,
    )

pub begin-requires-clause-can : goal.begin-requires-clause-can
begin-requires-clause-can c =
    (can_next c.args.self.now.last c.loop-start.start-index c.deref-start-items.result.now c.start-item.result c.loop-start.self c.loop-start-test.true c.start-item.is c.loop-start.invariant.3).0
