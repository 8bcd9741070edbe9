use Rattle.std.proofs.Common.{ℕ, ◌≡◌, unwrap_or}
use Rattle.print_room.specs.Gathered.{gathered_of, highest_within}
use Rattle.print_room.proofs.Planned.{PlannedAbove}
use Rattle.print_room.proofs.room.PrintRoom.planned_classes.Given as goal

abbrev pub invariant-loop-next : goal.invariant-loop-next
invariant-loop-next g l =
    PlannedAbove l.self l.fn.now (unwrap_or l.next 0) l.classes.items l.waits.items
    × (most : ℕ) × (unwrap_or l.next 0 ≡ highest_within most (gathered_of l.self))

abbrev pub decreases-loop-next : goal.decreases-loop-next
decreases-loop-next g l = unwrap_or l.next 0
