use Rattle.std.proofs.Common.{◌≡◌, drop, length}
use Rattle.print_room.specs.Dispatch.{beginning_all}
use Rattle.print_room.specs.Beginning.{AllCanBegin}
use Rattle.print_room.proofs.room.PrintRoom.start_all.Given as goal

abbrev pub invariant-loop-start : goal.invariant-loop-start
invariant-loop-start l =
    (beginning_all l.initial.self.last (drop l.start-index l.start-items) l.self ≡ beginning_all l.initial.self.last l.start-items l.initial.self)
    × (l.self.last ≡ l.initial.self.last)
    × (length l.self.devices ≡ length l.initial.self.devices)
    × AllCanBegin l.initial.self.last (drop l.start-index l.start-items) l.self
