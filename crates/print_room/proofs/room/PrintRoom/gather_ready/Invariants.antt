use Rattle.std.proofs.Common.{◌≡◌, map, take}
use Rattle.spool.specs.Ready.{ready_jobs}
use Rattle.print_room.specs.Gathered.{gathered}
use Rattle.print_room.proofs.room.PrintRoom.gather_ready.Given as goal

abbrev pub invariant-loop-spooled : goal.invariant-loop-spooled
invariant-loop-spooled l = l.ready.items ≡ map (gathered l.self) (ready_jobs l.self.paused (take l.spooled-index l.spooled-items))
