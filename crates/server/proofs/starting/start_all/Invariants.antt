use Rattle.std.proofs.Common.{◌≡◌, drop}
use Rattle.server.specs.Polls.{alone}
use Rattle.server.specs.Happening.{Starts}
use Rattle.server.specs.State.{EngineState, with_slots}
use Rattle.server.proofs.DeviceOrders.{Continues}
use Rattle.server.proofs.starting.start_all.Given as goal

abbrev pub invariant-loop-started : goal.invariant-loop-started
invariant-loop-started g l =
    (a : EngineState) → a.core ≡ l.core → a.slots ≡ l.initial.connections.slots
    → Continues (alone g.N.Observer.notified) Starts l.started-items (drop l.started-index l.started-items) l.initial.notes a l.notes (with_slots l.connections.slots a) l.refused
