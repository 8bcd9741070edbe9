use Rattle.std.proofs.Common.{◌+◌, ◌≤◌, length}
use Rattle.std.specs.Vec.Iter.{into_iter_items}
use Rattle.dispatcher.specs.Run.{Run}
use Rattle.dispatcher.proofs.server_core.Core.run.Given as goal

abbrev pub invariant-loop-timed : goal.invariant-loop-timed
invariant-loop-timed g l =
    (goal.iterator-loop-timed g).can_next l.timed-iterator
    × (goal.iterator-loop-timed g).is_finite l.timed-iterator
    × Run g.L.Observer.notified l.initial.self l.initial.observer l.yielded l.handled.items l.self l.observer
    × (length l.handled.items + length (into_iter_items l.timed-iterator) ≤ l.handled.cap)
