use Rattle.std.proofs.Common.{[], ◌≤◌, length}
use Rattle.http_front.specs.Stream.{Advances, work}
use Rattle.http_front.proofs.reader.HttpReader.next_item.Given as goal

abbrev pub invariant-loop-item : goal.invariant-loop-item
invariant-loop-item l = Advances l.initial.self [] l.self × (work l.self ≤ work l.initial.self)

abbrev pub decreases-loop-item : goal.decreases-loop-item
decreases-loop-item l = length l.self.rest
