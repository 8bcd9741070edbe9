use Rattle.std.proofs.Common.{◌≡◌, length}
use Rattle.spool.specs.Ready.{ready_rest}
use Rattle.spool.proofs.ready.ReadyIterator.next.Given as goal

abbrev pub invariant-loop-spooled : goal.invariant-loop-spooled
invariant-loop-spooled l = ready_rest l.self ≡ ready_rest l.initial.self

abbrev pub decreases-loop-spooled : goal.decreases-loop-spooled
decreases-loop-spooled l = length l.self.jobs.now
