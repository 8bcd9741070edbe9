use Rattle.std.proofs.Common.{◌≡◌, ◌++◌, nat_lt, length, drop}
use Rattle.connections.specs.SendQueue.{joined}
use Rattle.connections.proofs.queue.SendQueue.is_above.Given as goal

abbrev pub invariant-loop-rest : goal.invariant-loop-rest
invariant-loop-rest l = nat_lt l.limit (length l.self) ≡ nat_lt l.room (length (joined (drop l.rest-index l.rest-items) ++ l.self-inside.text.items))
