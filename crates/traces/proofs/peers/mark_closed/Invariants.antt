use Rattle.std.proofs.Common.{◌≡◌, ◌++◌, map, take, drop}
use Rattle.traces.specs.Connections.{seen}
use Rattle.traces.proofs.peers.mark_closed.Given as goal

abbrev pub invariant-loop-connection : goal.invariant-loop-connection
invariant-loop-connection l = l.connections ≡ map (seen l.peers) (take l.connection-index l.initial.connections) ++ drop l.connection-index l.initial.connections
