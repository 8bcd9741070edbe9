use Rattle.std.proofs.Common.{◌≡◌, ◌++◌, drop}
use Rattle.traces.specs.Connections.{connections_text}
use Rattle.traces.proofs.print.put_connections.Given as goal

abbrev pub invariant-loop-connection : goal.invariant-loop-connection
invariant-loop-connection l = l.output.items ++ connections_text l.peers (drop l.connection-index l.connections) ≡ l.initial.output.items ++ connections_text l.peers l.connections
