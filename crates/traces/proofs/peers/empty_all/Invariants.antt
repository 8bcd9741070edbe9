use Rattle.std.proofs.Common.{◌≡◌, ◌++◌, map, take, drop}
use Rattle.traces.specs.Connections.{emptied}
use Rattle.traces.proofs.peers.empty_all.Given as goal

abbrev pub invariant-loop-peer : goal.invariant-loop-peer
invariant-loop-peer l = l.peers ≡ map emptied (take l.peer-index l.initial.peers) ++ drop l.peer-index l.initial.peers
