use Rattle.std.proofs.lemmas.List.Edits.{map_over_more}
use Rattle.traces.specs.Connections.{emptied}
use Rattle.traces.proofs.peers.empty_all.Goals as goal

pub loop-peer-preserved : goal.loop-peer-preserved
loop-peer-preserved c =
    rw (c.empty.ensures, ← c.peer-item.is)
    (map_over_more emptied c.args.peers.now c.loop-peer.peers c.loop-peer.peer-index c.peer-item.result c.loop-peer-test.true c.loop-peer.invariant c.peer-item.is)
