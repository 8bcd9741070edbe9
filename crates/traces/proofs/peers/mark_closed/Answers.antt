use Rattle.std.proofs.Common.{arith}
use Rattle.std.proofs.lemmas.List.{get_or_default}
use Rattle.std.proofs.lemmas.List.Edits.{map_over_more}
use Rattle.traces.specs.Connections.{seen}
use Rattle.traces.proofs.peers.mark_closed.Goals as goal

pub loop-connection-preserved : goal.loop-connection-preserved
loop-connection-preserved c =
    rw c.mark.ensures (map_over_more (seen c.args.peers.now) c.args.connections.now c.loop-connection.connections c.loop-connection.connection-index _ c.loop-connection-test.true c.loop-connection.invariant
    (get_or_default c.loop-connection.connections c.loop-connection.connection-index _ _ (omega (arith, c.loop-connection-test.true, c.loop-connection.auto.connections))))
