use Rattle.std.proofs.Common.{refl}
use Rattle.replay.proofs.PlayedTrace.{ran}
use Rattle.replay.proofs.play.Play.run.Goals as goal

pub returns : goal.returns
returns c =
    let prints = c.in_ok-print.ensures {u = tt} in
    ran c.args.self.now c.take_turns.new.self _ _ _ c.requires c.take_turns.ensures c.if-self.false (c.in_ok-text.ensures {u = tt}) prints.printed prints.leaves.connections prints.leaves.peers refl refl prints.leaves.failed
