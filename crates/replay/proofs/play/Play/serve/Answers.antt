use Rattle.std.proofs.Common.{refl, rules}
use Rattle.replay.proofs.PlayedTrace.{serves}
use Rattle.replay.proofs.play.Play.serve.Goals as goal

pub returns : goal.returns
returns c = serves c.args.self.now _ _ _ _ _ _ _ c.requires c.in_ok-served.ensures (c.in_ok-text.ensures {u = tt}) (c.in_ok-observed.ensures {u = tt}) (search rules) refl refl
