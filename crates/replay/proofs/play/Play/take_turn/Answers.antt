use Rattle.std.proofs.Common.{refl}
use Rattle.replay.proofs.PlayedTrace.{took_turn}
use Rattle.replay.proofs.play.Play.take_turn.Goals as goal

pub returns : goal.returns
returns c = took_turn c.args.self.now _ _ _ refl c.turn.ensures refl refl refl
