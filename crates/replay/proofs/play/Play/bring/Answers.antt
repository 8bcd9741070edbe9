use Rattle.std.proofs.Common.{refl}
use Rattle.std.proofs.lemmas.Result.{IfOk-weaker}
use Rattle.replay.proofs.PlayedTrace.{becomes, from_here, still_ready}
use Rattle.replay.proofs.play.Play.bring.Goals as goal

pub run-requires : goal.run-requires
run-requires c = still_ready c.args.self.now _ _ (becomes _ _ _ (c.in_ok-send.ensures {u = tt}) refl refl refl) c.requires

pub returns : goal.returns
returns c = IfOk-weaker c.run.result _ _ (λ text does. from_here c.args.self.now _ _ _ text.items (becomes _ _ _ (c.in_ok-send.ensures {u = tt}) refl refl refl) does) c.run.ensures
