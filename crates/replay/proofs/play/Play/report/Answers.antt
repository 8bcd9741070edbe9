use Rattle.std.proofs.Common.{refl}
use Rattle.replay.proofs.PlayedTrace.{calls}
use Rattle.replay.proofs.play.Play.report.Goals as goal

pub returns : goal.returns
returns c = calls c.args.self.now _ _ _ _ _ c.requires c.in_ok-report.ensures refl (c.in_ok-observed.ensures {u = tt}) refl refl
