use Rattle.std.proofs.Common.{refl}
use Rattle.replay.proofs.PlayedTrace.{printed_moment}
use Rattle.replay.proofs.play.Play.give.Goals as goal

pub returns-in-At : goal.returns-in-At
returns-in-At c = printed_moment c.args.self.now _ _ c.in-At.moment _ c.requires c.in-At.is c.new.ensures.items refl refl refl refl
