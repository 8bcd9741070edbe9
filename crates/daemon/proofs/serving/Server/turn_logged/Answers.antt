use Rattle.daemon.proofs.Turns.{then_rests}
use Rattle.daemon.proofs.serving.Server.turn_logged.Goals as goal

pub returns : goal.returns
returns c = then_rests _ _ c.args.self.now c.take-taken.new.self c.lines_of.new.self c.take-taken.ensures.turn c.lines_of.ensures
