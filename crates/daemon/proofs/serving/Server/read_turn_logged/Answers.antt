use Rattle.daemon.proofs.Turns.{then_rests}
use Rattle.daemon.proofs.Journal.{files_then}
use Rattle.daemon.proofs.serving.Server.read_turn_logged.Goals as goal

pub returns-clause-turn : goal.returns-clause-turn
returns-clause-turn c = then_rests _ _ c.args.self.now c.take-taken.new.self c.lines_of.new.self c.take-taken.ensures.turn c.lines_of.ensures

pub returns-clause-filed : goal.returns-clause-filed
returns-clause-filed c = files_then c.args.self.now c.take-taken.new.self _ c.take-taken.ensures.filed c.lines_of.ensures
