use Rattle.std.proofs.Common.{rules}
use Rattle.server.proofs.TurnsAndTicks.{starts}
use Rattle.server.proofs.engine.Engine.starting_at.Goals as goal

pub returns : goal.returns
returns g c = starts _ _ (search rules)
