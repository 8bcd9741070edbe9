use Rattle.server.proofs.Joins.{acts_broke}
use Rattle.server.proofs.engine.Engine.act.Goals as goal

pub returns-in-Broke : goal.returns-in-Broke
returns-in-Broke g c = acts_broke _ _ _ c.in-Broke.is c.place_of.ensures c.refused.ensures
