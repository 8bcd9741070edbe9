use Rattle.plan_prices.proofs.Timetables.{best_of_timetables}
use Rattle.plan_prices.proofs.laws.best_at_most_timetables.Goals as goal

pub returns : goal.returns
returns c = best_of_timetables c.args.class.now c.args.way.now c.ids-class.ensures.class c.requires
