use Rattle.plan_prices.proofs.Duality.{best_from_fair}
use Rattle.plan_prices.proofs.laws.fair_is_best.Goals as goal

pub returns : goal.returns
returns c = best_from_fair c.args.class.now c.args.priced.now.way c.args.priced.now.prices c.ids-class.ensures.class c.requires.way c.requires.fair
