use Rattle.plan_prices.proofs.Bounded.{job_prices_bounded, place_prices_bounded}
use Rattle.plan_prices.proofs.laws.fair_prices_bounded.Goals as goal

pub returns-clause-jobs : goal.returns-clause-jobs
returns-clause-jobs c = job_prices_bounded c.args.class.now c.args.priced.now.way c.args.priced.now.prices c.requires.fair c.ids-class.ensures.class c.requires.way

pub returns-clause-places : goal.returns-clause-places
returns-clause-places c = place_prices_bounded c.args.class.now c.args.priced.now.way c.args.priced.now.prices c.requires.fair c.ids-class.ensures.class c.requires.way
