use Rattle.plan_checker.proofs.Proved.{short_lists}
use Rattle.plan_checker.proofs.totals.totals_agree.Goals as goal

pub sum_of_lists-requires-clause-short : goal.sum_of_lists-requires-clause-short
sum_of_lists-requires-clause-short c =
    rw c.places.ensures (short_lists c.args.class.now c.requires.class c.args.priced.now.way c.args.priced.now.prices c.requires.way c.requires.priced)
