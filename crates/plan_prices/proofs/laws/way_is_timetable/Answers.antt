use Rattle.plan_prices.proofs.WayTimetable.{own_timetable, own_total, own_ends}
use Rattle.plan_prices.proofs.laws.way_is_timetable.Goals as goal

pub returns-clause-timetable : goal.returns-clause-timetable
returns-clause-timetable c = own_timetable c.args.class.now c.args.way.now c.requires

pub returns-clause-total : goal.returns-clause-total
returns-clause-total c = own_total c.args.class.now c.ids-class.ensures.class c.args.way.now c.requires

pub returns-clause-ends : goal.returns-clause-ends
returns-clause-ends c = own_ends c.args.class.now c.args.way.now c.requires
