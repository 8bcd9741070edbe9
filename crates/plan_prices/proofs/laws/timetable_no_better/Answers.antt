use Rattle.plan_prices.proofs.Timetables.{way_of_timetable}
use Rattle.plan_prices.proofs.laws.timetable_no_better.Goals as goal

pub returns : goal.returns
returns c = λ slots timetable. way_of_timetable c.args.class.now slots c.ids-class.ensures.class timetable
