use Rattle.std.proofs.Common.{subst}
use Rattle.plan_prices.proofs.Timetables.{best_of_timetables}
use Rattle.plan_checker.specs.Beside.{alone}
use Rattle.plan_checker.specs.Verdict.{IsVerdict}
use Rattle.plan_checker.proofs.Proved.{yes_from_proved, proved_from_yes, only_yes, best_from_proved, nothing_elsewhere, nothing_above}
use Rattle.plan_checker.proofs.class_verdict.check_class.Goals as goal

pub returns-clause-yes : goal.returns-clause-yes
returns-clause-yes c =
    let k = c.args.class.now in
    let p = c.args.priced.now in (
      (λ e. proved_from_yes alone k c.ids-class.ensures.class p.way p.prices p.total c.requires.queues c.requires.places (subst (IsVerdict alone k p.way p.prices p.total) e c.judge.ensures)),
      λ h. only_yes alone k p.way p.prices p.total (yes_from_proved k p.way p.prices p.total h alone (nothing_elsewhere k) (nothing_above k)) c.judge.result c.judge.ensures,
    )

pub returns-clause-best : goal.returns-clause-best
returns-clause-best c =
    let k = c.args.class.now in
    let p = c.args.priced.now in
    λ e. best_from_proved k c.ids-class.ensures.class p.way p.prices p.total
    (proved_from_yes alone k c.ids-class.ensures.class p.way p.prices p.total c.requires.queues c.requires.places (subst (IsVerdict alone k p.way p.prices p.total) e c.judge.ensures))

pub returns-clause-timetables : goal.returns-clause-timetables
returns-clause-timetables c =
    let k = c.args.class.now in
    let p = c.args.priced.now in
    λ e slots timetable. best_of_timetables k p.way c.ids-class.ensures.class
    (best_from_proved k c.ids-class.ensures.class p.way p.prices p.total
    (proved_from_yes alone k c.ids-class.ensures.class p.way p.prices p.total c.requires.queues c.requires.places (subst (IsVerdict alone k p.way p.prices p.total) e c.judge.ensures)))
    slots timetable
