use Rattle.plan_checker.proofs.Plans.{yes_above_in_proved}
use Rattle.plan_checker.proofs.laws.proved_plan_is_yes.Goals as goal

pub returns : goal.returns
returns c = yes_above_in_proved c.args.plan.now c.requires
