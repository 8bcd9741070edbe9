use Rattle.plan_text.proofs.Back.{plan_back}
use Rattle.plan_text.proofs.round_trip.text_read_back.Goals as goal

pub returns : goal.returns
returns c = plan_back c.args.plan.now c.requires
