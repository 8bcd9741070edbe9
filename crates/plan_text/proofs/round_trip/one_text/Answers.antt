use Rattle.plan_text.proofs.DraftOfLines.{is_one_text}
use Rattle.plan_text.proofs.round_trip.one_text.Goals as goal

pub returns : goal.returns
returns c = is_one_text
