use Rattle.recordings.proofs.PlainPrefix.{all_plain, cut}
use Rattle.recordings.proofs.data.cut_special.Goals as goal

pub returns-clause-cut : goal.returns-clause-cut
returns-clause-cut c = cut _ c.in-Some.place _ _ _ _ c.in-Some.ensures c.split_at.ensures.front c.split_at.ensures.back (c.in_ok-byte.ensures {u = tt}).cases.0

pub returns-in_default-clause-none : goal.returns-in_default-clause-none
returns-in_default-clause-none c = all_plain _ c.in_default.ensures
