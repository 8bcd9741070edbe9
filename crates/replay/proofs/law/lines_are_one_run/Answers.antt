use Rattle.replay.proofs.Runs.{lines_run}
use Rattle.replay.proofs.law.lines_are_one_run.Goals as goal

pub returns : goal.returns
returns c texts settings number lines output none gives = lines_run texts settings number lines output none gives
