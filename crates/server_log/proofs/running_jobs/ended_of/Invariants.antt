use Rattle.std.proofs.Common.{◌≡◌, filter, map, not, take}
use Rattle.server_log.specs.RunningJobs.{ended_in, is_on}
use Rattle.server_log.proofs.running_jobs.ended_of.Given as goal

abbrev pub invariant-loop-started : goal.invariant-loop-started
invariant-loop-started g l = l.ended.items ≡ map (ended_in l.engine) (filter (λ started. not (is_on l.engine started)) (take l.started-index l.jobs))
