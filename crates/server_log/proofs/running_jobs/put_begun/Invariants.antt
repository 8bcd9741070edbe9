use Rattle.std.proofs.Common.{◌≡◌, ◌++◌, flat_map, take}
use Rattle.server_log.specs.RunningJobs.{begun_by}
use Rattle.server_log.proofs.running_jobs.put_begun.Given as goal

abbrev pub invariant-loop-one : goal.invariant-loop-one
invariant-loop-one l = l.begun.items ≡ l.initial.begun.items ++ flat_map begun_by (take l.one-index l.notes)
