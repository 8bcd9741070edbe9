use Rattle.std.proofs.Common.{◌≡◌, map, filter, take}
use Rattle.print_room.specs.Gathered.{is_of_class, class_job_of}
use Rattle.print_room.proofs.ready.class_jobs.Given as goal

abbrev pub invariant-loop-job : goal.invariant-loop-job
invariant-loop-job l = l.jobs.items ≡ map class_job_of (filter (is_of_class l.priority) (take l.job-index l.ready))
