use Rattle.std.proofs.Common.{◌≡◌, ◌++◌, drop}
use Rattle.std.specs.List.{flat_map}
use Rattle.ipp_operations.specs.QueueText.{line_of}
use Rattle.ipp_operations.proofs.queue_text.put_each.Given as goal

-- the lines so far, and those of the jobs that are left, are all
abbrev pub invariant-loop-job : goal.invariant-loop-job
invariant-loop-job l = l.text.items ++ flat_map (line_of l.form) (drop l.job-index l.jobs) ≡ l.initial.text.items ++ flat_map (line_of l.form) l.jobs
