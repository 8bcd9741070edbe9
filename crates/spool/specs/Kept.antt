-- The finished jobs that are kept for queries.
use Rattle.std.specs.Prelude.{ℕ, Bool, not, ◌||◌, ◌&&◌, ◌==◌, nat_lt, if◌then◌else◌, List, filter, count_by, unwrap_or}
use Rattle.base_types.specs.declared.limits.TheConstants.Limits.{FINISHED_JOBS_KEPT}
use Rattle.job_objects.specs.declared.job_change.JobChange.{JobChange}
use Rattle.job_objects.specs.JobStep.{ends_print}
use Rattle.spool.specs.Spooled.{SpooledRecord, is_retired, reported}
use Rattle.spool.specs.Jobs.{with_job}

-- the moment at which a job was finished
abbrev pub end_of : SpooledRecord → ℕ
end_of spooled = unwrap_or spooled.job.finished 0

-- whether the first job was finished later than the second; at the same moment the job of the greater id counts as later
abbrev pub is_later : SpooledRecord → SpooledRecord → Bool
is_later first second = nat_lt (end_of second) (end_of first) || ((end_of first == end_of second) && nat_lt second.job.id first.job.id)

-- the number of retired jobs that were finished later than this job
abbrev pub later_jobs : List SpooledRecord → SpooledRecord → ℕ
later_jobs jobs spooled = count_by (λ other. is_retired other && is_later other spooled) jobs

-- a retired job is kept while fewer than FINISHED_JOBS_KEPT retired jobs were finished later; any other job is kept
abbrev pub is_kept : List SpooledRecord → SpooledRecord → Bool
is_kept jobs spooled = not (is_retired spooled) || nat_lt (later_jobs jobs spooled) FINISHED_JOBS_KEPT

-- the jobs that are kept
abbrev pub retained : List SpooledRecord → List SpooledRecord
retained jobs = filter (is_kept jobs) jobs

-- the jobs after a device's change of the job of an id; if the change ends the print, finished jobs may be forgotten
abbrev pub jobs_reported : ℕ → JobChange → ℕ → List SpooledRecord → List SpooledRecord
jobs_reported id change now jobs = if ends_print change then retained (with_job id (reported change now) jobs) else with_job id (reported change now) jobs
