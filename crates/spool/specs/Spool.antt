-- The invariant of a spool.
use Rattle.std.specs.Prelude.{◌≤◌, map, All}
use Rattle.std.specs.List.Sorted.{IsStrictlyIncreasing}
use Rattle.base_types.specs.Ranges.{IsJobId}
use Rattle.base_types.specs.declared.limits.TheConstants.Limits.{UNFINISHED_JOBS}
use Rattle.spool.specs.Jobs.{SpoolRecord}
use Rattle.spool.specs.Calls.{unfinished_jobs}
use Rattle.spool.specs.Sound.{IsSound}

-- the ids of the jobs rise within their range, at most UNFINISHED_JOBS jobs are unfinished, and each job fits its state
pub record IsSpool (spool : SpoolRecord) : Type 0 where
  pub rising : IsStrictlyIncreasing (map (λ s. s.job.id) spool.jobs)
  pub in_range : All (λ s. IsJobId s.job.id) spool.jobs
  pub few_unfinished : unfinished_jobs spool.jobs ≤ UNFINISHED_JOBS
  pub sound : All IsSound spool.jobs
