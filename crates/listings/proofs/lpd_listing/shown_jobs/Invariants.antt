use Rattle.std.proofs.Common.{◌≡◌, ◌++◌, map, filter, drop}
use Rattle.listings.specs.QueueListing.{entry_of}
use Rattle.listings.specs.Operand.{is_shown}
use Rattle.listings.proofs.lpd_listing.shown_jobs.Given as goal

-- the appended jobs and the jobs that are left are all jobs
abbrev pub invariant-loop-entry : goal.invariant-loop-entry
invariant-loop-entry l =
    l.jobs.items ++ map (entry_of l.room) (filter (is_shown l.operands) (map (λ e. e.job) (drop l.entry-index l.entry-items)))
    ≡ map (entry_of l.room) (filter (is_shown l.operands) (map (λ e. e.job) l.entry-items))
