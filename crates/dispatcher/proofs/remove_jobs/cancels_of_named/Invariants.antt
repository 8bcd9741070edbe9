use Rattle.std.proofs.Common.{◌≡◌, ◌++◌, map, filter, drop}
use Rattle.listings.specs.Removal.{is_named, named_jobs}
use Rattle.dispatcher.specs.RemoveJobs.{cancels_of_each}
use Rattle.dispatcher.proofs.remove_jobs.cancels_of_named.Given as goal

-- the appended cancels and the cancels for the jobs that are left are all cancels
abbrev pub invariant-loop-spooled : goal.invariant-loop-spooled
invariant-loop-spooled l =
    l.cancels.items ++ cancels_of_each (map (λ s. s.job.id) (filter (λ s. is_named l.printer l.request s.job) (drop l.spooled-index l.spooled-items))) l.room
    ≡ cancels_of_each (named_jobs l.printer l.request l.room) l.room
