use Rattle.std.proofs.Common.{◌≡◌, map, filter, take}
use Rattle.journal.specs.Saved.{saved_of, is_among}
use Rattle.journal.proofs.saving.saved_jobs.Given as goal

abbrev pub invariant-loop-spooled : goal.invariant-loop-spooled
invariant-loop-spooled l = l.jobs.items ≡ map (saved_of l.settings) (filter (λ s. is_among l.which s.job.state) (take l.spooled-index l.spooled-items))
