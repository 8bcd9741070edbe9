use Rattle.std.proofs.Common.{◌≡◌, map}
use Rattle.journal.specs.File.{KeepsPlayed}
use Rattle.journal.proofs.submitting.submit_all.Given as goal

abbrev pub invariant-loop-job : goal.invariant-loop-job
invariant-loop-job g l =
    (goal.iterator-loop-job g).can_next l.job-iterator
    × (goal.iterator-loop-job g).is_finite l.job-iterator
    × (map (λ r. r.job) l.resubmitted.items ≡ l.yielded)
    × KeepsPlayed (g.T.Storage.stored l.initial.storage) l.initial.engine (g.T.Storage.stored l.storage) l.engine
