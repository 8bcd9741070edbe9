-- The finished jobs at the beginning of the list, which never become ready again.
use Rattle.std.specs.Prelude.{ℕ, zero, suc, ◌≡◌, true, List, [], ◌∷◌}
use Rattle.job_objects.specs.JobState.{is_finished}
use Rattle.spool.specs.Spooled.{SpooledRecord}

-- there are at least `count` jobs, and the first `count` are finished
abbrev pub AllFinished : ℕ → List SpooledRecord → Type 0
AllFinished zero jobs = Unit {0}
AllFinished (suc count) [] = ⊥
AllFinished (suc count) (spooled ∷ jobs) = (is_finished spooled.job.state ≡ true) × AllFinished count jobs
