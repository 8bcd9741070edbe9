-- The jobs that may be planned.
use Rattle.std.specs.Prelude.{Bool, List, map, filter}
use Rattle.job_objects.specs.Job.{JobRecord}
use Rattle.spool.specs.Spooled.{SpooledRecord}
use Rattle.spool.specs.Calls.{is_ready}
use Rattle.spool.specs.declared.ready.Ready.{Ready}

-- the ready jobs among these; `paused` states which printers are paused
abbrev pub ready_jobs : List Bool → List SpooledRecord → List JobRecord
ready_jobs paused jobs = filter (is_ready paused) (map (λ s. s.job) jobs)

-- the jobs that the iterator still has
abbrev pub ready_rest : Ready → List JobRecord
ready_rest ready = ready_jobs ready.printers.now ready.jobs.now
