-- The end of jobs that devices began.
use Rattle.std.specs.Prelude.{ℕ, ◌==◌, Bool, false, List, [], ◌∷◌, Option, option_map, slice_get}
use Rattle.std.specs.Option.{option_map_or}
use Rattle.base_types.specs.Device.{Device}
use Rattle.base_types.specs.declared.device.Activity.{Activity}
use Rattle.spool.specs.Jobs.{job_at}
use Rattle.print_room.specs.Activity.{job_on}
use Rattle.print_room.specs.declared.started.Started.{Started}
use Rattle.server.specs.State.{EngineState}
use Rattle.server.specs.declared.note_log.LoggedNote.{LoggedNote}
use Rattle.server.specs.declared.note_log.LoggedNote.TheVariants as hear
use Rattle.server_log.specs.declared.running_jobs.Ended.{Ended}

-- the job that was begun according to a note
abbrev pub begun_by : LoggedNote → List Started
begun_by (hear.Began started) = started ∷ []
begun_by _ = []

-- whether a device with this activity has a job
abbrev pub is_at : Activity → ℕ → Bool
is_at activity id = option_map_or (λ job. job == id) (job_on activity) false

-- whether there is a device, and it has a job
abbrev pub has_job : Option Device → ℕ → Bool
has_job device id = option_map_or (λ d. is_at d.activity id) device false

-- whether a job is still on the device that began it
abbrev pub is_on : EngineState → Started → Bool
is_on e started = has_job (slice_get e.core.devices started.device) started.job

-- a job that was begun, with its state now, if the server keeps it
abbrev pub ended_in : EngineState → Started → Ended
ended_in e started = record { started = started; state = option_map (λ job. job.state) (job_at started.job e.core.spool.jobs) }
