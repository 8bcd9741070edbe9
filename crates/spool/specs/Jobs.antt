-- The list of jobs, by rising id.
use Rattle.std.specs.Prelude.{ℕ, zero, suc, ◌≡◌, ◌<◌, ◌==◌, if◌then◌else◌, List, [], ◌∷◌, map, find, Option, option_map}
use Rattle.std.specs.Option.{option_map_or}
use Rattle.job_objects.specs.Job.{JobRecord}
use Rattle.job_objects.specs.declared.job_change.JobChange.{JobChange}
use Rattle.octets.specs.Document.{DocumentRecord}
use Rattle.spool.specs.Spooled.{SpooledRecord, handed_out}

pub record SpoolRecord : Type 0 where
  pub jobs : List SpooledRecord
  -- the id of the next job; above LAST_JOB_ID once all ids are used
  pub next : ℕ

abbrev pub spooled_at : ℕ → List SpooledRecord → Option SpooledRecord
spooled_at id jobs = find (λ s. id == s.job.id) jobs

abbrev pub job_at : ℕ → List SpooledRecord → Option JobRecord
job_at id jobs = option_map (λ s. s.job) (spooled_at id jobs)

-- the job of an id is changed
abbrev pub with_job : ℕ → (SpooledRecord → SpooledRecord) → List SpooledRecord → List SpooledRecord
with_job id change [] = []
with_job id change (spooled ∷ jobs) = if id == spooled.job.id then change spooled ∷ jobs else spooled ∷ with_job id change jobs

-- the job at a place is changed
abbrev pub map_at : ℕ → (SpooledRecord → SpooledRecord) → List SpooledRecord → List SpooledRecord
map_at place change [] = []
map_at zero change (spooled ∷ jobs) = change spooled ∷ jobs
map_at (suc place) change (spooled ∷ jobs) = spooled ∷ map_at place change jobs

-- the documents that the job of an id hands out for a change that its device reports
abbrev pub documents_released : ℕ → JobChange → List SpooledRecord → List DocumentRecord
documents_released id change jobs = option_map_or (handed_out change) (spooled_at id jobs) []

-- ---- the jobs as the entries of a map

-- each key is the id of its job, and the ids rise and are below the next id
abbrev pub Keyed : List (ℕ × SpooledRecord) → ℕ → ℕ → Type 0
Keyed [] low next = Unit {0}
Keyed (e ∷ es) low next = (e.0 ≡ e.1.job.id) × (low < e.0) × (e.0 < next) × Keyed es e.0 next

abbrev pub jobs_of : List (ℕ × SpooledRecord) → List SpooledRecord
jobs_of entries = map (λ e. e.1) entries
