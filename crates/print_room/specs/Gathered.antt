-- The ready jobs, read once for a plan: each with its cause, if no device can print it.
use Rattle.std.specs.Prelude.{ℕ, ◌==◌, ◌&&◌, nat_le, max, Bool, is_none, if◌then◌else◌, List, [], ◌∷◌, map, Option, option_map}
use Rattle.base_types.specs.Needs.{JobNeeds}
use Rattle.base_types.specs.declared.needs.Cause.{Cause}
use Rattle.base_types.specs.declared.needs.Stranded.{Stranded}
use Rattle.job_objects.specs.Job.{JobRecord}
use Rattle.plan_problem.specs.ClassJob.{JobOfClass}
use Rattle.print_room.specs.State.{State}
use Rattle.print_room.specs.Ready.{ready_of, cause_in}

pub record Gathered : Type 0 where
  pub id : ℕ
  pub needs : JobNeeds
  pub priority : ℕ
  -- the cause, if no device of the job's printer can print it
  pub cause : Option Cause

abbrev pub gathered : State → JobRecord → Gathered
gathered state job = record { id = job.id; needs = job.needs; priority = job.priority; cause = cause_in state job }

-- the ready jobs of a state, by rising id
abbrev pub gathered_of : State → List Gathered
gathered_of state = map (gathered state) (ready_of state)

-- the entry of the job, if no device can print it
abbrev pub entry_of : Gathered → Option Stranded
entry_of ready = option_map (λ cause. record { job = ready.id; cause = cause }) ready.cause

-- whether the job has the priority and some device can print it
abbrev pub is_of_class : ℕ → Gathered → Bool
is_of_class priority ready = (ready.priority == priority) && is_none ready.cause

abbrev pub class_job_of : Gathered → JobOfClass
class_job_of ready = record { id = ready.id; needs = ready.needs }

-- the job's priority, if that is at most a level and some device can print the job; else 0
abbrev pub level_within : ℕ → Gathered → ℕ
level_within most ready = if nat_le ready.priority most && is_none ready.cause then ready.priority else 0

-- the highest of these priorities
abbrev pub highest_within : ℕ → List Gathered → ℕ
highest_within most [] = 0
highest_within most (ready ∷ others) = max (level_within most ready) (highest_within most others)
