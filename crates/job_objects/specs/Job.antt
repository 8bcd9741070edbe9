-- A job, as a plain record.
use Rattle.std.specs.Prelude.{ℕ, ◌≤◌, Bool, List, Option}
use Rattle.base_types.specs.Needs.{JobNeeds}
use Rattle.base_types.specs.declared.limits.TheConstants.Limits.{JOB_DOCUMENTS, JOB_OCTETS}
use Rattle.job_objects.specs.declared.job_state.JobState.{JobState}
use Rattle.job_objects.specs.declared.job.Canceler.{Canceler}

pub record JobRecord : Type 0 where
  pub id : ℕ
  pub owner : List ℕ
  pub name : List ℕ
  pub priority : ℕ
  pub needs : JobNeeds
  -- job-impressions, if the request had it and it wasn't negative
  pub impressions : Option ℕ
  pub state : JobState
  -- documents are still to come
  pub incoming : Bool
  pub held : Bool
  -- whether the last plan found no device for the job
  pub stranded : Bool
  -- the number of documents taken, and of their octets together
  pub documents : ℕ
  pub octets : ℕ
  pub canceled_by : Option Canceler
  pub created : ℕ
  pub started : Option ℕ
  pub finished : Option ℕ

-- the documents and the octets are within a job's limits
abbrev pub KeepsLimits : ℕ → ℕ → Type 0
KeepsLimits documents octets = (documents ≤ JOB_DOCUMENTS) × (octets ≤ JOB_OCTETS)
