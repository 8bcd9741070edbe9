-- The job group of the response to a job creation (RFC 8011, section 4.2.1.2).
use Rattle.std.specs.Prelude.{ℕ, Bool, List, [], ◌∷◌, codes}
use Rattle.ipp_codec.specs.Message.{IppGroup}
use Rattle.ipp_codec.specs.Tag as tags
use Rattle.job_objects.specs.declared.job_state.JobState.{JobState}
use Rattle.job_objects.specs.declared.reason.JobReasons.{JobReasons}
use Rattle.job_objects.specs.Job.{JobRecord}
use Rattle.job_objects.specs.JobState.{state_code}
use Rattle.job_objects.specs.Reasons.{reasons_of}
use Rattle.printer_objects.specs.Attribute.{alone, text, number, enumerated, reasons_attribute}
use Rattle.printer_objects.specs.JobShown.{job_uri}

-- the job's URI, id, state and reasons, in this order
abbrev pub created_attributes : List ℕ → ℕ → JobState → JobReasons → IppGroup
created_attributes uri_base id state reasons = record {
  tag = tags.job_attributes;
  attributes = alone (codes "job-uri") (text tags.uri (job_uri uri_base id))
      ∷ alone (codes "job-id") (number id)
      ∷ alone (codes "job-state") (enumerated (state_code state))
      ∷ reasons_attribute (codes "job-state-reasons") reasons
      ∷ [];
}

-- the group before the state is added
abbrev pub named_group : List ℕ → ℕ → IppGroup
named_group uri_base id = record {
  tag = tags.job_attributes;
  attributes = alone (codes "job-uri") (text tags.uri (job_uri uri_base id)) ∷ alone (codes "job-id") (number id) ∷ [];
}

-- the group of a job; `paused` indicates whether its printer is paused
abbrev pub created_group : List ℕ → JobRecord → Bool → IppGroup
created_group uri_base job paused = created_attributes uri_base job.id job.state (reasons_of job paused)
