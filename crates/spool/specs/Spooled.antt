-- A job with its documents, and the change that each call makes of it.
use Rattle.std.specs.Prelude.{ℕ, ◌+◌, ◌-◌, Bool, true, false, not, ◌&&◌, nat_le, if◌then◌else◌, List, [], ◌∷◌, ◌++◌, length}
use Rattle.std.specs.Option.{option_map_or}
use Rattle.base_types.specs.declared.limits.TheConstants.Limits.{INCOMING_JOB_TIME}
use Rattle.job_objects.specs.declared.job_change.JobChange.{JobChange}
use Rattle.job_objects.specs.declared.job_change.JobChange.TheVariants.{Begin, Fail}
use Rattle.job_objects.specs.JobState.{is_finished}
use Rattle.job_objects.specs.Job.{JobRecord}
use Rattle.job_objects.specs.JobStep.{job_after, stepped, ends_print}
use Rattle.job_objects.specs.Impressions.{impressions_of}
use Rattle.octets.specs.Document.{DocumentRecord}

pub record SpooledRecord : Type 0 where
  pub job : JobRecord
  -- the documents, until they are handed out or dropped
  pub documents : List DocumentRecord
  -- the moment of the last document, or of the job's creation
  pub arrived : ℕ
  -- whether a device has the job; a device may still have a canceled job
  pub on_device : Bool

-- the job is finished, and no device has it
abbrev pub is_retired : SpooledRecord → Bool
is_retired spooled = is_finished spooled.job.state && not spooled.on_device

-- a retired job drops its documents
abbrev pub retired : SpooledRecord → SpooledRecord
retired spooled = if is_retired spooled then record spooled { documents = [] } else spooled

-- a device has the job from its beginning on, and only the job's end changes that
abbrev pub on_device_after : JobChange → Bool → Bool
on_device_after Begin on_device = true
on_device_after _ on_device = on_device

-- the job is changed, if its state allows the change
abbrev pub changed : JobChange → ℕ → SpooledRecord → SpooledRecord
changed change now spooled = option_map_or (λ job. retired (record spooled { job = job; on_device = on_device_after change spooled.on_device })) (job_after change now spooled.job) spooled

-- the device that has the job ends it: the job is changed unless it is finished, and its documents are gone
abbrev pub let_go : JobChange → ℕ → SpooledRecord → SpooledRecord
let_go change now spooled =
    if spooled.on_device then record spooled { job = stepped change now spooled.job; documents = []; on_device = false } else spooled

-- the job after a change that its device reports
abbrev pub reported : JobChange → ℕ → SpooledRecord → SpooledRecord
reported change now spooled = if ends_print change then let_go change now spooled else changed change now spooled

-- the documents that are handed out for a change that the device reports: all, if the change ends the print
abbrev pub handed_out : JobChange → SpooledRecord → List DocumentRecord
handed_out change spooled = if ends_print change then (if spooled.on_device then spooled.documents else []) else []

-- the job with one more document, of this format and this many octets
abbrev pub counted : List ℕ → ℕ → JobRecord → JobRecord
counted format octets job = record job {
  needs = record job.needs {
    formats = job.needs.formats ++ format ∷ [];
    impressions = impressions_of job.impressions (job.octets + octets);
  };
  documents = job.documents + 1;
  octets = job.octets + octets;
}

-- the document is added
abbrev pub attached : DocumentRecord → ℕ → SpooledRecord → SpooledRecord
attached document now spooled = record spooled {
  job = counted document.format (length document.contents) spooled.job;
  documents = spooled.documents ++ document ∷ [];
  arrived = now;
}

-- the job is overdue: documents are still to come, and INCOMING_JOB_TIME has passed since the last document or the job's creation
abbrev pub is_overdue : ℕ → SpooledRecord → Bool
is_overdue now spooled = spooled.job.incoming && nat_le INCOMING_JOB_TIME (now - spooled.arrived)

abbrev pub expired : ℕ → SpooledRecord → SpooledRecord
expired now spooled = if is_overdue now spooled then changed Fail now spooled else spooled

abbrev pub marked : Bool → SpooledRecord → SpooledRecord
marked stranded spooled = record spooled { job = record spooled.job { stranded = stranded } }
