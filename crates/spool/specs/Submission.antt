-- A job as it is submitted, and the job that it becomes.
use Rattle.std.specs.Prelude.{ℕ, Bool, false, List, map, length, Option, None}
use Rattle.base_types.specs.declared.finishings.Finishings.{Finishings}
use Rattle.base_types.specs.declared.needs.Sides.{Sides}
use Rattle.job_objects.specs.JobState.{waiting_state}
use Rattle.job_objects.specs.Impressions.{impressions_of}
use Rattle.octets.specs.Document.{DocumentRecord, octets_of}
use Rattle.spool.specs.Spooled.{SpooledRecord}

pub record Submission : Type 0 where
  pub created : ℕ
  pub printer : ℕ
  pub owner : List ℕ
  pub name : List ℕ
  pub priority : ℕ
  pub sides : Sides
  pub finishings : Finishings
  pub media : List ℕ
  pub copies : ℕ
  pub held : Bool
  pub impressions : Option ℕ
  pub documents : List DocumentRecord

-- the job of a submission; `incoming` indicates whether its documents are still to come
abbrev pub spooled_of : Submission → ℕ → Bool → SpooledRecord
spooled_of new id incoming = record {
  job = record {
    id = id;
    owner = new.owner;
    name = new.name;
    priority = new.priority;
    needs = record {
      printer = new.printer;
      formats = map (λ d. d.format) new.documents;
      sides = new.sides;
      finishings = new.finishings;
      media = new.media;
      impressions = impressions_of new.impressions (octets_of new.documents);
      copies = new.copies;
    };
    impressions = new.impressions;
    state = waiting_state incoming new.held;
    incoming = incoming;
    held = new.held;
    stranded = false;
    documents = length new.documents;
    octets = octets_of new.documents;
    canceled_by = None;
    created = new.created;
    started = None;
    finished = None;
  };
  documents = new.documents;
  arrived = new.created;
  on_device = false;
}
