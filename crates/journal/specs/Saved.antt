-- A job as it was sent: all that another server needs to take it in the same way.
use Rattle.std.specs.Prelude.{ℕ, Bool, true, false, not, List, [], Option, slice_get, map, filter}
use Rattle.std.specs.Option.{option_map_or}
use Rattle.base_types.specs.declared.finishings.Finishings.{Finishings}
use Rattle.base_types.specs.declared.needs.Sides.{Sides}
use Rattle.job_objects.specs.declared.job_state.JobState.{JobState}
use Rattle.job_objects.specs.declared.job_state.JobState.TheVariants.{Pending, PendingHeld, Processing, Stopped}
use Rattle.job_objects.specs.JobState.{is_finished}
use Rattle.octets.specs.Document.{DocumentRecord}
use Rattle.settings_file.specs.Settings.{ServerSettings}
use Rattle.spool.specs.Spooled.{SpooledRecord}
use Rattle.print_room.specs.State.{State}
use Rattle.journal.specs.declared.saving.Which.{Which}
use Rattle.journal.specs.declared.saving.Which.TheVariants.{Waiting, InHand, Unfinished}

pub record SavedRecord : Type 0 where
  pub id : ℕ
  pub owner : List ℕ
  pub name : List ℕ
  -- the name of the job's printer
  pub printer : List ℕ
  pub priority : ℕ
  pub copies : ℕ
  pub sides : Sides
  pub finishings : Finishings
  pub media : List ℕ
  -- job-impressions, if the request had it
  pub impressions : Option ℕ
  pub held : Bool
  -- documents are still to come
  pub incoming : Bool
  pub documents : List DocumentRecord

-- the name of the printer at a place of the settings
abbrev pub printer_name : ServerSettings → ℕ → List ℕ
printer_name settings place = option_map_or (λ printer. printer.name) (slice_get settings.printers place) []

-- the job of a server with these settings
abbrev pub saved_of : ServerSettings → SpooledRecord → SavedRecord
saved_of settings spooled = record {
  id = spooled.job.id;
  owner = spooled.job.owner;
  name = spooled.job.name;
  printer = printer_name settings spooled.job.needs.printer;
  priority = spooled.job.priority;
  copies = spooled.job.needs.copies;
  sides = spooled.job.needs.sides;
  finishings = spooled.job.needs.finishings;
  media = spooled.job.needs.media;
  impressions = spooled.job.impressions;
  held = spooled.job.held;
  incoming = spooled.job.incoming;
  documents = spooled.documents;
}

-- a job that waits is unfinished, and no device has begun it; a device has begun a job in hand, and not ended it
abbrev pub is_among : Which → JobState → Bool
is_among Waiting Pending = true
is_among Waiting PendingHeld = true
is_among InHand Processing = true
is_among InHand Stopped = true
is_among Unfinished state = not (is_finished state)
is_among which state = false

-- the jobs of a core that are among these, by rising id
abbrev pub saved_jobs : Which → State → List SavedRecord
saved_jobs which core = map (saved_of core.settings) (filter (λ s. is_among which s.job.state) core.spool.jobs)
