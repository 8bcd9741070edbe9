-- The parts in which a job is the one that was saved.
use Rattle.std.specs.Prelude.{◌≡◌}
use Rattle.base_types.specs.Needs.{JobNeeds}
use Rattle.job_objects.specs.Job.{JobRecord}
use Rattle.settings_file.specs.Settings.{ServerSettings}
use Rattle.journal.specs.Saved.{SavedRecord, printer_name}

pub record IsSentAlike (job : JobRecord) (saved : SavedRecord) : Type 0 where
  pub owner : job.owner ≡ saved.owner
  pub name : job.name ≡ saved.name
  pub priority : job.priority ≡ saved.priority
  pub impressions : job.impressions ≡ saved.impressions
  pub held : job.held ≡ saved.held
  pub incoming : job.incoming ≡ saved.incoming

pub record IsPrintedAlike (settings : ServerSettings) (needs : JobNeeds) (saved : SavedRecord) : Type 0 where
  pub printer : printer_name settings needs.printer ≡ saved.printer
  pub copies : needs.copies ≡ saved.copies
  pub sides : needs.sides ≡ saved.sides
  pub finishings : needs.finishings ≡ saved.finishings
  pub media : needs.media ≡ saved.media
