-- The invariant of a job, by its state: whether documents are still to come, whether it is held, and whether a device has it (RFC 8011, section 5.3.7).
use Rattle.std.specs.Prelude.{◌≡◌, ◌||◌, Bool, true, false}
use Rattle.job_objects.specs.declared.job_state.JobState.{JobState}
use Rattle.job_objects.specs.declared.job_state.JobState.TheVariants.{Pending, PendingHeld, Processing, Stopped, Canceled, Aborted, Completed}
use Rattle.spool.specs.Spooled.{SpooledRecord}

-- A device has each job that is processing or processing-stopped, and no pending or held job; it may still have a canceled one. A job that a device has or may get is complete and isn't held.
abbrev pub FitsState : JobState → Bool → Bool → Bool → Type 0
FitsState Pending incoming held on_device = (incoming ≡ false) × (held ≡ false) × (on_device ≡ false)
FitsState PendingHeld incoming held on_device = ((incoming || held) ≡ true) × (on_device ≡ false)
FitsState Processing incoming held on_device = (incoming ≡ false) × (held ≡ false) × (on_device ≡ true)
FitsState Stopped incoming held on_device = (incoming ≡ false) × (held ≡ false) × (on_device ≡ true)
FitsState Canceled incoming held on_device = incoming ≡ false
FitsState Aborted incoming held on_device = incoming ≡ false
FitsState Completed incoming held on_device = incoming ≡ false

abbrev pub IsSound : SpooledRecord → Type 0
IsSound spooled = FitsState spooled.job.state spooled.job.incoming spooled.job.held spooled.on_device
