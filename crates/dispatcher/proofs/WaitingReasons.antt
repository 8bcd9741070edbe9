-- The reasons of a job that is taken.
use Rattle.std.proofs.Common.{◌≡◌, ◌∙◌, ℕ, Bool, true, false, refl, ap}
use Rattle.job_objects.specs.Job.{JobRecord}
use Rattle.job_objects.specs.JobState.{waiting_state}
use Rattle.job_objects.specs.Reasons.{one, pending_reason, held_reasons, reasons_in, reasons_of, waiting_reasons}
use Rattle.spool.specs.Submission.{Submission, spooled_of}

held_back : (incoming held : Bool) (job : JobRecord) → job.incoming ≡ incoming → job.held ≡ held → held_reasons job.incoming job.held ≡ held_reasons incoming held
held_back incoming held job comes is_held = ap (λ (b : Bool). held_reasons b job.held) comes ∙ ap (λ (b : Bool). held_reasons incoming b) is_held

shown : (incoming held : Bool) (job : JobRecord) (paused : Bool) → job.incoming ≡ incoming → job.held ≡ held → job.stranded ≡ false → reasons_in (waiting_state incoming held) job paused ≡ waiting_reasons incoming held false paused
shown true true job paused comes held stranded = held_back true true job comes held
shown true false job paused comes held stranded = held_back true false job comes held
shown false true job paused comes held stranded = held_back false true job comes held
shown false false job paused comes held stranded = ap (λ (b : Bool). one (pending_reason b paused)) stranded

pub waiting_shown : (new : Submission) (id : ℕ) (incoming paused : Bool) → reasons_of (spooled_of new id incoming).job paused ≡ waiting_reasons incoming new.held false paused
waiting_shown new id incoming paused = shown incoming new.held (spooled_of new id incoming).job paused refl refl refl
