-- The documents of the jobs that devices have, after each call.
use Rattle.std.proofs.Common.{◌≡◌, ◌⊎◌, ◌∙◌, ℕ, Bool, true, false, cond, List, [], ◌∷◌, map, Option, Some, None, refl, sym, ap, subst, inl, inr, true≢false}
use Rattle.std.specs.Prelude.{slice_get, MatchOption, IfSome, All, not, ◌&&◌, length}
use Rattle.std.proofs.lemmas.Bool.{cases_eq}
use Rattle.std.specs.Option.{option_map_or}
use Rattle.base_types.specs.Device.{Device}
use Rattle.base_types.specs.declared.report.Report.{Report}
use Rattle.job_objects.specs.declared.job_change.JobChange.{JobChange}
use Rattle.job_objects.specs.declared.job_change.JobChange.TheVariants.{Close}
use Rattle.job_objects.specs.JobStep.{ends_print}
use Rattle.octets.specs.Document.{DocumentRecord}
use Rattle.spool.specs.Spooled.{SpooledRecord, attached, changed, handed_out, expired}
use Rattle.spool.specs.Jobs.{spooled_at, with_job, documents_released}
use Rattle.spool.specs.OnDevice.{is_on_device, documents_at, AllStay}
use Rattle.spool.specs.Submission.{Submission, spooled_of}
use Rattle.spool.specs.Kept.{retained}
use Rattle.print_room.specs.Jobs.{requester_of, with_job_taken, sending_refusal, sending, changing, cancel_by, canceling, canceling_each, expiring}
use Rattle.spool.specs.Requester.{RequesterRecord}
use Rattle.spool.specs.Calls.{or_else, access_refusal, taking_refusal, document_refusal, adds, is_too_large, with_document, closed_if}
use Rattle.spool.specs.declared.refusal.SpoolRefusal.{SpoolRefusal}
use Rattle.spool.specs.declared.refusal.SpoolRefusal.TheVariants as Why
use Rattle.spool.specs.Sound.{IsSound}
use Rattle.spool.specs.Spool.{IsSpool}
use Rattle.spool.proofs.Sound.{incoming_off, sound_found}
use Rattle.spool.proofs.OnDevice.{there, others_reported, stay_reported, stay_same, stay_before, stay_then, stay_map, stay_with, stay_retained, others_with, changed_on, expired_on}
use Rattle.print_room.specs.Activity.{job_on}
use Rattle.print_room.specs.State.{State, with_device}
use Rattle.print_room.specs.Report.{change_by, activity_after, refitted, jobs_after, documents_out, state_after, Reports}
use Rattle.print_room.specs.DeviceJobs.{job_of, Agree, KeepsAt, AllKeep, KeepsOrEnds}
use Rattle.print_room.proofs.DeviceJobs.{Leaves, report_leaves, job_elsewhere, job_here, job_found, agree_stay}

-- the devices' jobs are the same, and those in the spool stay
pub keep_from : (old new : State) → ((place id : ℕ) → job_of old.devices place ≡ Some id → job_of new.devices place ≡ Some id) → AllStay old.spool.jobs new.spool.jobs → Agree old.devices old.spool.jobs → AllKeep old new
keep_from old new same stay agree place id has = (same place id has, (stay id (agree.in_spool place id has)).documents)

pub keep_then : (old mid new : State) → AllKeep old mid → AllKeep mid new → AllKeep old new
keep_then old mid new one two place id has =
    let first = one place id has in
    let second = two place id first.0 in
    (second.0, second.1 ∙ first.1)

-- a job hands out no document while its print goes on, and all of its documents when the print ends
reported_nothing : (change : JobChange) → ends_print change ≡ false → (id : ℕ) (jobs : List SpooledRecord) → documents_released id change jobs ≡ []
reported_nothing change goes_on id jobs = at (spooled_at id jobs)
  where
    at : (o : Option SpooledRecord) → option_map_or (handed_out change) o [] ≡ []
    at None = refl
    at (Some s) = ap (λ (b : Bool). cond b (cond s.on_device s.documents []) []) goes_on

reported_all : (change : JobChange) → ends_print change ≡ true → (id : ℕ) (jobs : List SpooledRecord) → is_on_device id jobs ≡ true → documents_released id change jobs ≡ documents_at id jobs
reported_all change ends id jobs on =
    let s = there id jobs on in
    let out : Option SpooledRecord → List DocumentRecord = λ o. option_map_or (handed_out change) o [] in
    let of : Option SpooledRecord → List DocumentRecord = λ o. option_map_or (λ x. x.documents) o [] in
    ap out s.1
    ∙ (ap (λ (b : Bool). cond b (cond s.0.on_device s.0.documents []) []) ends
    ∙ (ap (λ (b : Bool). cond b s.0.documents []) s.2 ∙ sym (ap of s.1)))

none_still : (ends : Bool) (o : Option ℕ) → o ≡ None → cond ends None o ≡ None
none_still true o none = refl
none_still false o none = none

-- the state after a report of the device at the place
module _ (now place : ℕ) (report : Report) (d : Device) (old : State) (found : slice_get old.devices place ≡ Some d) (agree : Agree old.devices old.spool.jobs) where
  new_here : job_of (with_device place (refitted now report (activity_after now report old.spool.jobs d)) old.devices) place ≡ job_on (refitted now report (activity_after now report old.spool.jobs d) d).activity
  new_here = job_here place (refitted now report (activity_after now report old.spool.jobs d)) old.devices d found

  old_here : job_of old.devices place ≡ job_on d.activity
  old_here = job_found place old.devices d found

  others : (other : ℕ) → ¬ (other ≡ place) → KeepsAt other old (state_after now place report d old)
  others other differ id has = (job_elsewhere place other (refitted now report (activity_after now report old.spool.jobs d)) old.devices differ ∙ has, same (job_on d.activity) refl (change_by report d.activity))
    where
      same : (o : Option ℕ) → job_on d.activity ≡ o → (change : Option JobChange) → documents_at id (jobs_after now o change old.spool.jobs) ≡ documents_at id old.spool.jobs
      same None is change = refl
      same (Some one) is None = refl
      same (Some one) is (Some change) = (others_reported one change now old.spool.jobs id (λ e. differ (agree.apart other place id has (old_here ∙ (is ∙ ap (λ (n : ℕ). Some n) (sym e))))) (agree.in_spool other id has)).documents

  -- the device keeps its job with its documents, or it has no job any more and the documents are handed out
  abbrev Done : Option JobChange → Option ℕ → Type 0
  Done change o =
      ((job_of (with_device place (refitted now report (activity_after now report old.spool.jobs d)) old.devices) place ≡ o) × AllStay old.spool.jobs (jobs_after now o change old.spool.jobs) × (documents_out o change old.spool.jobs ≡ []))
      ⊎ ((id : ℕ) × (o ≡ Some id) × (job_of (with_device place (refitted now report (activity_after now report old.spool.jobs d)) old.devices) place ≡ None) × (documents_out o change old.spool.jobs ≡ documents_at id old.spool.jobs))

  changed_own : (change : JobChange) (ends : Bool) → ends_print change ≡ ends → job_on (refitted now report (activity_after now report old.spool.jobs d) d).activity ≡ cond ends None (job_on d.activity) → (id : ℕ) → job_on d.activity ≡ Some id → Done (Some change) (Some id)
  changed_own change true ends none id is = inr (id, refl, new_here ∙ none, reported_all change ends id old.spool.jobs (agree.in_spool place id (old_here ∙ is)))
  changed_own change false goes_on same id is = inl (new_here ∙ (same ∙ is), stay_reported id change now old.spool.jobs goes_on, reported_nothing change goes_on id old.spool.jobs)

  own : (change : Option JobChange) → Leaves change (job_on d.activity) (job_on (refitted now report (activity_after now report old.spool.jobs d) d).activity) → (o : Option ℕ) → job_on d.activity ≡ o → Done change o
  own None leaves None is = inl (new_here ∙ (leaves ∙ is), stay_same old.spool.jobs, refl)
  own None leaves (Some id) is = inl (new_here ∙ (leaves ∙ is), stay_same old.spool.jobs, refl)
  own (Some change) leaves None is = inl (new_here ∙ (leaves ∙ none_still (ends_print change) (job_on d.activity) is), stay_same old.spool.jobs, refl)
  own (Some change) leaves (Some id) is = changed_own change (ends_print change) refl leaves id is

  pub report_keeps : KeepsOrEnds place old (documents_out (job_on d.activity) (change_by report d.activity) old.spool.jobs) (state_after now place report d old)
  report_keeps = record {
    others = others;
    own = elim (own (change_by report d.activity) (report_leaves now now report old.spool.jobs d) (job_on d.activity) refl) [
      | inl kept ↦ inl ((λ id has. (kept.0 ∙ (sym old_here ∙ has), (kept.1 id (agree.in_spool place id has)).documents)), kept.2)
      | inr ended ↦ inr (record { job = ended.0; had = old_here ∙ ended.1; has_none = ended.2; all = ended.3 })
    ];
  }

-- a report of a place that no device has
pub no_report_keeps : (now place : ℕ) (old : State) → KeepsOrEnds place old [] (record old { last = now })
no_report_keeps now place old = record { others = λ other differ id has. (has, refl); own = inl ((λ id has. (has, refl)), refl) }

pub reports_keep : (now place : ℕ) (report : Report) (old : State) (documents : List DocumentRecord) (new : State) → Agree old.devices old.spool.jobs → Reports now place report old documents new → KeepsOrEnds place old documents new
reports_keep now place report old documents new agree = at (slice_get old.devices place) refl
  where
    at : (o : Option Device) → slice_get old.devices place ≡ o → MatchOption o ((new ≡ record old { last = now }) × (documents ≡ [])) (λ device. (new ≡ state_after now place report device old) × (documents ≡ documents_out (job_on device.activity) (change_by report device.activity) old.spool.jobs)) → KeepsOrEnds place old documents new
    at None none reports =
        subst (λ (s : State). KeepsOrEnds place old documents s) (sym reports.0) (subst (λ (ds : List DocumentRecord). KeepsOrEnds place old ds (record old { last = now })) (sym reports.1) (no_report_keeps now place old))
    at (Some d) found reports =
        subst (λ (s : State). KeepsOrEnds place old documents s) (sym reports.0) (subst (λ (ds : List DocumentRecord). KeepsOrEnds place old ds (state_after now place report d old)) (sym reports.1) (report_keeps now place report d old found agree))

pub submits_keep : (now : ℕ) (job : Submission) (incoming : Bool) (old : State) → Agree old.devices old.spool.jobs → AllKeep old (with_job_taken now job incoming old)
submits_keep now job incoming old agree = keep_from old (with_job_taken now job incoming old) (λ place id has. has) (stay_before old.spool.jobs (spooled_of job old.spool.next incoming ∷ [])) agree

pub changes_keep : (now id : ℕ) (change : JobChange) (old : State) → Agree old.devices old.spool.jobs → AllKeep old (changing now id change old)
changes_keep now id change old agree = keep_from old (changing now id change old) (λ place one has. has) (stay_with id (changed change now) (changed_on change now) old.spool.jobs) agree

-- a cancel leaves the jobs of devices
cancels_stay : (now id : ℕ) (name : List ℕ) (old : State) → AllStay old.spool.jobs (canceling now id name old).spool.jobs
cancels_stay now id name old =
    let change = cancel_by id name old in
    let after = with_job id (changed change now) old.spool.jobs in
    stay_then old.spool.jobs after (retained after) (stay_with id (changed change now) (changed_on change now) old.spool.jobs) (stay_retained after)

pub cancels_keep : (now id : ℕ) (name : List ℕ) (old : State) → Agree old.devices old.spool.jobs → AllKeep old (canceling now id name old)
cancels_keep now id name old agree = keep_from old (canceling now id name old) (λ place one has. has) (cancels_stay now id name old) agree

-- cancels, one after the other, leave the jobs of devices too
pub removes_keep : (now : ℕ) (name ids : List ℕ) (old : State) → Agree old.devices old.spool.jobs → AllKeep old (canceling_each now name ids old)
removes_keep now name [] old agree = λ place id has. (has, refl)
removes_keep now name (id ∷ ids) old agree =
    let mid = canceling now id name old in
    let agree_mid : Agree mid.devices mid.spool.jobs = agree_stay old.devices old.spool.jobs mid.spool.jobs (cancels_stay now id name old) agree in
    keep_then old mid (canceling_each now name ids mid) (cancels_keep now id name old agree) (removes_keep now name ids mid agree_mid)

-- ---- a sent document

-- if neither of two checks refuses, the second check doesn't refuse
later_free : (first later : Option SpoolRefusal) → or_else first later ≡ None → later ≡ None
later_free None later free = free
later_free (Some cause) later free = absurd (cc)

still_incoming : (incoming large : Bool) → cond (not incoming) (Some Why.NotPossible) (cond large (Some Why.TooLarge) None) ≡ None → incoming ≡ true
still_incoming true large free = refl
still_incoming false large free = absurd (cc)

-- a job that takes a document isn't on a device
sent_off : (id : ℕ) (requester : RequesterRecord) (octets : ℕ) (last : Bool) (jobs : List SpooledRecord) → All IsSound jobs → document_refusal requester octets last (spooled_at id jobs) ≡ None → is_on_device id jobs ≡ false
sent_off id requester octets last jobs sound free = at (spooled_at id jobs) (sound_found id jobs sound) free
  where
    at : (o : Option SpooledRecord) → IfSome o IsSound → document_refusal requester octets last o ≡ None → option_map_or (λ s. s.on_device) o false ≡ false
    at None fits free = refl
    at (Some s) fits free =
        incoming_off s fits (still_incoming s.job.incoming (adds octets last && is_too_large octets s.job) (later_free (access_refusal requester (Some s)) (taking_refusal octets (adds octets last) (Some s)) free))

attached_stay : (added : Bool) (id : ℕ) (document : DocumentRecord) (now : ℕ) (jobs : List SpooledRecord) → is_on_device id jobs ≡ false → AllStay jobs (with_document added id document now jobs)
attached_stay false id document now jobs off one on = stay_same jobs one on
attached_stay true id document now jobs off one on = elim (cases_eq one id) [
  | inl same ↦ absurd (true≢false (sym on ∙ (ap (λ (n : ℕ). is_on_device n jobs) same ∙ off)))
  | inr differ ↦ others_with id (attached document now) (λ s. refl) jobs one differ on
]

closed_stay : (last : Bool) (id now : ℕ) (jobs : List SpooledRecord) → AllStay jobs (closed_if last id now jobs)
closed_stay false id now jobs = stay_same jobs
closed_stay true id now jobs = stay_with id (changed Close now) (changed_on Close now) jobs

pub sends_keep : (now id : ℕ) (name : List ℕ) (document : DocumentRecord) (last : Bool) (old : State) → IsSpool old.spool → Agree old.devices old.spool.jobs → sending_refusal id name (length document.contents) last old ≡ None → AllKeep old (sending now id document last old)
sends_keep now id name document last old spool agree free =
    let jobs = old.spool.jobs in
    let taken = with_document (adds (length document.contents) last) id document now jobs in
    let off = sent_off id (requester_of name old) (length document.contents) last jobs spool.sound free in
    keep_from old (sending now id document last old) (λ place one has. has) (stay_then jobs taken (closed_if last id now taken) (attached_stay (adds (length document.contents) last) id document now jobs off) (closed_stay last id now taken)) agree

pub expires_keep : (now : ℕ) (old : State) → Agree old.devices old.spool.jobs → AllKeep old (expiring now old)
expires_keep now old agree =
    let after = map (expired now) old.spool.jobs in
    keep_from old (expiring now old) (λ place id has. has) (stay_then old.spool.jobs after (retained after) (stay_map (expired now) (expired_on now) old.spool.jobs) (stay_retained after)) agree
