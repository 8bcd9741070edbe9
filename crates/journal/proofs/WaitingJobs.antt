-- Jobs that wait, where other jobs and the devices change.
use Rattle.std.proofs.Common.{◌≡◌, ◌≢◌, ◌==◌, ◌&&◌, ◌||◌, ◌⊎◌, ◌∙◌, ℕ, zero, suc, Bool, true, false, cond, not, List, [], ◌∷◌, map, filter, Option, Some, None, refl, sym, ap, subst, true≢false, inl, inr}
use Rattle.std.specs.Prelude.{option_map, nat_lt, unwrap_or, slice_get, MatchOption}
use Rattle.std.specs.List.{list_any}
use Rattle.std.specs.Option.{option_map_or}
use Rattle.base_types.specs.declared.limits.TheConstants.Limits.{FINISHED_JOBS_KEPT}
use Rattle.base_types.specs.declared.needs.Stranded.{Stranded}
use Rattle.base_types.specs.Device.{Device}
use Rattle.base_types.specs.declared.device.Activity.{Activity}
use Rattle.base_types.specs.declared.device.Activity.TheVariants.{Running, Stopped}
use Rattle.base_types.specs.declared.report.Report.TheVariants.{Gone}
use Rattle.job_objects.specs.declared.job_state.JobState.{JobState}
use Rattle.job_objects.specs.declared.job_state.JobState.TheVariants as Is
use Rattle.job_objects.specs.declared.job_change.JobChange.TheVariants.{Fail}
use Rattle.job_objects.specs.JobState.{is_finished}
use Rattle.job_objects.specs.Job.{JobRecord}
use Rattle.job_objects.specs.JobStep.{ended, changed_from, stepped}
use Rattle.octets.specs.Document.{DocumentRecord}
use Rattle.spool.specs.Spooled.{SpooledRecord, reported, marked}
use Rattle.spool.specs.Jobs.{spooled_at, with_job}
use Rattle.spool.specs.Kept.{is_kept, later_jobs}
use Rattle.spool.specs.Calls.{is_ready, marked_by}
use Rattle.spool.proofs.Ids.{KeepsId}
use Rattle.spool.proofs.OnDevice.{found_other, found_map}
use Rattle.plan_prices.specs.Plan.{PlanRecord}
use Rattle.print_room.specs.Activity.{job_on, stopped_at, idle}
use Rattle.print_room.specs.State.{State, with_device}
use Rattle.print_room.specs.Report.{jobs_after, documents_out, change_by, activity_after, refitted, state_after, Reports}
use Rattle.print_room.specs.declared.started.Started.{Started}
use Rattle.print_room.specs.Dispatch.{marked_state}
use Rattle.journal.specs.Laws.{WaitingStay, marked_as}

-- ---- the job of an id in a changed list

-- the first job of a list, whose id is or isn't the sought id
first_is : (id : ℕ) (s : SpooledRecord) (jobs : List SpooledRecord) → (id == s.job.id) ≡ true → spooled_at id (s ∷ jobs) ≡ Some s
first_is id s jobs is = ap (λ (b : Bool). cond b (Some s) (spooled_at id jobs)) is

first_is_other : (id : ℕ) (s : SpooledRecord) (jobs : List SpooledRecord) → (id == s.job.id) ≡ false → spooled_at id (s ∷ jobs) ≡ spooled_at id jobs
first_is_other id s jobs is = ap (λ (b : Bool). cond b (Some s) (spooled_at id jobs)) is

-- what is found is one job
there_is : {x s : SpooledRecord} → Some x ≡ Some s → x ≡ s
there_is {x} {s} is = ap (λ (o : Option SpooledRecord). option_map_or (λ y. y) o s) is

-- a job is found as before where others are forgotten
found_kept : (id : ℕ) (keep : SpooledRecord → Bool) (jobs : List SpooledRecord) (s : SpooledRecord) → spooled_at id jobs ≡ Some s → keep s ≡ true → spooled_at id (filter keep jobs) ≡ Some s
found_kept id keep [] s found kept = found
found_kept id keep (x ∷ jobs) s found kept = step (id == x.job.id) refl (λ later. found_kept id keep jobs s later kept)
  where
    with_first : (k : Bool) → (id == x.job.id) ≡ true → x ≡ s → keep x ≡ k → spooled_at id (cond k (x ∷ filter keep jobs) (filter keep jobs)) ≡ Some s
    with_first true is same k = first_is id x (filter keep jobs) is ∙ ap (λ (y : SpooledRecord). Some y) same
    with_first false is same k = absurd (true≢false (sym kept ∙ (ap keep (sym same) ∙ k)))

    without : (k : Bool) → (id == x.job.id) ≡ false → spooled_at id (cond k (x ∷ filter keep jobs) (filter keep jobs)) ≡ spooled_at id (filter keep jobs)
    without true is = first_is_other id x (filter keep jobs) is
    without false is = refl

    step : (b : Bool) → (id == x.job.id) ≡ b → (spooled_at id jobs ≡ Some s → spooled_at id (filter keep jobs) ≡ Some s) → spooled_at id (filter keep (x ∷ jobs)) ≡ Some s
    step true is rest = with_first (keep x) is (there_is (sym (first_is id x jobs is) ∙ found)) refl
    step false is rest = without (keep x) is ∙ rest (sym (first_is_other id x jobs is) ∙ found)

-- ---- a job whose device is gone

-- a job that fails, or doesn't since its state doesn't allow it, keeps its id
failed_id : (state : JobState) (now : ℕ) (job : JobRecord) → (unwrap_or (changed_from Fail state now job) job).id ≡ job.id
failed_id Is.Pending now job = refl
failed_id Is.PendingHeld now job = held job.incoming
  where
    held : (incoming : Bool) → (unwrap_or (cond incoming (Some (ended Is.Aborted now job)) None) job).id ≡ job.id
    held true = refl
    held false = refl
failed_id Is.Processing now job = refl
failed_id Is.Stopped now job = refl
failed_id Is.Canceled now job = refl
failed_id Is.Aborted now job = refl
failed_id Is.Completed now job = refl

-- the change of a job whose device is gone leaves the id
fail_keeps_id : (now : ℕ) → KeepsId (reported Fail now)
fail_keeps_id now s = either s.on_device
  where
    either : (on : Bool) → (cond on (record s { job = stepped Fail now s.job; documents = []; on_device = false }) s).job.id ≡ s.job.id
    either true = failed_id s.job.state now s.job
    either false = refl

-- an unfinished job is kept
unfinished_kept : (jobs : List SpooledRecord) (s : SpooledRecord) → is_finished s.job.state ≡ false → is_kept jobs s ≡ true
unfinished_kept jobs s is = ap (λ (t : Bool). not (t && not s.on_device) || nat_lt (later_jobs jobs s) FINISHED_JOBS_KEPT) is

-- an unfinished job is found as before where the job that a device had fails, if that is another job
found_after : (now id : ℕ) (s : SpooledRecord) (had : Option ℕ) (jobs : List SpooledRecord) → spooled_at id jobs ≡ Some s → is_finished s.job.state ≡ false → had ≢ Some id → spooled_at id (jobs_after now had (Some Fail) jobs) ≡ Some s
found_after now id s None jobs found unfinished apart = found
found_after now id s (Some one) jobs found unfinished apart =
    let rest : List SpooledRecord = with_job one (reported Fail now) jobs in
    found_kept id (is_kept rest) rest s (found_other id one (reported Fail now) (fail_keeps_id now) (λ same. apart (ap (λ (n : ℕ). Some n) (sym same))) jobs ∙ found) (unfinished_kept rest s unfinished)

-- a job that waits isn't finished
is_unfinished : (s : SpooledRecord) → (s.job.state ≡ Is.Pending) ⊎ (s.job.state ≡ Is.PendingHeld) → is_finished s.job.state ≡ false
is_unfinished s (inl is) = ap is_finished is
is_unfinished s (inr is) = ap is_finished is

-- ---- the devices

-- a device that is gone has no job
none_on : (now : ℕ) (activity : Activity) → job_on (stopped_at now (idle activity)) ≡ None
none_on now (Running printing) = refl
none_on now (Stopped interrupted) = refl

-- one device has no job any more, and the others are as before
device_at : (place k : ℕ) (change : Device → Device) (devices : List Device) (device : Device) → ((d : Device) → job_on (change d).activity ≡ None) → slice_get (with_device place change devices) k ≡ Some device → (job_on device.activity ≡ None) ⊎ (slice_get devices k ≡ Some device)
device_at place k change [] device none found = inr found
device_at zero zero change (d ∷ ds) device none found = inl (ap (λ (o : Option Device). option_map_or (λ x. job_on x.activity) o None) (sym found) ∙ none d)
device_at zero (suc k) change (d ∷ ds) device none found = inr found
device_at (suc place) zero change (d ∷ ds) device none found = inr found
device_at (suc place) (suc k) change (d ∷ ds) device none found = device_at place k change ds device none found

-- there is nothing, or something, and not both
none_not_some : {A : Type 0} {x : A} → None ≡ Some x → ⊥
none_not_some is = cc

-- a job that no device had is on no device after one device has no job any more
apart_still : (id place k : ℕ) (change : Device → Device) (devices : List Device) (device : Device) → ((d : Device) → job_on (change d).activity ≡ None) → ((at : ℕ) (d : Device) → slice_get devices at ≡ Some d → job_on d.activity ≢ Some id) → slice_get (with_device place change devices) k ≡ Some device → job_on device.activity ≢ Some id
apart_still id place k change devices device none apart found has = elim (device_at place k change devices device none found) [
  | inl free ↦ none_not_some (sym free ∙ has)
  | inr same ↦ apart k device same has
]

-- ---- the jobs that wait stay

-- nothing changes
stay_same : (state : State) → WaitingStay state state
stay_same state = record { waits = λ id s w. (s.job.stranded, w); next = refl }

-- the new state is the old one
pub stay_is : (old new : State) → new ≡ old → WaitingStay old new
stay_is old new is = subst (λ (s : State). WaitingStay old s) (sym is) (stay_same old)

-- two changes, one after the other
pub stay_then : (old mid new : State) → WaitingStay old mid → WaitingStay mid new → WaitingStay old new
stay_then old mid new first second = record {
  waits = λ id s w.
      let here = first.waits id s w in
      second.waits id (marked_as here.0 s) here.1;
  next = second.next ∙ first.next;
}

-- the state after the report that the device at a place is gone: its job fails, and no other device changes
stay_after : (now place : ℕ) (device : Device) (old : State) → slice_get old.devices place ≡ Some device → WaitingStay old (state_after now place Gone device old)
stay_after now place device old there = record {
  waits = λ id s w. (
    s.job.stranded,
    record {
      there = found_after now id s (job_on device.activity) old.spool.jobs w.there (is_unfinished s w.unfinished) (w.apart place device there);
      unfinished = w.unfinished;
      apart = λ k d found. apart_still id place k (refitted now Gone (activity_after now Gone old.spool.jobs device)) old.devices d (λ x. none_on now device.activity) w.apart found;
    },
  );
  next = refl;
}

-- the report comes that a device is gone
pub stay_reported : (now place : ℕ) (old : State) (documents : List DocumentRecord) (new : State) → Reports now place Gone old documents new → WaitingStay old new
stay_reported now place old documents new = at (slice_get old.devices place) refl
  where
    at : (o : Option Device) → slice_get old.devices place ≡ o
        → MatchOption o ((new ≡ record old { last = now }) × (documents ≡ []))
        (λ device. (new ≡ state_after now place Gone device old) × (documents ≡ documents_out (job_on device.activity) (change_by Gone device.activity) old.spool.jobs))
        → WaitingStay old new
    at None there it = subst (λ (s : State). WaitingStay old s) (sym it.0) (record { waits = λ id s w. (s.job.stranded, record { there = w.there; unfinished = w.unfinished; apart = w.apart }); next = refl })
    at (Some device) there it = subst (λ (s : State). WaitingStay old s) (sym it.0) (stay_after now place device old there)

-- ---- marks

-- a mark leaves the id
marked_keeps_id : (paused : List Bool) (stranded : List Stranded) → KeepsId (marked_by paused stranded)
marked_keeps_id paused stranded s = either (is_ready paused s.job) (list_any (λ e. e.job == s.job.id) stranded)
  where
    either : (ready mark : Bool) → (cond ready (marked mark s) s).job.id ≡ s.job.id
    either true mark = refl
    either false mark = refl

-- a job that is marked, or isn't since it isn't ready, is the job with another mark or with its own
marked_is : (ready mark : Bool) (s : SpooledRecord) → cond ready (marked mark s) s ≡ marked_as (cond ready mark s.job.stranded) s
marked_is true mark s = refl
marked_is false mark s = refl

-- a plan is kept under which no job begins: the ready jobs are marked
pub stay_marked : (now : ℕ) (plan : PlanRecord) (started : List Started) (old : State) → WaitingStay old (record (marked_state now plan old) { begun = started })
stay_marked now plan started old = record {
  waits = λ id s w.
      let ready : Bool = is_ready old.paused s.job in
      let mark : Bool = list_any (λ e. e.job == s.job.id) plan.stranded in (
        cond ready mark s.job.stranded,
        record {
          there =
              found_map id (marked_by old.paused plan.stranded) (marked_keeps_id old.paused plan.stranded) old.spool.jobs
              ∙ (ap (λ (o : Option SpooledRecord). option_map (marked_by old.paused plan.stranded) o) w.there
              ∙ ap (λ (x : SpooledRecord). Some x) (marked_is ready mark s));
          unfinished = w.unfinished;
          apart = w.apart;
        },
      );
  next = refl;
}
