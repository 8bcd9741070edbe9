-- The jobs that devices have, as devices and the spool change.
use Rattle.std.proofs.Common.{◌≡◌, ◌⊎◌, ◌∙◌, ℕ, zero, suc, ◌<◌, length, get_or, Bool, true, false, cond, List, [], ◌∷◌, map, Option, Some, None, refl, sym, ap, subst, arith, inl, inr}
use Rattle.std.specs.Prelude.{slice_get}
use Rattle.std.specs.Option.{option_map_or, option_and_then}
use Rattle.std.proofs.lemmas.Bool.{cases_eq}
use Rattle.std.proofs.lemmas.Option.{slice_get-get_or}
use Rattle.base_types.specs.Device.{Device}
use Rattle.base_types.specs.declared.device.Activity.{Activity}
use Rattle.base_types.specs.declared.device.Activity.TheVariants.{Running, Stopped}
use Rattle.base_types.specs.declared.report.Report.{Report}
use Rattle.base_types.specs.declared.report.Report.TheVariants as reported
use Rattle.job_objects.specs.declared.job_change.JobChange.{JobChange}
use Rattle.job_objects.specs.declared.job_change.JobChange.TheVariants.{Done, Fail}
use Rattle.job_objects.specs.JobStep.{ends_print}
use Rattle.spool.specs.Spooled.{SpooledRecord}
use Rattle.spool.specs.Kept.{jobs_reported}
use Rattle.spool.specs.OnDevice.{is_on_device, AllStay}
use Rattle.spool.proofs.OnDevice.{others_reported, stay_reported}
use Rattle.settings_file.specs.Settings.{DeviceEntry}
use Rattle.print_room.specs.Opening.{opening_device}
use Rattle.print_room.specs.Activity.{job_on, running_from, stopped_at, taking, idle}
use Rattle.print_room.specs.State.{with_device}
use Rattle.print_room.specs.Report.{has_job, change_by, left_of, activity_after, refitted, jobs_after}
use Rattle.print_room.specs.DeviceJobs.{job_of, Agree}

-- ---- one device changes

pub job_elsewhere : (place k : ℕ) (change : Device → Device) (devices : List Device) → ¬ (k ≡ place) → job_of (with_device place change devices) k ≡ job_of devices k
job_elsewhere place k change [] differ = refl
job_elsewhere zero zero change (d ∷ ds) differ = absurd (differ refl)
job_elsewhere zero (suc k) change (d ∷ ds) differ = refl
job_elsewhere (suc place) zero change (d ∷ ds) differ = refl
job_elsewhere (suc place) (suc k) change (d ∷ ds) differ = job_elsewhere place k change ds (λ same. differ (ap suc same))

there_is : {x d : Device} → Some x ≡ Some d → x ≡ d
there_is {x} {d} is = ap (λ (o : Option Device). option_map_or (λ y. y) o d) is

pub job_here : (place : ℕ) (change : Device → Device) (devices : List Device) (d : Device) → slice_get devices place ≡ Some d → job_of (with_device place change devices) place ≡ job_on (change d).activity
job_here place change [] d found = absurd (cc)
job_here zero change (x ∷ ds) d found = ap (λ (y : Device). job_on (change y).activity) (there_is found)
job_here (suc place) change (x ∷ ds) d found = job_here place change ds d found

pub job_found : (place : ℕ) (devices : List Device) (d : Device) → slice_get devices place ≡ Some d → job_of devices place ≡ job_on d.activity
job_found place devices d found = ap (λ (o : Option Device). option_and_then (λ x. job_on x.activity) o) found

-- the device that was read at a place of the devices
pub read_device : (read devices : List Device) (place : ℕ) (d : Device) → read ≡ devices → place < length read → d ≡ get_or read place d → slice_get devices place ≡ Some d
read_device read devices place d same inside is =
    subst (λ (ds : List Device). slice_get ds place ≡ Some d) same (slice_get-get_or read place d inside ∙ ap (λ (x : Device). Some x) (sym is))

-- a place among the devices
pub found_device : (place : ℕ) (devices : List Device) → place < length devices → (d : Device) × (slice_get devices place ≡ Some d)
found_device place [] inside = absurd (omega (arith, inside))
found_device zero (d ∷ ds) inside = (d, refl)
found_device (suc place) (d ∷ ds) inside = found_device place ds (omega (arith, inside))

pub not_some : {x : ℕ} → None ≡ Some x → ⊥
not_some is = cc

-- devices that have no more jobs than before
agree_fewer : (devices new : List Device) (jobs : List SpooledRecord) → ((k id : ℕ) → job_of new k ≡ Some id → job_of devices k ≡ Some id) → Agree devices jobs → Agree new jobs
agree_fewer devices new jobs were agree = record {
  in_spool = λ k id has. agree.in_spool k id (were k id has);
  apart = λ k l id one other. agree.apart k l id (were k id one) (were l id other);
}

-- one device still has its job, or no job
pub agree_device : (place : ℕ) (change : Device → Device) (devices : List Device) (jobs : List SpooledRecord) (d : Device) → slice_get devices place ≡ Some d → (job_on (change d).activity ≡ job_on d.activity) ⊎ (job_on (change d).activity ≡ None) → Agree devices jobs → Agree (with_device place change devices) jobs
agree_device place change devices jobs d found job agree = agree_fewer devices (with_device place change devices) jobs was agree
  where
    was_here : (id : ℕ) → job_on (change d).activity ≡ Some id → (job_on (change d).activity ≡ job_on d.activity) ⊎ (job_on (change d).activity ≡ None) → job_of devices place ≡ Some id
    was_here id has (inl same) = job_found place devices d found ∙ (sym same ∙ has)
    was_here id has (inr none) = absurd (not_some (sym none ∙ has))

    was : (k id : ℕ) → job_of (with_device place change devices) k ≡ Some id → job_of devices k ≡ Some id
    was k id has = elim (cases_eq k place) [
      | inl same ↦ subst (λ (p : ℕ). job_of devices p ≡ Some id) (sym same) (was_here id (sym (job_here place change devices d found) ∙ subst (λ (p : ℕ). job_of (with_device place change devices) p ≡ Some id) same has) job)
      | inr differ ↦ sym (job_elsewhere place k change devices differ) ∙ has
    ]

-- the jobs change, and the jobs of devices stay
pub agree_stay : (devices : List Device) (jobs new : List SpooledRecord) → AllStay jobs new → Agree devices jobs → Agree devices new
agree_stay devices jobs new stay agree = record {
  in_spool = λ k id has. (stay id (agree.in_spool k id has)).on_device;
  apart = agree.apart;
}

-- a device begins a job that no device has
pub agree_begins : (place id : ℕ) (change : Device → Device) (devices : List Device) (jobs : List SpooledRecord) (d : Device) → slice_get devices place ≡ Some d → job_on (change d).activity ≡ Some id → is_on_device id jobs ≡ true → ((k : ℕ) → job_of devices k ≡ Some id → ⊥) → Agree devices jobs → Agree (with_device place change devices) jobs
agree_begins place id change devices jobs d found begins on free agree = record { in_spool = in_spool; apart = apart }
  where
    new : List Device
    new = with_device place change devices

    some_is : {x y : ℕ} → Some x ≡ Some y → x ≡ y
    some_is {x} {y} is = ap (λ (o : Option ℕ). option_map_or (λ z. z) o y) is

    here : (one : ℕ) → job_of (with_device place change devices) place ≡ Some one → id ≡ one
    here one has = some_is (sym begins ∙ (sym (job_here place change devices d found) ∙ has))

    in_spool : (k one : ℕ) → job_of (with_device place change devices) k ≡ Some one → is_on_device one jobs ≡ true
    in_spool k one has = elim (cases_eq k place) [
      | inl same ↦ subst (λ (n : ℕ). is_on_device n jobs ≡ true) (here one (subst (λ (p : ℕ). job_of (with_device place change devices) p ≡ Some one) same has)) on
      | inr differ ↦ agree.in_spool k one (sym (job_elsewhere place k change devices differ) ∙ has)
    ]

    apart : (k l one : ℕ) → job_of (with_device place change devices) k ≡ Some one → job_of (with_device place change devices) l ≡ Some one → k ≡ l
    apart k l one has other = elim (cases_eq k place) [
      | inl same ↦ elim (cases_eq l place) [
        | inl too ↦ same ∙ sym too
        | inr differ ↦
            let is = here one (subst (λ (p : ℕ). job_of (with_device place change devices) p ≡ Some one) same has) in
            absurd (free l (sym (job_elsewhere place l change devices differ) ∙ (other ∙ ap (λ (n : ℕ). Some n) (sym is))))
      ]
      | inr differ ↦ elim (cases_eq l place) [
        | inl too ↦
            let is = here one (subst (λ (p : ℕ). job_of (with_device place change devices) p ≡ Some one) too other) in
            absurd (free k (sym (job_elsewhere place k change devices differ) ∙ (has ∙ ap (λ (n : ℕ). Some n) (sym is))))
        | inr unlike ↦ agree.apart k l one (sym (job_elsewhere place k change devices differ) ∙ has) (sym (job_elsewhere place l change devices unlike) ∙ other)
      ]
    ]

-- ---- a report

-- a device has the same job after a report, or none if the report ends the print of its job
abbrev pub Leaves : Option JobChange → Option ℕ → Option ℕ → Type 0
Leaves None old new = new ≡ old
Leaves (Some change) old new = new ≡ cond (ends_print change) None old

running_job : (now : ℕ) (activity : Activity) → Leaves (change_by reported.Ready activity) (job_on activity) (job_on (running_from now activity))
running_job now (Running None) = refl
running_job now (Running (Some printing)) = refl
running_job now (Stopped None) = refl
running_job now (Stopped (Some interrupted)) = refl

stopping_job : (now : ℕ) (activity : Activity) → Leaves (change_by reported.Stop activity) (job_on activity) (job_on (stopped_at now activity))
stopping_job now (Running None) = refl
stopping_job now (Running (Some printing)) = refl
stopping_job now (Stopped None) = refl
stopping_job now (Stopped (Some interrupted)) = refl

taking_job : (left now : ℕ) (activity : Activity) → job_on (taking left now activity) ≡ job_on activity
taking_job left now (Running None) = refl
taking_job left now (Running (Some printing)) = refl
taking_job left now (Stopped None) = refl
taking_job left now (Stopped (Some interrupted)) = refl

paged_job : (now : ℕ) (activity : Activity) (o : Option ℕ) → job_on (option_map_or (λ left. taking left now activity) o activity) ≡ job_on activity
paged_job now activity None = refl
paged_job now activity (Some left) = taking_job left now activity

idle_job : (activity : Activity) → job_on (idle activity) ≡ None
idle_job (Running printing) = refl
idle_job (Stopped interrupted) = refl

gone_job : (now : ℕ) (activity : Activity) → job_on (stopped_at now (idle activity)) ≡ None
gone_job now (Running printing) = refl
gone_job now (Stopped interrupted) = refl

done_job : (b : Bool) (activity : Activity) → Leaves (cond b (Some Done) None) (job_on activity) (job_on (cond b (idle activity) activity))
done_job true activity = idle_job activity
done_job false activity = refl

failed_job : (b : Bool) (activity : Activity) → Leaves (cond b (Some Fail) None) (job_on activity) (job_on (cond b (idle activity) activity))
failed_job true activity = idle_job activity
failed_job false activity = refl

pub activity_leaves : (now : ℕ) (report : Report) (jobs : List SpooledRecord) (d : Device) → Leaves (change_by report d.activity) (job_on d.activity) (job_on (activity_after now report jobs d))
activity_leaves now (reported.Hello name) jobs d = refl
activity_leaves now (reported.Media names) jobs d = refl
activity_leaves now reported.Ready jobs d = running_job now d.activity
activity_leaves now reported.Stop jobs d = stopping_job now d.activity
activity_leaves now (reported.Busy time) jobs d = refl
activity_leaves now (reported.Pages number printed) jobs d = paged_job now d.activity (left_of number printed jobs d)
activity_leaves now (reported.Done number) jobs d = done_job (has_job number d.activity) d.activity
activity_leaves now (reported.Fail number) jobs d = failed_job (has_job number d.activity) d.activity
activity_leaves now reported.Gone jobs d = gone_job now d.activity

pub report_leaves : (at now : ℕ) (report : Report) (jobs : List SpooledRecord) (d : Device) → Leaves (change_by report d.activity) (job_on d.activity) (job_on (refitted at report (activity_after now report jobs d) d).activity)
report_leaves at now (reported.Hello name) jobs d = activity_leaves now (reported.Hello name) jobs d
report_leaves at now (reported.Media names) jobs d = activity_leaves now (reported.Media names) jobs d
report_leaves at now reported.Ready jobs d = activity_leaves now reported.Ready jobs d
report_leaves at now reported.Stop jobs d = activity_leaves now reported.Stop jobs d
report_leaves at now (reported.Busy time) jobs d = activity_leaves now (reported.Busy time) jobs d
report_leaves at now (reported.Pages number printed) jobs d = activity_leaves now (reported.Pages number printed) jobs d
report_leaves at now (reported.Done number) jobs d = activity_leaves now (reported.Done number) jobs d
report_leaves at now (reported.Fail number) jobs d = activity_leaves now (reported.Fail number) jobs d
report_leaves at now reported.Gone jobs d = activity_leaves now reported.Gone jobs d

pub same_or_none : (change : Option JobChange) (old new : Option ℕ) → Leaves change old new → (new ≡ old) ⊎ (new ≡ None)
same_or_none None old new is = inl is
same_or_none (Some change) old new is = by (ends_print change) is
  where
    by : (ends : Bool) → new ≡ cond ends None old → (new ≡ old) ⊎ (new ≡ None)
    by true none = inr none
    by false same = inl same

-- the jobs of devices are on them, once the device at a place has reported about its job and has the job that this report leaves
pub agree_reported : (now place : ℕ) (refit : Device → Device) (devices : List Device) (jobs : List SpooledRecord) (d : Device) (change : Option JobChange) → slice_get devices place ≡ Some d → Leaves change (job_on d.activity) (job_on (refit d).activity) → Agree devices jobs → Agree (with_device place refit devices) (jobs_after now (job_on d.activity) change jobs)
agree_reported now place refit devices jobs d change found leaves agree = by_report (job_on d.activity) refl change leaves
  where
    fewer : Agree (with_device place refit devices) jobs
    fewer = agree_device place refit devices jobs d found (same_or_none change (job_on d.activity) (job_on (refit d).activity) leaves) agree

    -- no device has a job whose print ended
    ended : (id : ℕ) (change : JobChange) → job_on d.activity ≡ Some id → job_on (refit d).activity ≡ None → Agree (with_device place refit devices) (jobs_reported id change now jobs)
    ended id change had none = record {
      in_spool = λ k one has. (others_reported id change now jobs one (λ same. elim (cases_eq k place) [
        | inl here ↦ not_some (sym none ∙ (sym (job_here place refit devices d found) ∙ subst (λ (p : ℕ). job_of (with_device place refit devices) p ≡ Some one) here has))
        | inr differ ↦ differ (agree.apart k place one (sym (job_elsewhere place k refit devices differ) ∙ has) (job_found place devices d found ∙ (had ∙ ap (λ (n : ℕ). Some n) (sym same))))
      ]) (fewer.in_spool k one has)).on_device;
      apart = fewer.apart;
    }

    changed : (id : ℕ) (change : JobChange) (ends : Bool) → ends_print change ≡ ends → job_on d.activity ≡ Some id → job_on (refit d).activity ≡ cond ends None (job_on d.activity) → Agree (with_device place refit devices) (jobs_reported id change now jobs)
    changed id change true is had none = ended id change had none
    changed id change false is had same = agree_stay (with_device place refit devices) jobs (jobs_reported id change now jobs) (stay_reported id change now jobs is) fewer

    by_report : (o : Option ℕ) → job_on d.activity ≡ o → (change : Option JobChange) → Leaves change (job_on d.activity) (job_on (refit d).activity) → Agree (with_device place refit devices) (jobs_after now o change jobs)
    by_report None is change leaves = fewer
    by_report (Some id) is None leaves = fewer
    by_report (Some id) is (Some change) leaves = changed id change (ends_print change) refl is leaves

-- ---- a room that opens

opening_job : (entries : List DeviceEntry) (place : ℕ) → job_of (map opening_device entries) place ≡ None
opening_job [] place = refl
opening_job (entry ∷ entries) zero = refl
opening_job (entry ∷ entries) (suc place) = opening_job entries place

pub no_jobs_agree : (entries : List DeviceEntry) → Agree (map opening_device entries) []
no_jobs_agree entries = record {
  in_spool = λ place id has. absurd (not_some (sym (opening_job entries place) ∙ has));
  apart = λ place other id has too. absurd (not_some (sym (opening_job entries place) ∙ has));
}
