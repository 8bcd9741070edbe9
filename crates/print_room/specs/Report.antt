-- The effect of a device's report on the device, on its job, and on the job's documents.
use Rattle.std.specs.Prelude.{ℕ, ◌≡◌, ◌+◌, ◌-◌, ◌*◌, ◌==◌, Bool, false, if◌then◌else◌, List, [], Option, Some, None, option_map, slice_get, MatchOption}
use Rattle.std.specs.Option.{option_map_or}
use Rattle.base_types.specs.Needs.{JobNeeds}
use Rattle.base_types.specs.Device.{Device}
use Rattle.base_types.specs.declared.device.Activity.{Activity}
use Rattle.base_types.specs.declared.device.Activity.TheVariants.{Running, Stopped}
use Rattle.base_types.specs.declared.report.Report.{Report}
use Rattle.base_types.specs.declared.report.Report.TheVariants as reported
use Rattle.plan_problem.specs.Time.{rate_of}
use Rattle.job_objects.specs.declared.job_change.JobChange.{JobChange}
use Rattle.job_objects.specs.declared.job_change.JobChange.TheVariants.{Stop, Continue, Done, Fail}
use Rattle.octets.specs.Document.{DocumentRecord}
use Rattle.spool.specs.Spooled.{SpooledRecord}
use Rattle.spool.specs.Kept.{jobs_reported}
use Rattle.spool.specs.Jobs.{job_at, documents_released}
use Rattle.print_room.specs.Activity.{job_on, running_from, stopped_at, taking, idle}
use Rattle.print_room.specs.State.{State, with_device, doing, free_from, holding}

-- whether the device has the job of this number
abbrev pub has_job : ℕ → Activity → Bool
has_job number activity = option_map_or (λ id. id == number) (job_on activity) false

-- the change of the device's job that the report makes
abbrev pub change_by : Report → Activity → Option JobChange
change_by reported.Ready (Stopped interrupted) = Some Continue
change_by reported.Stop (Running printing) = Some Stop
change_by (reported.Done number) activity = if has_job number activity then Some Done else None
change_by (reported.Fail number) activity = if has_job number activity then Some Fail else None
change_by reported.Gone activity = Some Fail
change_by _ _ = None

-- the time left of a job, in ms, of which `printed` impressions are printed, all copies together
abbrev pub time_left : JobNeeds → Device → ℕ → ℕ
time_left needs device printed = (needs.impressions * needs.copies - printed) * rate_of needs device

-- the time left of the device's job, if the device has the job of this number
abbrev pub left_of : ℕ → ℕ → List SpooledRecord → Device → Option ℕ
left_of number printed jobs device =
    if has_job number device.activity then option_map (λ job. time_left job.needs device printed) (job_at number jobs) else None

-- the activity of a device after it has printed this many impressions of its job
abbrev pub paged : ℕ → ℕ → ℕ → List SpooledRecord → Device → Activity
paged now number printed jobs device = option_map_or (λ left. taking left now device.activity) (left_of number printed jobs device) device.activity

-- the activity without the job of this number, if the device has that job
abbrev pub without_job : ℕ → Activity → Activity
without_job number activity = if has_job number activity then idle activity else activity

-- the activity of the device after a report
abbrev pub activity_after : ℕ → Report → List SpooledRecord → Device → Activity
activity_after now (reported.Hello name) jobs device = device.activity
activity_after now (reported.Media names) jobs device = device.activity
activity_after now reported.Ready jobs device = running_from now device.activity
activity_after now reported.Stop jobs device = stopped_at now device.activity
activity_after now (reported.Busy time) jobs device = device.activity
activity_after now (reported.Pages number printed) jobs device = paged now number printed jobs device
activity_after now (reported.Done number) jobs device = without_job number device.activity
activity_after now (reported.Fail number) jobs device = without_job number device.activity
activity_after now reported.Gone jobs device = stopped_at now (idle device.activity)

-- the device after a report: it holds other media, or begins no job for a time, or has another activity; a device that is gone has no moment before which it begins no job
abbrev pub refitted : ℕ → Report → Activity → Device → Device
refitted now (reported.Media names) activity device = holding names.items device
refitted now (reported.Busy time) activity device = free_from (now + time) device
refitted now reported.Gone activity device = free_from 0 (doing activity device)
refitted now report activity device = doing activity device

-- the jobs after the change of the device's job
abbrev pub jobs_after : ℕ → Option ℕ → Option JobChange → List SpooledRecord → List SpooledRecord
jobs_after now (Some id) (Some change) jobs = jobs_reported id change now jobs
jobs_after now _ _ jobs = jobs

-- the documents that are handed out for the change of the device's job
abbrev pub documents_out : Option ℕ → Option JobChange → List SpooledRecord → List DocumentRecord
documents_out (Some id) (Some change) jobs = documents_released id change jobs
documents_out _ _ jobs = []

-- the state after a report of this device, which is at `place`
abbrev pub state_after : ℕ → ℕ → Report → Device → State → State
state_after now place report device old = record old {
  last = now;
  devices = with_device place (refitted now report (activity_after now report old.spool.jobs device)) old.devices;
  spool = record old.spool { jobs = jobs_after now (job_on device.activity) (change_by report device.activity) old.spool.jobs };
}

-- The effect of a report: the state after it, and the documents that are handed out. If no device is at the place, only the last moment changes.
abbrev pub Reports : ℕ → ℕ → Report → State → List DocumentRecord → State → Type 0
Reports now place report old documents new =
    MatchOption (slice_get old.devices place)
    ((new ≡ record old { last = now }) × (documents ≡ []))
    (λ device. (new ≡ state_after now place report device old)
    × (documents ≡ documents_out (job_on device.activity) (change_by report device.activity) old.spool.jobs))
