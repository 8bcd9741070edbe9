use Rattle.std.proofs.Common.{◌≡◌, ◌∙◌, List, [], Option, Some, refl, sym, ap, subst}
use Rattle.std.specs.Prelude.{slice_get, MatchOption}
use Rattle.base_types.specs.Device.{Device}
use Rattle.print_room.specs.Activity.{job_on}
use Rattle.print_room.specs.State.{State, with_device, doing}
use Rattle.print_room.specs.Report.{change_by, activity_after, refitted, jobs_after, documents_out, state_after}
use Rattle.print_room.specs.DeviceJobs.{Agree}
use Rattle.print_room.proofs.DeviceJobs.{read_device, activity_leaves, report_leaves, same_or_none, agree_device, agree_reported}
use Rattle.print_room.proofs.DocumentsStay.{reports_keep}
use Rattle.print_room.proofs.room.PrintRoom.report.Goals as goal

pub refit-requires-clause-agree : goal.refit-requires-clause-agree
refit-requires-clause-agree c =
    let s : State = c.advance.new.self in
    let d : Device = c.in-Some.device.now in
    let report = c.args.report.now in
    let found : slice_get s.devices c.args.place ≡ Some d = read_device c.deref.result.now s.devices c.args.place d (c.deref.ensures.value ∙ ap (λ (t : State). t.devices) c.self.view_is) c.in-Some.ensures.lookup.3.0 c.in-Some.ensures.lookup.1 in
    let agree : Agree s.devices s.spool.jobs = subst (λ (t : State). Agree t.devices t.spool.jobs) c.self.view_is c.self.invariant.3 in
    rw c.activity_after-next.ensures.activity
    (agree_device c.args.place (doing (activity_after c.args.now report s.spool.jobs d)) s.devices s.spool.jobs d found
    (same_or_none (change_by report d.activity) (job_on d.activity) (job_on (activity_after c.args.now report s.spool.jobs d)) (activity_leaves c.args.now report s.spool.jobs d)) agree)

pub change_job-requires : goal.change_job-requires
change_job-requires c =
    let s : State = c.advance.new.self in
    let d : Device = c.in-Some.device.now in
    let report = c.args.report.now in
    let found : slice_get s.devices c.args.place ≡ Some d = read_device c.deref.result.now s.devices c.args.place d (c.deref.ensures.value ∙ ap (λ (t : State). t.devices) c.self.view_is) c.in-Some.ensures.lookup.3.0 c.in-Some.ensures.lookup.1 in
    let agree : Agree s.devices s.spool.jobs = subst (λ (t : State). Agree t.devices t.spool.jobs) c.self.view_is c.self.invariant.3 in
    let job : c.job_on-job.result ≡ job_on d.activity = c.job_on-job.ensures ∙ ap (λ (x : Device). job_on x.activity) c.device.view_is in
    let change : c.change_by-change.result ≡ change_by report d.activity = c.change_by-change.ensures ∙ ap (λ (x : Device). change_by report x.activity) c.device.view_is in
    subst (λ (t : State). Agree t.devices (jobs_after c.args.now c.job_on-job.result c.change_by-change.result t.spool.jobs)) (sym c.refit.ensures)
    (rw (job, change, c.activity_after-next.ensures.activity)
    (agree_reported c.args.now c.args.place (refitted s.last report (activity_after c.args.now report s.spool.jobs d)) s.devices s.spool.jobs d (change_by report d.activity) found (report_leaves s.last c.args.now report s.spool.jobs d) agree))

pub returns-clause-reports : goal.returns-clause-reports
returns-clause-reports c =
    let old : State = c.args.self.now in
    let s : State = c.advance.new.self in
    let d : Device = c.in-Some.device.now in
    let report = c.args.report.now in
    let same : s ≡ record old { last = c.args.now } = c.advance.ensures.state in
    let found : slice_get old.devices c.args.place ≡ Some d = read_device c.deref.result.now old.devices c.args.place d (c.deref.ensures.value ∙ (ap (λ (t : State). t.devices) c.self.view_is ∙ ap (λ (t : State). t.devices) same)) c.in-Some.ensures.lookup.3.0 c.in-Some.ensures.lookup.1 in
    let job : c.job_on-job.result ≡ job_on d.activity = c.job_on-job.ensures ∙ ap (λ (x : Device). job_on x.activity) c.device.view_is in
    let change : c.change_by-change.result ≡ change_by report d.activity = c.change_by-change.ensures ∙ ap (λ (x : Device). change_by report x.activity) c.device.view_is in
    let next : c.activity_after-next.result ≡ activity_after c.args.now report old.spool.jobs d = c.activity_after-next.ensures.activity ∙ ap (λ (t : State). activity_after c.args.now report t.spool.jobs d) same in
    let with_jobs : State → State = λ (t : State). record t { spool = record t.spool { jobs = jobs_after c.args.now c.job_on-job.result c.change_by-change.result t.spool.jobs } } in
    let fitted : State → State = λ (t : State). record t { devices = with_device c.args.place (refitted t.last report c.activity_after-next.result) t.devices } in
    let all : with_jobs (fitted (record old { last = c.args.now })) ≡ state_after c.args.now c.args.place report d old = rw (job, change, next) refl in
    let jobs : State → List _ = λ (t : State). documents_out c.job_on-job.result c.change_by-change.result t.spool.jobs in
    let out : jobs old ≡ documents_out (job_on d.activity) (change_by report d.activity) old.spool.jobs = rw (job, change) refl in
    subst (λ (o : Option Device). MatchOption o ((c.change_job.new.self ≡ record old { last = c.args.now }) × (c.change_job.result.items ≡ [])) (λ device. (c.change_job.new.self ≡ state_after c.args.now c.args.place report device old) × (c.change_job.result.items ≡ documents_out (job_on device.activity) (change_by report device.activity) old.spool.jobs))) (sym found) (
      c.change_job.ensures.jobs ∙ (ap with_jobs (c.refit.ensures ∙ ap fitted same) ∙ all),
      c.change_job.ensures.documents ∙ (ap jobs (c.refit.ensures ∙ ap fitted same) ∙ out),
    )

pub returns-clause-keep : goal.returns-clause-keep
returns-clause-keep c =
    let old : State = c.args.self.now in
    let agree : Agree old.devices old.spool.jobs = subst (λ (t : State). Agree t.devices t.spool.jobs) (c.self.view_is ∙ c.advance.ensures.state) c.self.invariant.3 in
    reports_keep c.args.now c.args.place c.args.report.now old c.change_job.result.items c.change_job.new.self agree (returns-clause-reports c)
