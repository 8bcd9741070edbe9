use Rattle.std.proofs.Common.{◌≡◌, ◌+◌, ◌<◌, ℕ, List, Some, true, length, sym, ap, subst}
use Rattle.base_types.specs.Device.{Device}
use Rattle.base_types.specs.declared.device.Activity.TheVariants.{Running}
use Rattle.job_objects.specs.declared.job_change.JobChange.TheVariants.{Begin}
use Rattle.spool.specs.Spooled.{SpooledRecord, changed}
use Rattle.spool.specs.Jobs.{SpoolRecord, with_job}
use Rattle.print_room.specs.State.{State, with_device, doing}
use Rattle.print_room.specs.DeviceJobs.{Agree}
use Rattle.print_room.specs.Beginning.{waits_at}
use Rattle.print_room.proofs.JobsCanBegin.{begin_agrees}
use Rattle.print_room.proofs.room.PrintRoom.begin.Goals as goal

pub set_activity-requires-clause-agree : goal.set_activity-requires-clause-agree
set_activity-requires-clause-agree c =
    let old = c.self.inside in
    let job = c.args.start.job in
    let end = c.millis.result + c.args.start.time in
    let inside : c.args.start.device < length old.devices.items = rw (ap (λ (s : State). s.devices) c.self.view_is) c.requires.inside in
    let waits : waits_at job old.spool.jobs ≡ true = subst (λ (s : State). waits_at job s.spool.jobs ≡ true) (sym c.self.view_is) c.requires.can.waits in
    let begins : Device → Device = doing (Running (Some (record { job = job; end = end }))) in
    subst (λ (js : List SpooledRecord). Agree (with_device c.place.result begins old.devices.items) js) (sym (ap (λ (s : SpoolRecord). s.jobs) c.begin.ensures.jobs))
    (subst (λ (p : ℕ). Agree (with_device p begins old.devices.items) (with_job job (changed Begin old.last) old.spool.jobs)) (sym c.place.ensures)
    (begin_agrees old.last end c.args.start.device job old.devices.items old.spool.jobs inside waits c.self.invariant.3))
