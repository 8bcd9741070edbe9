use Rattle.std.proofs.Common.{refl, sym, subst, Some}
use Rattle.settings_file.specs.Settings.{device_named}
use Rattle.connections.specs.declared.step.Step.{Step}
use Rattle.connections.specs.States.{DeviceState}
use Rattle.connections.specs.Peers.{NextDevice}
use Rattle.connections.proofs.Readers.{report_failed}
use Rattle.connections.proofs.device.Device.next.Goals as goal

pub returns-in-Err : goal.returns-in-Err
returns-in-Err c =
    let t : DeviceState = record { reader = c.self.inside.reader; device = c.self.inside.device } in
    let u : DeviceState = record { reader = c.next_report.new.self; device = c.self.inside.device } in
    subst (λ (s : DeviceState). NextDevice (device_named c.args.settings.now) (Some c.link_step.result) s u) c.self.view_is
    (subst (λ (what : Step). NextDevice (device_named c.args.settings.now) (Some what) t u) (sym c.link_step.ensures) (report_failed (device_named c.args.settings.now) t u c.in-Err.error c.in-Err.ensures.answer refl))
