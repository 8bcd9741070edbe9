use Rattle.std.proofs.Common.{◌≡◌, ◌≤◌, ◌∙◌, List, map, length, ap, arith, rules}
use Rattle.std.proofs.lemmas.List.Elements.{All-map}
use Rattle.base_types.specs.Device.{Device}
use Rattle.base_types.specs.declared.limits.TheConstants.Limits.{DEVICES}
use Rattle.settings_file.specs.Settings.{ServerSettings, DeviceEntry}
use Rattle.print_room.specs.Activity.{KeepsTime}
use Rattle.print_room.specs.State.{formats_by, sets_of}
use Rattle.print_room.specs.Opening.{opening_device}
use Rattle.std.proofs.lemmas.List.{length-replicate}
use Rattle.print_room.proofs.Devices.{length_opening}
use Rattle.print_room.proofs.DeviceJobs.{no_jobs_agree}
use Rattle.print_room.proofs.room.PrintRoom.new.Goals as goal

pub invariant_of-result : goal.invariant_of-result
invariant_of-result c =
    let made : c.in_ok-devices.devices.items ≡ map opening_device c.args.settings.devices = c.in_ok-devices.ensures {u = tt} ∙ ap (λ (ds : List DeviceEntry). map opening_device ds) (c.deref.ensures.value ∙ ap (λ (s : ServerSettings). s.devices) c.settings.view_is) in
    let sets : c.in_ok-sets.sets.items ≡ sets_of c.args.settings = search rules in
    let printers : length c.in_ok-printers.printers.items ≡ length c.args.settings.printers = search (length-replicate, rules) in
    let formats : map (λ f. f.items) c.in_ok-formats.formats.items ≡ formats_by c.in_ok-devices.devices.items c.args.settings.printers = search rules in
    let few : length c.in_ok-devices.devices.items ≤ DEVICES = omega (arith, ap (λ (ds : List Device). length ds) made, length_opening c.args.settings.devices, c.requires.few_devices) in (
      rw made (All-map (λ (d : Device). KeepsTime c.start.result d.activity) opening_device _ (λ k d below. tt)),
      few,
      sets,
      rw (made, c.new.ensures) (no_jobs_agree c.args.settings.devices),
      printers,
      ap (λ (ds : List Device). length ds) made ∙ length_opening c.args.settings.devices,
      c.requires,
      tt,
      formats,
    )
