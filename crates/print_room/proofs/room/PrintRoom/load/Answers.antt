use Rattle.std.proofs.Common.{◌≡◌, ◌∙◌, ◌<◌, ◌≤◌, ap, sym, subst, refl, inl, List, set, length, map, arith, All}
use Rattle.std.specs.Vec.{with_items}
use Rattle.std.proofs.lemmas.List.{with_items_is}
use Rattle.base_types.specs.declared.device.Medium.{Medium}
use Rattle.base_types.specs.Device.{Device}
use Rattle.settings_file.specs.Settings.{MeetsLimits}
use Rattle.print_room.specs.State.{State, with_device, holding, loaded_if, sets_of, formats_by}
use Rattle.print_room.specs.DeviceJobs.{Agree}
use Rattle.print_room.specs.Activity.{KeepsTime}
use Rattle.base_types.specs.declared.limits.TheConstants.Limits.{DEVICES}
use Rattle.print_room.proofs.Devices.{set_one, all_with, length_with}
use Rattle.print_room.proofs.Formats.{same_formats}
use Rattle.print_room.proofs.DeviceJobs.{found_device, agree_device}
use Rattle.print_room.proofs.room.PrintRoom.load.Goals as goal

pub returns : goal.returns
returns c =
    let inside : c.args.place < length c.self.inside.devices.items = rw (ap (λ (s : State). s.devices) c.self.view_is) c.requires in
    let state : List Device → State = λ (ds : List Device). record { settings = c.self.inside.settings; paused = c.self.inside.printers.items; devices = ds; spool = c.self.inside.spool; last = c.self.inside.last; plan = c.self.inside.plan; begun = c.self.inside.begun.items } in
    let written : Device → State = λ (d : Device). state (set c.self.inside.devices.items c.args.place (holding c.args.names.now d)) in
    let same : length c.load.new.media ≡ c.device.inside.media.len = omega (arith, c.load.auto.media, c.device.inside.media.ok.0, ap (λ (ms : List Medium). length ms) c.deref_mut.ensures.value) in
    let loaded : (with_items c.device.inside.media c.load.new.media).items ≡ map (loaded_if c.args.names.now) c.device.inside.media.items =
    with_items_is c.device.inside.media c.load.new.media same ∙ (c.load.ensures ∙ ap (λ (ms : List Medium). map (loaded_if c.args.names.now) ms) c.deref_mut.ensures.value) in
    rw loaded
    (ap written c.device.view_is
    ∙ (ap written c.index_mut-device.ensures.value
    ∙ (ap state (set_one (holding c.args.names.now) c.self.inside.devices.items c.args.place c.index_mut-device.result.now inside)
    ∙ ap (λ (s : State). record s { devices = with_device c.args.place (holding c.args.names.now) s.devices }) c.self.view_is)))

pub invariant_of-self : goal.invariant_of-self
invariant_of-self c =
    let old = c.self.inside in
    let place = c.args.place in
    let change : Device → Device = holding c.args.names.now in
    let inside : place < length old.devices.items = rw (ap (λ (s : State). s.devices) c.self.view_is) c.requires in
    let d = found_device place old.devices.items inside in
    let written : Device → List Device = λ (d : Device). set old.devices.items place (change d) in
    let same : length c.load.new.media ≡ c.device.inside.media.len = omega (arith, c.load.auto.media, c.device.inside.media.ok.0, ap (λ (ms : List Medium). length ms) c.deref_mut.ensures.value) in
    let loaded : (with_items c.device.inside.media c.load.new.media).items ≡ map (loaded_if c.args.names.now) c.device.inside.media.items =
    with_items_is c.device.inside.media c.load.new.media same ∙ (c.load.ensures ∙ ap (λ (ms : List Medium). map (loaded_if c.args.names.now) ms) c.deref_mut.ensures.value) in
    rw loaded
    (subst (λ (ds : List Device). All (λ d. KeepsTime old.last d.activity) ds × (length ds ≤ DEVICES) × (old.sets.items ≡ sets_of old.settings) × Agree ds old.spool.jobs × (length old.printers.items ≡ length old.settings.printers) × (length ds ≡ length old.settings.devices) × MeetsLimits old.settings × Unit {0} × (map (λ f. f.items) old.formats.items ≡ formats_by ds old.settings.printers))
    (sym (ap written c.device.view_is ∙ (ap written c.index_mut-device.ensures.value ∙ set_one change old.devices.items place c.index_mut-device.result.now inside))) (
      all_with (λ d. KeepsTime old.last d.activity) place change (λ d h. h) old.devices.items c.self.invariant.0,
      rw (length_with place change old.devices.items) c.self.invariant.1,
      c.self.invariant.2,
      agree_device place change old.devices.items old.spool.jobs d.0 d.1 (inl refl) c.self.invariant.3,
      c.self.invariant.4,
      length_with place change old.devices.items ∙ c.self.invariant.5,
      c.self.invariant.6,
      tt,
      c.self.invariant.8 ∙ sym (same_formats change (λ d. refl) place old.devices.items old.settings.printers),
    ))
