use Rattle.std.proofs.Common.{◌≡◌, ◌∙◌, List, length, refl, ap}
use Rattle.base_types.specs.Device.{Device}
use Rattle.print_room.specs.State.{State, with_device, doing, free_from}
use Rattle.print_room.proofs.Devices.{length_with, twice_changed}
use Rattle.print_room.proofs.room.PrintRoom.refit.Goals as goal

pub update_free_from-requires-in-Gone-clause-inside : goal.update_free_from-requires-in-Gone-clause-inside
update_free_from-requires-in-Gone-clause-inside c =
    let same : length c.update_activity.new.self.devices ≡ length c.args.self.now.devices = ap (λ (s : State). length s.devices) c.update_activity.ensures ∙ length_with c.args.place (doing c.args.activity) c.args.self.now.devices in
    rw same c.requires.inside

pub returns-in-Gone : goal.returns-in-Gone
returns-in-Gone c =
    let old : State = c.args.self.now in
    c.update_free_from-in-Gone.ensures
    ∙ (ap (λ (s : State). record s { devices = with_device c.args.place (free_from 0) s.devices }) c.update_activity.ensures
    ∙ (ap (λ (ds : List Device). record old { devices = ds }) (twice_changed c.args.place (doing c.args.activity) (free_from 0) old.devices)
    ∙ rw (c.in-Gone.is) refl))
