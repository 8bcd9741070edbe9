use Rattle.std.proofs.Common.{◌≡◌, ◌<◌, List, length, get_or, refl, sym, ap, subst}
use Rattle.base_types.specs.Device.{Device}
use Rattle.print_room.specs.State.{State, doing}
use Rattle.print_room.proofs.StillGood.{with_same}
use Rattle.print_room.proofs.room.PrintRoom.update_activity.Goals as goal

pub returns-else-not-is_same : goal.returns-else-not-is_same
returns-else-not-is_same c =
    let old : State = c.args.self.now in
    let d : Device = c.index.result.now in
    let inside : c.args.place < length old.devices = c.requires.inside in
    let is : d ≡ get_or old.devices c.args.place d = subst (λ (ds : List Device). d ≡ get_or ds c.args.place d) (ap (λ (s : State). s.devices) c.self.view_is) c.index.ensures in
    let same : doing c.args.activity d ≡ d = subst (λ (x : Device). doing c.args.activity x ≡ x) c.behind-self.view_is (rw (c.is_same.ensures c.if-not-is_same.false) refl) in
    ap (λ (ds : List Device). record old { devices = ds }) (sym (with_same c.args.place (doing c.args.activity) old.devices d inside is same))
