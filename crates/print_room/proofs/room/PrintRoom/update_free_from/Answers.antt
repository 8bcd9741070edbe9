use Rattle.std.proofs.Common.{◌≡◌, ◌<◌, List, length, get_or, refl, sym, ap, subst}
use Rattle.base_types.specs.Device.{Device}
use Rattle.print_room.specs.State.{State, free_from}
use Rattle.print_room.proofs.StillGood.{with_same}
use Rattle.print_room.proofs.room.PrintRoom.update_free_from.Goals as goal

pub returns-else-index-moment : goal.returns-else-index-moment
returns-else-index-moment c =
    let old : State = c.args.self.now in
    let d : Device = c.index.result.now in
    let inside : c.args.place < length old.devices = c.requires.inside in
    let is : d ≡ get_or old.devices c.args.place d = subst (λ (ds : List Device). d ≡ get_or ds c.args.place d) (ap (λ (s : State). s.devices) c.self.view_is) c.index.ensures in
    let same : free_from c.args.moment d ≡ d = subst (λ (x : Device). free_from c.args.moment x ≡ x) c.behind-self.view_is (rw c.if-index-moment.false refl) in
    ap (λ (ds : List Device). record old { devices = ds }) (sym (with_same c.args.place (free_from c.args.moment) old.devices d inside is same))
