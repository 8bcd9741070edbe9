use Rattle.std.proofs.Common.{◌≡◌, ◌∙◌, ◌<◌, List, length, get_or, true, sym, ap, subst}
use Rattle.std.specs.List.{list_all}
use Rattle.base_types.specs.Device.{Device}
use Rattle.base_types.specs.declared.device.Medium.{Medium}
use Rattle.print_room.specs.State.{State, holding}
use Rattle.print_room.specs.StillGood.{loads}
use Rattle.print_room.proofs.StillGood.{media_same, with_same}
use Rattle.print_room.proofs.room.PrintRoom.update_media.Goals as goal

pub returns-else-not-are_loaded : goal.returns-else-not-are_loaded
returns-else-not-are_loaded c =
    let old : State = c.args.self.now in
    let d : Device = c.index.result.now in
    let inside : c.args.place < length old.devices = c.requires in
    let is : d ≡ get_or old.devices c.args.place d = subst (λ (ds : List Device). d ≡ get_or ds c.args.place d) (ap (λ (s : State). s.devices) c.self.view_is) c.index.ensures in
    let media : c.deref.result.now ≡ d.media = c.deref.ensures.value ∙ ap (λ (x : Device). x.media) c.behind-self.view_is in
    let loaded : list_all (loads c.args.names.now) d.media ≡ true = subst (λ (ms : List Medium). list_all (loads c.args.names.now) ms ≡ true) media (sym c.are_loaded.ensures ∙ c.if-not-are_loaded.false) in
    let same : holding c.args.names.now d ≡ d = ap (λ (ms : List Medium). record d { media = ms }) (media_same c.args.names.now d.media loaded) in
    ap (λ (ds : List Device). record old { devices = ds }) (sym (with_same c.args.place (holding c.args.names.now) old.devices d inside is same))
