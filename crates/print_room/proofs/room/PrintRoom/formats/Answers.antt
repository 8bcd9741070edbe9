use Rattle.std.proofs.Common.{◌≡◌, ◌∙◌, Some, None, rules, ap, sym, subst, slice_get}
use Rattle.std.proofs.lemmas.Option.{gets, slice_get_past}
use Rattle.printer_objects.specs.Offer.{formats_of}
use Rattle.print_room.specs.State.{State}
use Rattle.print_room.proofs.Formats.{has_row, row_of}
use Rattle.print_room.proofs.room.PrintRoom.formats.Goals as goal

pub returns-in-Some : goal.returns-in-Some
returns-in-Some c = λ entry is.
    let room = c.self.inside in
    let row : slice_get room.formats.items c.args.printer ≡ Some c.in-Some.formats.now = search (gets, rules) in
    let printer : slice_get room.settings.printers c.args.printer ≡ Some entry = subst (λ (s : State). slice_get s.settings.printers c.args.printer ≡ Some entry) (sym c.self.view_is) is in
    c.deref-in-Some.ensures.value
    ∙ (row_of (λ f. f.items) room.devices.items room.settings.printers room.formats.items c.args.printer c.in-Some.formats.now entry c.self.invariant.8 row printer
    ∙ ap (λ (s : State). formats_of (record { devices = s.devices; printer = entry })) c.self.view_is)

pub returns-in-None : goal.returns-in-None
returns-in-None c = λ entry is.
    let room = c.self.inside in
    let row : slice_get room.formats.items c.args.printer ≡ None = search (gets, slice_get_past, rules) in
    let printer : slice_get room.settings.printers c.args.printer ≡ Some entry = subst (λ (s : State). slice_get s.settings.printers c.args.printer ≡ Some entry) (sym c.self.view_is) is in
    absurd (has_row (λ f. f.items) room.devices.items room.settings.printers room.formats.items c.args.printer entry c.self.invariant.8 row printer)
