use Rattle.std.proofs.Common.{◌≡◌, false, IfOk, refl, subst, slice_get}
use Rattle.std.specs.Option.{option_map_or}
use Rattle.printer_objects.specs.PrinterShown.{ShownPrinter, printer_attributes}
use Rattle.listings.proofs.PrinterGroup.{printer_shown_so}
use Rattle.listings.proofs.groups.printer_group.Goals as goal

pub returns : goal.returns
returns c =
    let room = c.args.room.now in
    let shown : ShownPrinter = record { paused = c.printer_at.result.now; offer = c.args.offer.now; uri_base = c.uri_base.result.now; busy = c.is_busy.result; queued = c.queued.result; moment = c.args.now } in
    let paused : c.printer_at.result.now ≡ option_map_or (λ p. p) (slice_get room.paused c.args.printer) false = cc in
    subst (λ (shown : ShownPrinter). IfOk c.printer_attributes.result (λ group. group ≡ printer_attributes shown c.args.requested.now)) (printer_shown_so c.args.printer c.args.now c.args.offer.now room shown paused refl (cc) (cc) (cc) refl) c.printer_attributes.ensures
