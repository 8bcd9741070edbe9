use Rattle.std.proofs.Common.{◌≡◌, ◌∙◌, Some, List, rules, ap, sym}
use Rattle.base_types.specs.Device.{Device}
use Rattle.settings_file.specs.Settings.{PrinterEntry}
use Rattle.printer_objects.specs.Offer.{formats_of}
use Rattle.dispatcher.specs.Target.{printer_of}
use Rattle.dispatcher.proofs.Named.{named_at}
use Rattle.dispatcher.proofs.checks.named_printer.Goals as goal

pub new-requires : goal.new-requires
new-requires c =
    let printers : List PrinterEntry = c.args.room.now.settings.printers in
    let found : printer_of c.args.target.now printers ≡ Some (c.in-Some.found.0, c.in-Some.found.1.now) = search rules in
    c.formats.ensures c.in-Some.found.1.now (named_at c.args.target.now printers c.in-Some.found.0 c.in-Some.found.1.now found)
    ∙ ap (λ (devices : List Device). formats_of (record { devices = devices; printer = c.in-Some.found.1.now })) (sym c.devices.ensures.value)
