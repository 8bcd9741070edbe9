use Rattle.std.proofs.Common.{◌∙◌, sym, ap, List, Bool, false, get_or}
use Rattle.printer_objects.specs.declared.printer_attribute.PrinterAttribute.{PrinterAttribute}
use Rattle.printer_objects.specs.Requested.{has_name}
use Rattle.printer_objects.proofs.NamedMarks.{mark_of, name_at}
use Rattle.printer_objects.proofs.printer_shown.printer_attributes.Goals as goal

pub is_wanted-requires-clause-named : goal.is_wanted-requires-clause-named
is_wanted-requires-clause-named c =
    let requested = c.args.requested.now in
    let place = c.loop-place.place in
    ap (λ (marks : List Bool). get_or marks place false) c.named-named.ensures
    ∙ (mark_of requested place c.loop-place-test.true
    ∙ ap (λ (table : List PrinterAttribute). has_name (name_at table place) requested) (sym c.all-table.ensures))
