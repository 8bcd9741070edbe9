use Rattle.std.proofs.Common.{◌≡◌, map, filter, take}
use Rattle.ipp_codec.specs.Tag as tags
use Rattle.printer_objects.specs.PrinterAttribute.{is_wanted_of_printer, printer_table}
use Rattle.printer_objects.specs.PrinterShown.{printer_shown}
use Rattle.printer_objects.proofs.printer_shown.printer_attributes.Given as goal

abbrev pub invariant-loop-place : goal.invariant-loop-place
invariant-loop-place l = l.group ≡ record { tag = tags.printer_attributes; attributes = map (printer_shown l.shown) (filter (is_wanted_of_printer l.requested) (take l.place printer_table)) }
