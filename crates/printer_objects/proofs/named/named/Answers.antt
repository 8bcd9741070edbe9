use Rattle.std.proofs.Common.{◌≡◌, ◌∙◌, ◌<◌, rules, ap, sym, List, Bool, length, get_or}
use Rattle.printer_objects.specs.Named.{marked}
use Rattle.printer_objects.specs.PrinterAttribute.{printer_table}
use Rattle.printer_objects.proofs.NamedMarks.{named_more, none_named}
use Rattle.printer_objects.proofs.named.named.Goals as goal

pub loop-asked-init : goal.loop-asked-init
loop-asked-init c = sym none_named

pub loop-asked-preserved : goal.loop-asked-preserved
loop-asked-preserved c =
    let requested = c.args.requested.now in
    let i = c.loop-asked.asked-index in
    let asked = c.as_bytes.result.now in
    let inside : i < length requested = search rules in
    let is : asked ≡ get_or requested i asked = search rules in
    let step : c.mark.new.marks ≡ marked asked c.loop-asked.marks printer_table = search rules in
    step ∙ (ap (λ (marks : List Bool). marked asked marks printer_table) c.loop-asked.invariant ∙ named_more requested i asked inside is)
