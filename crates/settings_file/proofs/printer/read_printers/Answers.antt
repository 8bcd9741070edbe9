use Rattle.std.proofs.Common.{◌∙◌, ◌+◌, drop, map, arith}
use Rattle.std.proofs.lemmas.List.{at_drop_more}
use Rattle.toml.specs.View.{table_view}
use Rattle.settings_file.specs.Printer.{printers_of}
use Rattle.settings_file.proofs.ItemLemmas.{next_printer}
use Rattle.settings_file.proofs.printer.read_printers.Goals as goal

pub loop-table-preserved : goal.loop-table-preserved
loop-table-preserved c =
    let here = at_drop_more (λ ts. printers_of c.args.devices.now c.loop-table.printers.items (map (λ t. table_view t.now) ts)) c.args.tables.now c.loop-table.table-index c.table-item.result (omega arith) in
    let next = next_printer c.args.devices.now c.loop-table.printers.items (table_view c.table-item.result.now) (map (λ t. table_view t.now) (drop (c.loop-table.table-index + 1) c.args.tables.now)) c.in_ok-printer.printer (rw c.deref.ensures.value at c.in_ok-printer.ensures) in
    rw (c.in_ok-push.ensures.items) (c.loop-table.invariant ∙ (rw (← c.table-item.is) at here) ∙ next)
