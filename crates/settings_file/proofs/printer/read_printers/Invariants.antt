use Rattle.std.proofs.Common.{◌≡◌, [], drop, map}
use Rattle.toml.specs.View.{table_view}
use Rattle.settings_file.specs.Printer.{printers_of}
use Rattle.settings_file.proofs.printer.read_printers.Given as goal

abbrev pub invariant-loop-table : goal.invariant-loop-table
invariant-loop-table l =
    printers_of l.devices [] (map (λ t. table_view t.now) l.tables) ≡ printers_of l.devices l.printers.items (map (λ t. table_view t.now) (drop l.table-index l.tables))
