use Rattle.std.proofs.Common.{◌≡◌, drop, map}
use Rattle.toml.specs.View.{items_view, table_view}
use Rattle.settings_file.specs.Entry.{item_tables}
use Rattle.settings_file.proofs.ItemLemmas.{followed}
use Rattle.settings_file.proofs.entry.item_tables.Given as goal

abbrev pub invariant-loop-value : goal.invariant-loop-value
invariant-loop-value l = item_tables (items_view l.array.items) ≡ followed (map (λ t. table_view t.now) l.tables.items) (item_tables (items_view (drop l.value-index l.array.items)))
