use Rattle.std.proofs.Common.{◌∙◌, ◌+◌, ap, drop, map, arith}
use Rattle.std.proofs.lemmas.List.{map_push}
use Rattle.toml.specs.View.{view, items_view, table_view}
use Rattle.toml.proofs.Views.{items_view-drop}
use Rattle.settings_file.specs.Entry.{item_tables}
use Rattle.settings_file.proofs.ItemLemmas.{followed, next_table}
use Rattle.settings_file.proofs.entry.item_tables.Goals as goal

pub loop-value-preserved : goal.loop-value-preserved
loop-value-preserved c =
    let found = map (λ t. table_view t.now) c.loop-value.tables.items in
    let here = ap (λ values. followed found (item_tables values)) (items_view-drop c.args.array.now.items c.loop-value.value-index c.value-item.result (omega arith)) in
    let next = next_table found (view c.value-item.result) (table_view c.in-Some.table.now) (items_view (drop (c.loop-value.value-index + 1) c.args.array.now.items)) c.in-Some.ensures in
    rw (c.in_ok-push-in-Some.ensures.items, map_push) (c.loop-value.invariant ∙ (rw (← (rw c.deref-value-items.ensures.value at c.value-item.is)) at here) ∙ next)
