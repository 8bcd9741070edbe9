use Rattle.std.proofs.Common.{◌∙◌, ◌+◌, ap, drop, map, arith}
use Rattle.std.proofs.lemmas.List.{map_push}
use Rattle.toml.specs.View.{view, items_view}
use Rattle.toml.proofs.Views.{items_view-drop}
use Rattle.settings_file.specs.Entry.{item_texts}
use Rattle.settings_file.proofs.ItemLemmas.{followed, next_text}
use Rattle.settings_file.proofs.entry.item_texts.Goals as goal

pub loop-value-preserved : goal.loop-value-preserved
loop-value-preserved c =
    let found = map (λ t. t.now) c.loop-value.texts.items in
    let here = ap (λ values. followed found (item_texts values)) (items_view-drop c.args.array.now.items c.loop-value.value-index c.value-item.result (omega arith)) in
    let next = next_text found (view c.value-item.result) c.in-Some.text.now (items_view (drop (c.loop-value.value-index + 1) c.args.array.now.items)) c.in-Some.ensures in
    rw (c.in_ok-push-in-Some.ensures.items, map_push) (c.loop-value.invariant ∙ (rw (← (rw c.deref-value-items.ensures.value at c.value-item.is)) at here) ∙ next)
