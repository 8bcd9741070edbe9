use Rattle.std.proofs.Common.{◌≡◌, drop, map}
use Rattle.toml.specs.View.{items_view}
use Rattle.settings_file.specs.Entry.{item_texts}
use Rattle.settings_file.proofs.ItemLemmas.{followed}
use Rattle.settings_file.proofs.entry.item_texts.Given as goal

abbrev pub invariant-loop-value : goal.invariant-loop-value
invariant-loop-value l = item_texts (items_view l.array.items) ≡ followed (map (λ t. t.now) l.texts.items) (item_texts (items_view (drop l.value-index l.array.items)))
