use Rattle.std.proofs.Common.{◌≡◌, ◌≤◌, ◌++◌, [], drop, map, vec_len}
use Rattle.settings_file.specs.Entry.{new_texts}
use Rattle.settings_file.proofs.entry.new_texts.Given as goal

abbrev pub invariant-loop-text : goal.invariant-loop-text
invariant-loop-text l =
    (vec_len l.found ≤ l.most) × (new_texts [] (map (λ t. t.now) l.texts) ≡ l.found.items ++ new_texts l.found.items (map (λ t. t.now) (drop l.text-index l.texts)))
