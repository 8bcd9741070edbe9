use Rattle.std.proofs.Common.{◌≡◌, map, drop}
use Rattle.plan_text.specs.Reading.{with_prefix}
use Rattle.plan_text.specs.Word.{entries_at}
use Rattle.plan_text.proofs.values.read_entries.Given as goal

abbrev pub invariant-loop-word : goal.invariant-loop-word
invariant-loop-word l = with_prefix l.entries.items (entries_at (map (λ word. word.now) (drop l.word-index l.words))) ≡ entries_at (map (λ word. word.now) l.words)
