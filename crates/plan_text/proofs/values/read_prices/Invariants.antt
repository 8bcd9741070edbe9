use Rattle.std.proofs.Common.{◌≡◌, map, drop}
use Rattle.plan_text.specs.Reading.{with_prefix}
use Rattle.plan_text.specs.Word.{prices_at}
use Rattle.plan_text.proofs.values.read_prices.Given as goal

abbrev pub invariant-loop-word : goal.invariant-loop-word
invariant-loop-word l = with_prefix l.prices.items (prices_at (map (λ word. word.now) (drop l.word-index l.words))) ≡ prices_at (map (λ word. word.now) l.words)
