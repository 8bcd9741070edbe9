use Rattle.std.proofs.Common.{◌≡◌, ◌++◌, map, drop, length, filter, nat_lt}
use Rattle.lpd.proofs.words.filled.Given as goal

abbrev pub invariant-loop-word : goal.invariant-loop-word
invariant-loop-word l =
    l.texts.items ++ filter (λ operand. nat_lt 0 (length operand)) (map (λ word. word.now) (drop l.word-index l.words))
    ≡ filter (λ operand. nat_lt 0 (length operand)) (map (λ word. word.now) l.words)
