use Rattle.std.proofs.Common.{◌≡◌, map, take}
use Rattle.ipp_operations.proofs.requested.words_of.Given as goal

abbrev pub invariant-loop-word : goal.invariant-loop-word
invariant-loop-word l = l.requested ≡ map (λ word. word.now) (take l.word-index l.words)
