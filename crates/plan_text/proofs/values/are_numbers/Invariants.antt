use Rattle.std.proofs.Common.{◌≡◌, map, drop}
use Rattle.std.specs.List.{list_all}
use Rattle.text.specs.Digits.{is_number}
use Rattle.plan_text.proofs.values.are_numbers.Given as goal

abbrev pub invariant-loop-word : goal.invariant-loop-word
invariant-loop-word l = list_all is_number (map (λ word. word.now) (drop l.word-index l.words)) ≡ list_all is_number (map (λ word. word.now) l.words)
