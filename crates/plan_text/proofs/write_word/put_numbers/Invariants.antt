use Rattle.std.proofs.Common.{◌≡◌, ◌++◌, drop}
use Rattle.plan_text.specs.Writing.{numbers_text}
use Rattle.plan_text.proofs.write_word.put_numbers.Given as goal

abbrev pub invariant-loop-number : goal.invariant-loop-number
invariant-loop-number l = l.output.items ++ numbers_text (drop l.number-index l.numbers) ≡ l.initial.output.items ++ numbers_text l.numbers
