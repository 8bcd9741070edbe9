use Rattle.std.proofs.Common.{◌≡◌, ◌++◌, drop}
use Rattle.plan_text.specs.Writing.{numbers_text}
use Rattle.plan_text.proofs.write_word.put_ids.Given as goal

abbrev pub invariant-loop-id : goal.invariant-loop-id
invariant-loop-id l = l.output.items ++ numbers_text (drop l.id-index l.ids) ≡ l.initial.output.items ++ numbers_text l.ids
