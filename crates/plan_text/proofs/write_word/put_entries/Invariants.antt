use Rattle.std.proofs.Common.{◌≡◌, ◌++◌, drop}
use Rattle.plan_text.specs.Writing.{entries_text}
use Rattle.plan_text.proofs.write_word.put_entries.Given as goal

abbrev pub invariant-loop-entry : goal.invariant-loop-entry
invariant-loop-entry l = l.output.items ++ entries_text (drop l.entry-index l.entries) ≡ l.initial.output.items ++ entries_text l.entries
