use Rattle.std.proofs.Common.{◌∙◌, refl, arith}
use Rattle.plan_text.specs.Word.{entry_at, entries_at}
use Rattle.plan_text.proofs.NextValues.{next_value}
use Rattle.plan_text.proofs.values.read_entries.Goals as goal

pub loop-word-preserved : goal.loop-word-preserved
loop-word-preserved c =
    let next = next_value entry_at entries_at (λ _ _. refl) c.loop-word.entries.items c.args.words.now c.loop-word.word-index _ c.in_ok-entry.entry (omega arith) c.in_ok-entry.ensures in
    rw (c.in_ok-push.ensures.items) (next ∙ c.loop-word.invariant)
