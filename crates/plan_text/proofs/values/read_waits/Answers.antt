use Rattle.std.proofs.Common.{◌∙◌, refl, arith}
use Rattle.base_types.specs.declared.limits.TheConstants.Limits.{WAIT}
use Rattle.plan_text.specs.Word.{number_at, numbers_at}
use Rattle.plan_text.proofs.NextValues.{next_value}
use Rattle.plan_text.proofs.values.read_waits.Goals as goal

pub loop-word-preserved : goal.loop-word-preserved
loop-word-preserved c =
    let next = next_value (number_at 0 WAIT) (numbers_at 0 WAIT) (λ _ _. refl) c.loop-word.waits.items c.args.words.now c.loop-word.word-index _ c.in_ok-wait.wait (omega arith) c.in_ok-wait.ensures.value in
    rw (c.in_ok-push.ensures.items) (next ∙ c.loop-word.invariant)
