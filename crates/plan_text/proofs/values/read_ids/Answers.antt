use Rattle.std.proofs.Common.{◌∙◌, refl, arith}
use Rattle.base_types.specs.declared.limits.TheConstants.Limits.{LAST_JOB_ID}
use Rattle.plan_text.specs.Word.{number_at, numbers_at}
use Rattle.plan_text.proofs.NextValues.{next_value}
use Rattle.plan_text.proofs.values.read_ids.Goals as goal

pub loop-word-preserved : goal.loop-word-preserved
loop-word-preserved c =
    let next = next_value (number_at 1 LAST_JOB_ID) (numbers_at 1 LAST_JOB_ID) (λ _ _. refl) c.loop-word.ids.items c.args.words.now c.loop-word.word-index _ c.in_ok-id.id (omega arith) c.in_ok-id.ensures in
    rw (c.in_ok-push.ensures.items) (next ∙ c.loop-word.invariant)
