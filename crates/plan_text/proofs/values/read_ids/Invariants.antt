use Rattle.std.proofs.Common.{◌≡◌, map, drop}
use Rattle.base_types.specs.declared.limits.TheConstants.Limits.{LAST_JOB_ID}
use Rattle.plan_text.specs.Reading.{with_prefix}
use Rattle.plan_text.specs.Word.{numbers_at}
use Rattle.plan_text.proofs.values.read_ids.Given as goal

abbrev pub invariant-loop-word : goal.invariant-loop-word
invariant-loop-word l = with_prefix l.ids.items (numbers_at 1 LAST_JOB_ID (map (λ word. word.now) (drop l.word-index l.words))) ≡ numbers_at 1 LAST_JOB_ID (map (λ word. word.now) l.words)
