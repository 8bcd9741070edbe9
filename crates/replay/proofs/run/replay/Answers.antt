use Rattle.std.proofs.Common.{refl}
use Rattle.std.proofs.lemmas.Result.{IfOk-weaker}
use Rattle.replay.proofs.Refusals.{trace_gives_no_settings}
use Rattle.replay.proofs.run.replay.Goals as goal

pub returns-in_default-clause-ok : goal.returns-in_default-clause-ok
returns-in_default-clause-ok c = IfOk-weaker c.refuse_settings.result _ _ (λ status h. trace_gives_no_settings _ _ h.1 _ _ status (c.in_default.ensures.none refl) h.2 c.requires.empty h.3 h.0) c.refuse_settings.ensures.ok
