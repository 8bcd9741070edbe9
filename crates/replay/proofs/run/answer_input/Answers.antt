use Rattle.replay.proofs.Inputs.{some_of_ok, if_some_weaker, input_gives}
use Rattle.replay.proofs.run.answer_input.Goals as goal

pub returns-in-Ok-clause-some : goal.returns-in-Ok-clause-some
returns-in-Ok-clause-some g c =
    if_some_weaker c.ok.result _ _ (λ status gives. input_gives _ _ _ _ _ _ (c.in-Ok.ensures {u = tt}) c.deref.ensures.value gives) (some_of_ok c.replay.result c.ok.result _ c.ok.ensures.value c.replay.ensures.ok)
