use Rattle.std.proofs.Common.{◌≡◌, ◌∙◌, true, false, sym, ap, rules}
use Rattle.std.proofs.lemmas.Result.{IfOk-weaker}
use Rattle.journal.proofs.LostTurn.{loses_all}
use Rattle.journal.proofs.restarting.lose_all.Goals as goal

pub returns : goal.returns
returns c =
    IfOk-weaker c.kept_text.result _ _
    (λ text is.
    loses_all _ _ _ _ _ _ c.turn_paused.ensures (λ w. (w.0.wire.all_failed ≡ true) × (w.1.began ≡ false))
    (λ x poll y moved good. let f = moved.0.0 good.0 in ((f.0, sym (ap (λ w. w.began) moved.1) ∙ good.1), f.1))
    (λ x note y moved good. let f = moved.0 good.1 in ((sym (ap (λ w. w.wire.all_failed) moved.1) ∙ good.0, f.0), f.1))
    (λ w. w.0.notes) (λ x poll y moved. moved.0.1) (λ x note y moved. ap (λ w. w.notes) moved.1) (λ x choice y moved. moved)
    c.begin.ensures (search rules, search rules) (search rules) (search rules) (search rules) _ _ c.restarted.ensures.lines c.end_turn.ensures.lines text.items is)
    c.kept_text.ensures
