use Rattle.std.proofs.Common.{◌≡◌, ◌∷◌, [], ◌∙◌, refl, ap, subst, ◌++◌}
use Rattle.journal.specs.declared.gate.Pass.{Pass}
use Rattle.journal.specs.Passing.{calls_in, passed, ArePassed}
use Rattle.daemon.proofs.RecordingWire.{are_noted}
use Rattle.daemon.proofs.Gates.{are_called, are_passed, has_no_note}
use Rattle.daemon.proofs.serving.Server.run_turn.Goals as goal

pub returns : goal.returns
returns g c =
    let turn = c.turn.ensures in
    let hs = turn.happenings in
    record {
      happenings = hs;
      turns = turn.turns;
      reaches = turn.reaches;
      are_passed =
          subst (λ (p : Pass). ArePassed p (calls_in hs)) c.set.ensures.pass
          (are_passed _ (λ a poll b. b.history.calls ≡ a.history.calls ++ poll ∷ []) (λ w. w.0.wire.wire) (λ w. w.0.wire.pass) (λ x poll y moved. moved.0.0) (λ x note y moved. ap (λ w. w.wire.pass) moved.1) (λ x choice y moved. moved) hs _ _ turn.leads);
      calls =
          are_called _ (λ w. w.0.wire.wire) (λ w. w.0.wire.pass) (λ w. w.history.calls) (λ x poll y moved. moved.0.0) (λ x note y moved. (ap (λ w. w.wire.wire) moved.1, ap (λ w. w.wire.pass) moved.1)) (λ x choice y moved. moved) hs _ _ turn.leads
          ∙ (ap (λ (p : Pass). c.set.new.self.wire.history.calls ++ passed p (calls_in hs)) c.set.ensures.pass ∙ (ap (λ w. w.history.calls ++ passed c.args.pass (calls_in hs)) c.set.ensures.wire ∙ ap (λ h. h.calls ++ passed c.args.pass (calls_in hs)) c.set_moment.ensures));
      notes = are_noted _ (λ w. w.0.notes) (λ x poll y moved. moved.0.1) (λ x note y moved. ap (λ w. w.notes) moved.1) (λ x choice y moved. moved) hs _ _ turn.leads;
      unnotified = has_no_note _ (λ w. w.1.notified) (λ x poll y moved. ap (λ n. n.notified) moved.1) (λ x note y moved. moved.0.1) (λ x choice y moved. moved) hs _ _ turn.leads;
      journaled = refl;
    }
