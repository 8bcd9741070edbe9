use Rattle.std.proofs.Common.{◌≡◌, ◌∙◌, ◌++◌, List, ℕ, sym, ap, subst, rules}
use Rattle.journal.specs.File.{KeepsPlayed}
use Rattle.journal.proofs.Filed.{kept_lines, keeps_turn}
use Rattle.journal.proofs.RecordingWire.{turns_as}
use Rattle.journal.proofs.Played.{no_notes}
use Rattle.journal.proofs.filing.file_turn.Goals as goal

pub returns-clause-notes : goal.returns-clause-notes
returns-clause-notes g c =
    let kept = kept_lines c.end_turn.new.self.lines (sym c.keeps.ensures ∙ c.if-not-keeps.false) in
    let turns = turns_as _ _ _ _ _ _ c.turn.ensures (λ w. w.0.notes) (λ x poll y moved. moved.0.1) (λ x note y moved. ap (λ w. w.notes) moved.1) (λ x choice y moved. moved) in
    c.clear.ensures ∙ no_notes c.end_turn.new.self kept.0 kept.1 (c.end_turn.ensures.heads ∙ (turns.noted c.requires).0)

pub returns-clause-played : goal.returns-clause-played
returns-clause-played g c =
    let kept = kept_lines c.end_turn.new.self.lines (sym c.keeps.ensures ∙ c.if-not-keeps.false) in
    let stored : List ℕ = g.T.Storage.stored c.args.storage.now in
    let appended : g.T.Storage.stored c.append.new.self ≡ stored ++ c.text.result.now = search rules in
    let lines : stored ++ kept.0 ≡ g.T.Storage.stored c.append.new.self = sym (appended ∙ ap (λ (t : List ℕ). stored ++ t) (c.text.ensures kept.0 kept.1)) in
    subst (λ (t : List ℕ). KeepsPlayed stored c.args.engine.now t c.turn.new.self) lines
    (keeps_turn _ _ _ _ _ _ c.turn.ensures (λ w. w.0.notes) (λ x poll y moved. moved.0.1) (λ x note y moved. ap (λ w. w.notes) moved.1) (λ x choice y moved. moved) c.requires _ c.end_turn.ensures.lines kept.0 kept.1 stored)
