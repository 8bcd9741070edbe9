use Rattle.std.proofs.Common.{ℕ, List, ◌∙◌, sym, subst, length, ap}
use Rattle.daemon.specs.declared.serving.Server.{Server}
use Rattle.daemon.specs.Serving.{ServesTurn}
use Rattle.daemon.specs.Journaling.{FilesTurn}
use Rattle.daemon.proofs.Turns.{serves_turn, serves_still}
use Rattle.daemon.proofs.Journal.{files_noted, files_none, files_after}
use Rattle.daemon.proofs.serving.Server.take.Goals.{then-has_happened, else-has_happened}
use Rattle.daemon.proofs.serving.Server.take.Goals as goal

pub returns-clause-turn : goal.returns-clause-turn
returns-clause-turn g c =
    let pass = c.args.pass in
    let turn = c.run_turn-seen.ensures in
    let notified = c.run_turn-seen.result.notified in
    let rested = c.visits-visits.new.self in
    elim c.if-has_happened.branch [
      | then-has_happened w ↦
          subst (λ (s : Server). ServesTurn pass c.args.moment c.args.self.now s) (sym w.self-is)
          (serves_turn pass c.args.moment notified c.args.self.now c.log_visits.new.self c.run_turn-seen.new.self rested w.note_turn.new.self c.log_visits.ensures turn c.visits-visits.ensures w.note_turn.ensures.idles w.note_turn.ensures.notes)
      | else-has_happened w ↦
          subst (λ (s : Server). ServesTurn pass c.args.moment c.args.self.now s) (sym w.self-is)
          (serves_still pass c.args.moment notified c.args.self.now c.log_visits.new.self c.run_turn-seen.new.self rested c.log_visits.ensures turn c.visits-visits.ensures)
    ]

pub returns-clause-filed : goal.returns-clause-filed
returns-clause-filed g c =
    let pass = c.args.pass in
    let turn = c.run_turn-seen.ensures in
    let notified = c.run_turn-seen.result.notified in
    let start = c.log_visits.new.self in
    let turned = c.run_turn-seen.new.self in
    let rested = c.visits-visits.new.self in
    elim c.if-has_happened.branch [
      | then-has_happened w ↦
          subst (λ (s : Server). FilesTurn c.args.self.now s) (sym w.self-is)
          (files_after c.args.self.now start w.note_turn.new.self c.log_visits.ensures
          (λ stored opening trace filed. files_noted c.turns_append_to_files.ensures pass c.args.moment notified start turned rested w.note_turn.new.self turn c.visits-visits.ensures w.note_turn.ensures.idles
          (w.note_turn.ensures.journal (c.visits-visits.ensures.0.2 ∙ (turn.journaled ∙ filed.journaled))) stored opening trace filed))
      | else-has_happened w ↦
          let none = c.has_happened.ensures w.if-has_happened.false in
          subst (λ (s : Server). FilesTurn c.args.self.now s) (sym w.self-is)
          (files_after c.args.self.now start rested c.log_visits.ensures
          (files_none c.quiet_turns_change_nothing.ensures pass c.args.moment notified (length c.text-before.result.now) (length c.text-after.result.now) start turned rested turn c.visits-visits.ensures (sym c.is_tick_due-ticks.ensures ∙ none.0) none.1 (λ text is. ap (λ (t : List ℕ). length t) (c.text-before.ensures text is)) (λ text is. ap (λ (t : List ℕ). length t) (c.text-after.ensures text is)) none.2))
    ]
