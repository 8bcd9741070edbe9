use Rattle.std.proofs.Common.{List, ℕ, subst}
use Rattle.std.specs.Prelude.{OnOk}
use Rattle.recordings.specs.Lines.{IsLineOf}
use Rattle.recordings.specs.declared.entry.Entry.{Entry}
use Rattle.journal.specs.Resuming.{Extends}
use Rattle.journal.proofs.resumption.Resumption.take.Goals as goal

pub returns-in-Turn : goal.returns-in-Turn
returns-in-Turn c =
    subst (λ (more : List ℕ). OnOk c.take_turn.result (Extends more c.args.self.now c.take_turn.new.self))
    (subst (λ (e : Entry). IsLineOf c.args.line.now e) c.in-Turn.is c.requires) c.take_turn.ensures

pub returns-in-Restarted : goal.returns-in-Restarted
returns-in-Restarted c =
    subst (λ (more : List ℕ). OnOk c.set_restarted.result (Extends more c.args.self.now c.set_restarted.new.self))
    (subst (λ (e : Entry). IsLineOf c.args.line.now e) c.in-Restarted.is c.requires) c.set_restarted.ensures
