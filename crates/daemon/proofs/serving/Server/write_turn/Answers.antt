use Rattle.std.proofs.Common.{sym, ◌∙◌}
use Rattle.daemon.proofs.Journal.{sends_stored, sends_nothing}
use Rattle.daemon.proofs.serving.Server.write_turn.Goals as goal

pub returns-then-is_tick_due-clause-sends : goal.returns-then-is_tick_due-clause-sends
returns-then-is_tick_due-clause-sends g c = sends_nothing _ _ c.requires

pub returns-clause-sends : goal.returns-clause-sends
returns-clause-sends g c = sends_stored c.sent_bytes_were_due.ensures c.args.moment c.args.self.now c.take-taken.new.self _ c.requires (sym c.is_tick_due.ensures ∙ c.if-is_tick_due.false) c.take-taken.ensures.turn
