use Rattle.std.proofs.Common.{sym, ◌∙◌}
use Rattle.daemon.proofs.Journal.{sends_stored, sends_nothing, sends_then, files_then}
use Rattle.daemon.proofs.serving.Server.write_turn_logged.Goals as goal

pub returns-then-is_tick_due-clause-sends : goal.returns-then-is_tick_due-clause-sends
returns-then-is_tick_due-clause-sends g c = sends_nothing _ _ c.requires

pub returns-clause-sends : goal.returns-clause-sends
returns-clause-sends g c =
    sends_then c.args.self.now c.take-taken.new.self _ _
    (sends_stored c.sent_bytes_were_due.ensures c.args.moment c.args.self.now c.take-taken.new.self _ c.requires (sym c.is_tick_due.ensures ∙ c.if-is_tick_due.false) c.take-taken.ensures.turn) c.lines_of.ensures

pub returns-clause-filed : goal.returns-clause-filed
returns-clause-filed g c = files_then c.args.self.now c.take-taken.new.self _ c.take-taken.ensures.filed c.lines_of.ensures
