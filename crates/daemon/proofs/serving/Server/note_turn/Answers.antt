use Rattle.daemon.proofs.RecordingWire.{lines_then, journal_then}
use Rattle.daemon.proofs.serving.Server.note_turn.Goals as goal

pub returns-clause-notes : goal.returns-clause-notes
returns-clause-notes c = lines_then c.args.moment c.args.refused c.args.self.now.wire.notes c.note_comments.new.self.wire.notes c.end_turn.new.self c.note_comments.ensures.notes c.end_turn.ensures.lines

pub returns-clause-journal : goal.returns-clause-journal
returns-clause-journal c is = journal_then c.args.moment c.args.refused c.args.self.now.journaled c.loses.result c.args.self.now.wire.notes c.note_comments.new.self.wire.notes c.end_turn.new.self c.loses.ensures c.if-loses.false c.note_comments.ensures.notes c.end_turn.ensures.heads c.end_turn.ensures.lines is
