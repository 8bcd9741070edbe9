use Rattle.std.proofs.Common.{rules}
use Rattle.journal.proofs.Played.{extends_turn}
use Rattle.journal.proofs.resumption.Resumption.take_turn.Goals as goal

pub returns : goal.returns
returns c =
    let starts = c.end_turn-2.ensures in
    extends_turn c.args.moment c.args.line.now c.args.self.now c.is_refused_memory.new.self c.end_turn-2.new.self c.requires c.is_refused_memory.ensures
    (c.is_noted_so.ensures.lines (search rules)) (c.is_noted_so.ensures.comments (search rules)) (record { stored = starts.stored; engine = starts.engine; none = starts.none; notes = starts.notes })
