use Rattle.std.proofs.Common.{rules, ◌++◌}
use Rattle.std.specs.Prelude.{codes}
use Rattle.spool_directory.proofs.Started.{one_more}
use Rattle.spool_directory.proofs.playing.play_turns.Goals as goal

pub loop-init : goal.loop-init
loop-init c playing = playing

pub loop-preserved : goal.loop-preserved
loop-preserved c = one_more c.args.resumption.now c.loop.resumption c.play.new.self (c.deref-in-loop.result.now ++ codes "\n") c.loop.invariant (search rules)
