use Rattle.std.proofs.Common.{arith, refl}
use Rattle.replay.proofs.PlayedTrace.{one_busy, till_quiet, till_most}
use Rattle.replay.proofs.play.Play.take_turns.Goals as goal

pub returns-then-not-take_turn : goal.returns-then-not-take_turn
returns-then-not-take_turn c = till_quiet c.args.self.now c.loop-turn.self c.take_turn.new.self c.loop-turn._turn c.take_turn.result c.loop-turn.invariant c.take_turn.ensures c.if-not-take_turn.true c.loop-turn-test.true

pub loop-turn-preserved : goal.loop-turn-preserved
loop-turn-preserved c = one_busy c.args.self.now c.loop-turn.self c.take_turn.new.self c.loop-turn._turn _ c.take_turn.result c.loop-turn.invariant c.take_turn.ensures c.if-not-take_turn.false refl

pub returns : goal.returns
returns c = till_most c.args.self.now c.loop-turn.self c.loop-turn._turn c.loop-turn.invariant (omega (arith, c.loop-turn-test.false, c.loop-turn.auto._turn-end))
