use Rattle.replay.proofs.PlayedTrace.{AreBusy}
use Rattle.replay.proofs.play.Play.take_turns.Given as goal

abbrev pub invariant-loop-turn : goal.invariant-loop-turn
invariant-loop-turn l = AreBusy l.initial.self l.self l._turn
