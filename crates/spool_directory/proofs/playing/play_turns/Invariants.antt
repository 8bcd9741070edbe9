use Rattle.spool_directory.specs.Starting.{GoesOn}
use Rattle.spool_directory.proofs.playing.play_turns.Given as goal

abbrev pub invariant-loop : goal.invariant-loop
invariant-loop l = GoesOn l.initial.resumption l.resumption
