use Rattle.spool_directory.specs.Starting.{GoesOn}
use Rattle.spool_directory.proofs.directory.Directory.follow_all.Given as goal

abbrev pub invariant-loop-number : goal.invariant-loop-number
invariant-loop-number l = GoesOn l.initial.played.resumption l.played.resumption
