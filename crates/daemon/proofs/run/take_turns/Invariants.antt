use Rattle.std.proofs.Common.{◌≡◌, ℕ, List, length}
use Rattle.daemon.specs.Serving.{ServesTurns}
use Rattle.daemon.proofs.run.take_turns.Given as goal

abbrev pub invariant-loop : goal.invariant-loop
invariant-loop g l = (moments : List ℕ) × ServesTurns moments l.initial.server l.server × (length moments ≡ l.counter)
