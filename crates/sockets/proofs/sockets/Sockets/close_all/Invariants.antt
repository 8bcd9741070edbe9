use Rattle.std.proofs.Common.{◌≡◌}
use Rattle.sockets.proofs.sockets.Sockets.close_all.Given as goal

abbrev pub invariant-loop-key : goal.invariant-loop-key
invariant-loop-key l = l.self.history ≡ l.initial.self.history
