use Rattle.std.proofs.Common.{◌≡◌}
use Rattle.sockets.proofs.sockets.Sockets.look.Given as goal

abbrev pub invariant-loop : goal.invariant-loop
invariant-loop l = l.self.history ≡ l.initial.self.history
