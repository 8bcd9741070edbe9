use Rattle.std.proofs.Common.{◌-◌}
use Rattle.journal.proofs.client.Client.pass_ends.Given as goal

abbrev pub decreases-loop-self : goal.decreases-loop-self
decreases-loop-self l = l.self.parts.len - l.self.sent
