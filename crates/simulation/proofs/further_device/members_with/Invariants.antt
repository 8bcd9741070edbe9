use Rattle.std.proofs.Common.{◌+◌, ◌<◌, All}
use Rattle.simulation.proofs.further_device.members_with.Given as goal

abbrev pub invariant-loop-member : goal.invariant-loop-member
invariant-loop-member l = All (λ member. member < l.place + 1) l.all.items
