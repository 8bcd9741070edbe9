use Rattle.std.proofs.Common.{◌≡◌, ◌≤◌, ◌-◌, length, take}
use Rattle.journal.proofs.same.same_octets.Given as goal

abbrev pub invariant-loop-start : goal.invariant-loop-start
invariant-loop-start l = (take l.start l.first ≡ take l.start l.second) × (l.start ≤ length l.first)

abbrev pub decreases-loop-start : goal.decreases-loop-start
decreases-loop-start l = length l.first - l.start
