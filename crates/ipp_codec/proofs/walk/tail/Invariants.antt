use Rattle.std.proofs.Common.{◌≡◌, ◌≤◌, ◌+◌, drop, length}
use Rattle.ipp_codec.specs.Shown.{shown, below}
use Rattle.ipp_codec.proofs.walk.tail.Given as goal

abbrev pub invariant-loop-element : goal.invariant-loop-element
invariant-loop-element l = (drop l.open (shown l.rest) ≡ below (shown l.bytes)) × (1 ≤ l.open) × (l.open + length l.rest ≤ length l.bytes + 1)

abbrev pub decreases-loop-element : goal.decreases-loop-element
decreases-loop-element l = length l.rest
