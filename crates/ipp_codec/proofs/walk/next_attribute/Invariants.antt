use Rattle.std.proofs.Common.{◌≡◌, ◌≤◌, length}
use Rattle.ipp_codec.specs.Views.{level}
use Rattle.ipp_codec.proofs.walk.next_attribute.Given as goal

abbrev pub invariant-loop-element : goal.invariant-loop-element
invariant-loop-element l = ((level l.bytes).attributes ≡ (level l.rest).attributes) × (length l.rest ≤ length l.bytes)

abbrev pub decreases-loop-element : goal.decreases-loop-element
decreases-loop-element l = length l.rest
