use Rattle.std.proofs.Common.{◌≡◌, ◌≤◌, length}
use Rattle.ipp_codec.specs.Views.{level}
use Rattle.ipp_codec.proofs.walk.next_member.Given as goal

abbrev pub invariant-loop-entry : goal.invariant-loop-entry
invariant-loop-entry l = ((level l.bytes).members ≡ (level l.rest).members) × (length l.rest ≤ length l.bytes)

abbrev pub decreases-loop-entry : goal.decreases-loop-entry
decreases-loop-entry l = length l.rest
