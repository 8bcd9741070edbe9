use Rattle.std.proofs.Common.{◌≡◌, ◌≤◌, ◌++◌, length}
use Rattle.ipp_codec.specs.Views.{level}
use Rattle.ipp_codec.proofs.owning.own_attributes.Given as goal

abbrev pub invariant-loop-attribute : goal.invariant-loop-attribute
invariant-loop-attribute l =
    (l.owned.items ++ (level l.rest).attributes ≡ (level l.bytes).attributes) × (length l.rest ≤ length l.bytes)

abbrev pub decreases-loop-attribute : goal.decreases-loop-attribute
decreases-loop-attribute l = length l.rest
