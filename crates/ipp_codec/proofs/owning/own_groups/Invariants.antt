use Rattle.std.proofs.Common.{◌≡◌, ◌≤◌, ◌++◌, length}
use Rattle.ipp_codec.specs.Views.{level}
use Rattle.ipp_codec.proofs.owning.own_groups.Given as goal

abbrev pub invariant-loop-group : goal.invariant-loop-group
invariant-loop-group l =
    (l.owned.items ++ (level l.rest).groups ≡ (level l.bytes).groups) × (length l.rest ≤ length l.bytes)

abbrev pub decreases-loop-group : goal.decreases-loop-group
decreases-loop-group l = length l.rest
