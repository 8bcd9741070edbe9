use Rattle.std.proofs.Common.{◌≡◌, ◌≤◌, ◌+◌, ◌*◌, ◌++◌, length}
use Rattle.ipp_codec.specs.Message.{members_in}
use Rattle.ipp_codec.specs.Owned.{values_owned, members_owned}
use Rattle.ipp_codec.specs.Views.{level}
use Rattle.ipp_codec.proofs.owning.+own.Given as goal

abbrev pub invariant-own_values-loop-value : goal.invariant-own_values-loop-value
invariant-own_values-loop-value l =
    (values_owned l.owned.items ++ (level l.rest).values ≡ (level l.bytes).values) × (length l.rest ≤ length l.bytes)

abbrev pub decreases-own_values-loop-value : goal.decreases-own_values-loop-value
decreases-own_values-loop-value l = length l.rest

abbrev pub invariant-own_members-loop-member : goal.invariant-own_members-loop-member
invariant-own_members-loop-member l =
    (members_owned l.owned.items ++ members_in (level l.rest).members ≡ members_in (level l.bytes).members) × (length l.rest ≤ length l.bytes)

abbrev pub decreases-own_members-loop-member : goal.decreases-own_members-loop-member
decreases-own_members-loop-member l = length l.rest

abbrev pub decreases-own_value : goal.decreases-own_value
decreases-own_value l = 2 * length l.value.content.now + 1

abbrev pub decreases-own_values : goal.decreases-own_values
decreases-own_values l = 2 * length l.bytes.now

abbrev pub decreases-own_members : goal.decreases-own_members
decreases-own_members l = 2 * length l.bytes.now
