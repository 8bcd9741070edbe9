use Rattle.std.proofs.Common.{◌↔◌, drop}
use Rattle.ipp_codec.specs.Message.{values_of, members_of}
use Rattle.ipp_codec.specs.Grammar.{AreValues, AreMembers}
use Rattle.ipp_codec.specs.Owned.{values_owned, members_owned}
use Rattle.ipp_codec.proofs.spelling.+check.Given as goal

abbrev pub invariant-are_members-loop-member : goal.invariant-are_members-loop-member
invariant-are_members-loop-member l = AreMembers l.limit (members_of (members_owned l.members)) ↔ AreMembers l.limit (members_of (members_owned (drop l.member-index l.members)))

abbrev pub invariant-are_values-loop-value : goal.invariant-are_values-loop-value
invariant-are_values-loop-value l = AreValues l.limit (values_of (values_owned l.values)) ↔ AreValues l.limit (values_of (values_owned (drop l.value-index l.values)))
