use Rattle.std.proofs.Common.{◌≡◌, ◌++◌, drop}
use Rattle.ipp_codec.specs.Message.{values_of, members_of}
use Rattle.ipp_codec.specs.Written.{values_written, members_written}
use Rattle.ipp_codec.specs.Grammar.{AreValues, AreMembers}
use Rattle.ipp_codec.specs.Owned.{values_owned, members_owned}
use Rattle.ipp_codec.proofs.spelling.+put.Given as goal

abbrev pub invariant-put_members-loop-member : goal.invariant-put_members-loop-member
invariant-put_members-loop-member l =
    (l.out.items ++ members_written (members_of (members_owned (drop l.member-index l.members))) ≡ l.fn.out.items ++ members_written (members_of (members_owned l.members)))
    × AreMembers l.limit (members_of (members_owned (drop l.member-index l.members)))

abbrev pub invariant-put_values-loop-value : goal.invariant-put_values-loop-value
invariant-put_values-loop-value l =
    (l.out.items ++ values_written (values_of (values_owned (drop l.value-index l.values))) ≡ l.fn.out.items ++ values_written (values_of (values_owned l.values)))
    × AreValues l.limit (values_of (values_owned (drop l.value-index l.values)))
