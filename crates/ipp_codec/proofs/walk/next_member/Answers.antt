use Rattle.std.proofs.Common.{arith}
use Rattle.ipp_codec.specs.Views.{value_shown}
use Rattle.ipp_codec.proofs.ElementViews.{member_shown_next}
use Rattle.ipp_codec.proofs.walk.next_member.Goals as goal

pub returns-in-Some-next_value : goal.returns-in-Some-next_value
returns-in-Some-next_value c =
    let entry = rw c.in-Member.is at c.in-Some.ensures in
    let value = c.in-Some-next_value.ensures in
    (member_shown_next c.args.bytes.now c.loop-entry.rest.now c.in-Some.after.now c.in-Some-next_value.tail.now c.in-Member.name.now (value_shown c.in-Some-next_value.first) c.loop-entry.invariant.0 entry.0 value.0, omega (arith, entry.1, value.1, c.loop-entry.invariant.1), omega (arith, entry.1, value.2, c.loop-entry.invariant.1))
