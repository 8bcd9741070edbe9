use Rattle.std.proofs.Common.{◌≡◌}
use Rattle.ipp_codec.specs.Views.{message_shown, groups_left}
use Rattle.ipp_requests.specs.Reply.{group_in}
use Rattle.ipp_requests.proofs.reply.group_in.Given as goal

abbrev pub invariant-loop-group : goal.invariant-loop-group
invariant-loop-group l =
    (goal.iterator-loop-group).can_next l.group-iterator
    × (goal.iterator-loop-group).is_finite l.group-iterator
    × (group_in l.tag (groups_left l.group-iterator) ≡ group_in l.tag (message_shown l.reply).groups)
